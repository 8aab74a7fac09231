-- How the building of a composite ends.
use Rattle.art_rules.proofs.Common.{ap, Err, IfErr, inl, inr, length, List, MatchResult, None, Ok, OnOk, Option, refl, replicate, Result, Some, subst, sym, true, ℕ, ◌∙◌, ◌≡◌}
use Rattle.texture_build.specs.Rules.{Composed, Lump, PreparedTexture}
use Rattle.lump_cache.specs.Zones.{Owner, Holding, Heap, IsLive, bytes_of, holding_of}
use Rattle.lump_cache.specs.Orders.{Item, IsInOrder, KeepsOrder, is_live}
use Rattle.zone_rules.proofs.OrderLemmas.{order_then}
use Rattle.lump_cache.specs.{declared.fault.CacheFault.CacheFault, Tag.TheVariants.Cache}
use Rattle.lump_cache.specs.declared.fault.CacheFault.TheVariants.{ZoneFull, ReadFault}
use Rattle.lump_cache.specs.Caches.{cache_fault, composite_owner, release_heap, released_heap}
use Rattle.lump_cache.proofs.{FaithLemmas.unless_static_bytes, OrderLemmas.live_unless_static}
use Rattle.lump_cache.specs.Calls.{IfFull, InOrderAt}
use Rattle.art_rules.proofs.LookupLemmas.{composite_of_first-none, composite_of_first-all}
use Rattle.texture_build.specs.Asked.{IsGapBesideComposite, IsFullForColumn, size_of}
use Rattle.texture_build.specs.Builds.{StartsComposite, FailsToBegin, IsFullForPatch, HasBuilt}
use Rattle.texture_build.specs.Composites.{composite_of}

-- a release leaves each block's bytes, and each live block live
released_bytes : (o p : Owner) (z : Heap) → bytes_of p (release_heap o z).blocks ≡ bytes_of p z.blocks
released_bytes o p z = go (holding_of o z.blocks) where
  go : (h : Option Holding) → bytes_of p (released_heap o z h).blocks ≡ bytes_of p z.blocks
  go None = refl
  go (Some h) = unless_static_bytes o p Cache z

released_live : (o p : Owner) (z : Heap) → IsLive z p → IsLive (release_heap o z) p
released_live o p z k = go (holding_of o z.blocks) where
  go : (h : Option Holding) → is_live (released_heap o z h).blocks p ≡ true
  go None = k
  go (Some h) = live_unless_static o p Cache z k

-- where no patch is put each byte of a composite is 0, and once all are put it is the texture's
pub built_none : (bytes : ℕ → List ℕ) (number : ℕ) (t : PreparedTexture) (z : Heap) → bytes_of (composite_owner number) z.blocks ≡ Some (replicate (size_of t) 0) → HasBuilt bytes number t 0 z
built_none bytes number t z is = is ∙ ap Some (sym (composite_of_first-none bytes t.patches (length t.columns) t.height))

built_all : (bytes : ℕ → List ℕ) (number : ℕ) (t : PreparedTexture) (z : Heap) → HasBuilt bytes number t (length t.patches) z → bytes_of (composite_owner number) z.blocks ≡ Some (composite_of bytes t)
built_all bytes number t z is = is ∙ ap Some (composite_of_first-all bytes t.patches (length t.columns) t.height)

-- what was built is live once it is released, and has the texture's bytes
module _ (number : ℕ) (put new : Heap) where
  pub ends_live : (built : Result (Unit {0}) CacheFault) → IsLive put (composite_owner number) → OnOk built (new ≡ release_heap (composite_owner number) put) → OnOk built (IsLive new (composite_owner number))
  ends_live (Ok done) live e = subst (λ (z : Heap). IsLive z (composite_owner number)) (sym e) (released_live (composite_owner number) (composite_owner number) put live)
  ends_live (Err fault) live e = tt

  pub ends_built : (built : Result (Unit {0}) CacheFault) (bytes : ℕ → List ℕ) (t : PreparedTexture) → OnOk built (HasBuilt bytes number t (length t.patches) put) → OnOk built (new ≡ release_heap (composite_owner number) put) → OnOk built (bytes_of (composite_owner number) new.blocks ≡ Some (composite_of bytes t))
  ends_built (Ok done) bytes t has e = ap (λ (z : Heap). bytes_of (composite_owner number) z.blocks) e ∙ released_bytes (composite_owner number) (composite_owner number) put ∙ built_all bytes number t put has
  ends_built (Err fault) bytes t has e = tt

-- its order is kept, and a fault in a zone that was in order is no want of room
pub ends_order : (items : List Item) (old begun put new : Heap) (before after : ℕ) (built : Result (Unit {0}) CacheFault) → KeepsOrder items old begun before before →
    MatchResult built (λ _. KeepsOrder items begun put before after) (λ fault. InOrderAt (cache_fault fault) (KeepsOrder items begun put before after)) → OnOk built ((all : List Item) (taken : ℕ) → IsInOrder all put → KeepsOrder all put new taken taken) →
    MatchResult built (λ _. KeepsOrder items old new before after) (λ fault. InOrderAt (cache_fault fault) (KeepsOrder items old new before after))
ends_order items old begun put new before after (Ok done) first next last = order_then first (order_then next (last items after next.order))
ends_order items old begun put new before after (Err (ZoneFull wanted widest')) first next last = next
ends_order items old begun put new before after (Err ReadFault) first next last = tt

module _ (lumps : List Lump) (number : ℕ) (t : PreparedTexture) (place : ℕ) (old : Heap) where
  -- the composite found no room
  pub composite_full : (new : Heap) (wanted widest' : ℕ) → FailsToBegin number (size_of t) old new wanted widest' → IsFullForColumn lumps number t (Composed place) old wanted widest'
  composite_full new wanted widest' full = record {
    owner = composite_owner number;
    size = size_of t;
    asked = inl (refl, refl);
    wanted_is = full.wanted_is;
    narrow = full.narrow;
    gap = λ colormap count rest. inl (full.gap colormap count rest);
  }

  -- a patch found none while the composite was pinned
  begun_full : (begun : Heap) (wanted widest' : ℕ) → StartsComposite number (size_of t) old begun → IsFullForPatch lumps number t begun wanted widest' → IsFullForColumn lumps number t (Composed place) old wanted widest'
  begun_full begun wanted widest' begins full = record {
    owner = full.owner;
    size = full.size;
    asked = inr full.asked;
    wanted_is = full.wanted_is;
    narrow = full.narrow;
    gap = λ colormap count rest. inr (tt, full.asked, subst (λ (n : ℕ). IsGapBesideComposite n count (size_of t) widest') begins.counts.0 (full.gap colormap count (begins.rest colormap count rest) begins.building));
  }

  pub ends_full : (begun : Heap) (built : Result (Unit {0}) CacheFault) → StartsComposite number (size_of t) old begun → IfErr built (λ fault. IfFull (cache_fault fault) (IsFullForPatch lumps number t begun)) → IfErr built (λ fault. IfFull (cache_fault fault) (IsFullForColumn lumps number t (Composed place) old))
  ends_full begun (Ok done) begins full = tt
  ends_full begun (Err (ZoneFull wanted widest')) begins full = begun_full begun wanted widest' begins full
  ends_full begun (Err ReadFault) begins full = tt
