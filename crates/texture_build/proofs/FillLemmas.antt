-- What a composite that is being built is, where its bytes or other blocks change.
use Rattle.art_rules.proofs.Common.{[], ap, Bool, cond, cond-true, false, IsSome, length, List, map, None, Option, option_and_then, option_map, refl, Some, subst, sym, true, ℕ, ◌==◌, ◌∙◌, ◌∷◌, ◌≡◌}
use Rattle.art_rules.specs.Words.{Lump}
use Rattle.lump_cache.specs.{Tag.TheVariants.Level, Frees.write_block, Frees.write_holding}
use Rattle.lump_cache.specs.Zones.{Owner, Holding, Block, Heap, IsLive, is_held_by, owned_block, bytes_of, same_owner, pins}
use Rattle.lump_cache.specs.Orders.{Item, IsInOrder, KeepsOrder}
use Rattle.lump_cache.proofs.OwnerLemmas.{owned_block-map, write_held}
use Rattle.lump_cache.proofs.{OrderChangeLemmas.order_written, CallLemmas.bytes_then}
use Rattle.lump_cache.specs.Caches.{HasAsked, HasBlock, HasUse, IsAsked, IsAtRestExcept, IsFaithful, IsFilled, IsPinned, KeepsCounts, KeptOrPurged, composite_owner}
use Rattle.lump_cache.proofs.{FaithLemmas.bytes_in, FillLemmas.filled_others}
use Rattle.lump_cache.proofs.RestButLemmas.{rest_but_written, written_pinned}
use Rattle.lump_cache.proofs.{WriteLemmas.write_faithful, FetchLemmas.others_keep}
use Rattle.texture_build.specs.Builds.{IsBuilding, OthersKeep}

-- a block that has what was asked for is live
asked_live : (size : ℕ) (b : Option Block) → HasAsked size b → IsSome (option_and_then (λ (x : Block). x.holding) b)
asked_live size None k = absurd k
asked_live size (Some b) k = go b.holding k where
  go : (h : Option Holding) → IsAsked size h → IsSome h
  go None k = absurd k
  go (Some h) k = refl

pub building_live : {number size : ℕ} {z : Heap} → IsBuilding number size z → IsLive z (composite_owner number)
building_live {number} {size} {z} b = asked_live size (owned_block (composite_owner number) z.blocks) b.asked

-- a block that was taken is pinned
taken_pinned : (size : ℕ) (b : Option Block) → HasBlock Level size b → IsPinned b
taken_pinned size None k = absurd k
taken_pinned size (Some b) k = go b.holding k where
  go : (h : Option Holding) → HasUse Level size h → pins h ≡ true
  go None k = absurd k
  go (Some h) k = ap (λ t. pins (Some (record h { tag = t }))) k.0

taken_asked : (size : ℕ) (b : Option Block) → HasBlock Level size b → HasAsked size b
taken_asked size None k = absurd k
taken_asked size (Some b) k = go b.holding k where
  go : (h : Option Holding) → HasUse Level size h → IsAsked size h
  go None k = absurd k
  go (Some h) k = k.1

pub building_taken : (number size : ℕ) (z : Heap) → HasBlock Level size (owned_block (composite_owner number) z.blocks) → IsBuilding number size z
building_taken number size z k = record { pinned = taken_pinned size (owned_block (composite_owner number) z.blocks) k; asked = taken_asked size (owned_block (composite_owner number) z.blocks) k }

-- and it has as many bytes as were asked for
pub taken_length : (size : ℕ) (b : Option Block) (xs : List ℕ) → HasBlock Level size b → bytes_in b ≡ Some xs → length xs ≡ size
taken_length size None xs k e = absurd k
taken_length size (Some b) xs k e = go b.holding k e where
  go : (h : Option Holding) → HasUse Level size h → option_map (λ (x : Holding). x.bytes) h ≡ Some xs → length xs ≡ size
  go None k e = absurd k
  go (Some h) k e = let bytes_are : h.bytes ≡ xs = cc in ap length (sym bytes_are) ∙ k.2

-- the composite's block is the same
pub building_same : {number : ℕ} (size : ℕ) {old new : Heap} → owned_block (composite_owner number) new.blocks ≡ owned_block (composite_owner number) old.blocks → IsBuilding number size old → IsBuilding number size new
building_same size e b = record { pinned = subst IsPinned (sym e) b.pinned; asked = subst (HasAsked size) (sym e) b.asked }

-- the bytes of other composites
pub others_then : {number : ℕ} {x y z : Heap} → OthersKeep number x y → OthersKeep number y z → OthersKeep number x z
others_then {x} {y} {z} first next = record { at = λ n apart. bytes_then (bytes_of (composite_owner n) x.blocks) (bytes_of (composite_owner n) y.blocks) (bytes_of (composite_owner n) z.blocks) (first.at n apart) (next.at n apart) }

-- each composite is as it was, or was purged
pub others_kept : (number : ℕ) (old new : Heap) → ((n : ℕ) → (number == n) ≡ false → KeptOrPurged (owned_block (composite_owner n) old.blocks) (owned_block (composite_owner n) new.blocks)) → OthersKeep number old new
others_kept number old new kept = record { at = λ n apart. others_keep (owned_block (composite_owner n) old.blocks) (owned_block (composite_owner n) new.blocks) (kept n apart) }

-- new bytes of an owner
module _ (o : Owner) (w : List ℕ) where
  written_is : (bs : List Block) → owned_block o (map (write_block o w) bs) ≡ option_map (write_block o w) (owned_block o bs)
  written_is bs = owned_block-map o (write_block o w) (λ b. write_held o o w b) bs

  written_asked : (size : ℕ) (bs : List Block) → HasAsked size (owned_block o bs) → HasAsked size (owned_block o (map (write_block o w) bs))
  written_asked size bs k = subst (HasAsked size) (sym (written_is bs)) (block (owned_block o bs) k) where
    set : (h : Option Holding) → IsAsked size h → IsAsked size (write_holding w h)
    set None k = k
    set (Some h) k = k

    block : (b : Option Block) → HasAsked size b → HasAsked size (option_map (write_block o w) b)
    block None k = k
    block (Some b) k = go (is_held_by o b) where
      go : (t : Bool) → IsAsked size (cond t (record b { holding = write_holding w b.holding }) b).holding
      go true = set b.holding k
      go false = k

  owned_held : (b : Block) (bs : List Block) → owned_block o bs ≡ Some b → is_held_by o b ≡ true
  owned_held b [] e = cc
  owned_held b (c ∷ bs) e = go (is_held_by o c) refl e (λ k. owned_held b bs k) where
    go : (t : Bool) → is_held_by o c ≡ t → cond t (Some c) (owned_block o bs) ≡ Some b → (owned_block o bs ≡ Some b → is_held_by o b ≡ true) → is_held_by o b ≡ true
    go true h k rest = let block_is : c ≡ b = cc in ap (is_held_by o) (sym block_is) ∙ h
    go false h k rest = rest k

  written_bytes : (before : List ℕ) (bs : List Block) → bytes_of o bs ≡ Some before → bytes_of o (map (write_block o w) bs) ≡ Some w
  written_bytes before bs e = ap bytes_in (written_is bs) ∙ block (owned_block o bs) refl e where
    set : (h : Option Holding) → option_map (λ (x : Holding). x.bytes) h ≡ Some before → option_map (λ (x : Holding). x.bytes) (write_holding w h) ≡ Some w
    set None e = cc
    set (Some h) e = refl

    block : (b : Option Block) → owned_block o bs ≡ b → bytes_in b ≡ Some before → bytes_in (option_map (write_block o w) b) ≡ Some w
    block None is e = cc
    block (Some b) is e = ap (λ (c : Block). option_map (λ (x : Holding). x.bytes) c.holding) (cond-true (is_held_by o b) (record b { holding = write_holding w b.holding }) b (owned_held b bs is)) ∙ set b.holding e

-- the composite has other bytes
module _ {number : ℕ} {old new : Heap} {P : List ℕ → Type 0} (f : IsFilled (composite_owner number) old new P) where
  pub filled_counts : KeepsCounts old new
  filled_counts = subst (KeepsCounts old) (sym f.zone) (refl, refl, refl)

  pub filled_faithful : (contents : List (List ℕ)) (lumps : List Lump) → IsFaithful contents lumps old → IsFaithful contents lumps new
  filled_faithful contents lumps k = write_faithful (composite_owner number) f.bytes old f.zone (λ n. refl) contents lumps k

  pub filled_rest : (colormap count : ℕ) (pinned : List Owner) → IsAtRestExcept colormap count pinned old → IsAtRestExcept colormap count pinned new
  filled_rest colormap count pinned k = subst (IsAtRestExcept colormap count pinned) (sym f.zone) (rest_but_written (composite_owner number) f.bytes colormap count pinned old refl k)

  pub filled_order : (items : List Item) (taken : ℕ) → IsInOrder items old → KeepsOrder items old new taken taken
  filled_order items taken k = subst (λ (z : Heap). KeepsOrder items old z taken taken) (sym f.zone) (order_written (composite_owner number) f.bytes items old taken k)

  pub filled_same : (o : Owner) → same_owner (composite_owner number) o ≡ false → owned_block o new.blocks ≡ owned_block o old.blocks
  filled_same o apart = filled_others (composite_owner number) old new P f o apart

  pub filled_building : (size : ℕ) → IsBuilding number size old → IsBuilding number size new
  filled_building size b = subst (IsBuilding number size) (sym f.zone) (record {
    pinned = written_pinned (composite_owner number) f.bytes (composite_owner number) old.blocks b.pinned;
    asked = written_asked (composite_owner number) f.bytes size old.blocks b.asked;
  })

  pub filled_bytes : bytes_of (composite_owner number) new.blocks ≡ Some f.bytes
  filled_bytes = ap (λ (z : Heap). bytes_of (composite_owner number) z.blocks) f.zone ∙ written_bytes (composite_owner number) f.bytes f.before old.blocks f.before_is
