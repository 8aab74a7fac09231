-- The steps by which a composite is built, one after another.
use Rattle.art_rules.proofs.Common.{[], ap, arith, Contains, Err, err_from_is_err_and, false, IfErr, IsErrAnd, List, MatchResult, Ok, refl, Result, subst, sym, ℕ, ◌+◌, ◌<◌, ◌∙◌, ◌∷◌, ◌≡◌}
use Rattle.texture_build.specs.Rules.{Lump, PlacedPatch, PreparedTexture, ResultIs, ShelfView, lump_at}
use Rattle.art_rules.proofs.Laws.{all_stand_later, causes_then, follows_then}
use Rattle.lump_cache.specs.Zones.{Owner, Heap, owned_block, block_size, same_owner}
use Rattle.lump_cache.specs.{Orders.Item, Orders.KeepsOrder, DirectoryView.DirectoryView}
use Rattle.lump_cache.proofs.GapLemmas.{small_all}
use Rattle.zone_rules.proofs.OrderLemmas.{order_then}
use Rattle.lump_cache.specs.declared.fault.CacheFault.{CacheFault}
use Rattle.lump_cache.specs.declared.fault.CacheFault.TheVariants.{ZoneFull, ReadFault}
use Rattle.lump_cache.specs.Caches.{HasAsked, IsAtRestExcept, IsPinned, KeepsCounts, NoRoom, WhereFull, cache_fault, composite_owner, lump_owner}
use Rattle.lump_cache.specs.Calls.{IfFull, InOrderAt, HoldContents}
use Rattle.lump_cache.specs.Sizes.{IsGapBesideTwo}
use Rattle.texture_build.specs.Asked.{IsGapBesideComposite, size_of}
use Rattle.texture_build.specs.Builds.{KeepsBuild, IsFullForPatch, PutsPatches}
use Rattle.texture_build.proofs.FillLemmas.{others_then}

-- an error that goes on is the same
pub same_error : {B E : Type 0} (result : Result B E) (fault : E) (P : Result B E → Type 0) → IsErrAnd result (λ e. e ≡ fault) → P (Err fault) → P result
same_error result fault P is k = let error_is = err_from_is_err_and result is in subst P (sym (error_is.1 ∙ ap Err error_is.2)) k

pub counts_then : (x y z : Heap) → KeepsCounts x y → KeepsCounts y z → KeepsCounts x z
counts_then x y z first next = (next.0 ∙ first.0, next.1 ∙ first.1, next.2 ∙ first.2)

-- a call's answer, counted from before it
pub order_after : (items : List Item) (x y z : Heap) (a b c : ℕ) (result : Result (Unit {0}) CacheFault) → KeepsOrder items x y a b → MatchResult result (λ _. KeepsOrder items y z b c) (λ fault. InOrderAt (cache_fault fault) (KeepsOrder items y z b c)) →
    MatchResult result (λ _. KeepsOrder items x z a c) (λ fault. InOrderAt (cache_fault fault) (KeepsOrder items x z a c))
order_after items x y z a b c (Ok done) k next = order_then k next
order_after items x y z a b c (Err (ZoneFull wanted widest')) k next = next
order_after items x y z a b c (Err ReadFault) k next = tt

-- one step after another
module _ {number : ℕ} {u v w : ShelfView} {dir : DirectoryView} {x y z : Heap} where
  pub keeps_build_then : KeepsBuild number u v dir x y → KeepsBuild number v w dir y z → KeepsBuild number u w dir x z
  keeps_build_then first next = record {
    follows = follows_then first.follows next.follows;
    counts = counts_then x y z first.counts next.counts;
    rest = λ colormap count k. next.rest colormap count (first.rest colormap count k);
    faithful = λ contents stand k. next.faithful contents (all_stand_later u v dir.files contents first.follows stand) (first.faithful contents stand k);
    others = others_then first.others next.others;
    building = λ size k. next.building size (first.building size k);
  }

pub told_build : {number : ℕ} {u v : ShelfView} {dir : DirectoryView} {x y : Heap} {contents : List (List ℕ)} → KeepsBuild number u v dir x y → HoldContents u dir x contents → HoldContents v dir y contents
told_build {u} {v} {dir} {contents} keeps told = record {
  stand = all_stand_later u v dir.files contents keeps.follows told.stand;
  within = told.within;
  faithful = keeps.faithful contents told.stand told.faithful;
}

module _ {number : ℕ} (t : PreparedTexture) {u v : ShelfView} {dir : DirectoryView} {x y : Heap} (keeps : KeepsBuild number u v dir x y) where
  -- a zone that was full for a patch was so from the beginning
  patch_earlier : (wanted widest' : ℕ) → IsFullForPatch dir.lumps number t y wanted widest' → IsFullForPatch dir.lumps number t x wanted widest'
  patch_earlier wanted widest' full = record {
    owner = full.owner;
    size = full.size;
    asked = full.asked;
    wanted_is = full.wanted_is;
    narrow = full.narrow;
    gap = λ colormap count rest building. subst (λ (n : ℕ). IsGapBesideComposite n count (size_of t) widest') keeps.counts.0 (full.gap colormap count (keeps.rest colormap count rest) (keeps.building (size_of t) building));
  }

  full_earlier : (result : Result (Unit {0}) CacheFault) → IfErr result (λ fault. IfFull (cache_fault fault) (IsFullForPatch dir.lumps number t y)) → IfErr result (λ fault. IfFull (cache_fault fault) (IsFullForPatch dir.lumps number t x))
  full_earlier (Ok done) k = tt
  full_earlier (Err (ZoneFull wanted widest')) k = patch_earlier wanted widest' k
  full_earlier (Err ReadFault) k = tt

-- no gap held a block of that size
pub narrow_where : (size : ℕ) (z : Heap) (wanted widest' : ℕ) → NoRoom size z wanted widest' → widest' < wanted
narrow_where size z wanted widest' full = omega (arith, full.wanted_is, full.widest_is, small_all (block_size size) _ (omega arith) full.none)

-- the zone was full for a patch of the texture
pub patch_full : (lumps : List Lump) (number : ℕ) (t : PreparedTexture) (patch : PlacedPatch) (z : Heap) (r : Result (Unit {0}) CacheFault) → Contains t.patches patch → WhereFull r (NoRoom (lump_at lumps patch.lump).size z) →
    ((colormap count : ℕ) (o : Owner) (asked : ℕ) → IsAtRestExcept colormap count (o ∷ []) z → same_owner (lump_owner colormap) o ≡ false → HasAsked asked (owned_block o z.blocks) → IsPinned (owned_block o z.blocks) → WhereFull r (λ wanted widest'. IsGapBesideTwo z.size (block_size count + block_size asked) widest')) →
    IfErr r (λ fault. IfFull (cache_fault fault) (IsFullForPatch lumps number t z))
patch_full lumps number t patch z (Ok done) among full gap = tt
patch_full lumps number t patch z (Err ReadFault) among full gap = tt
patch_full lumps number t patch z (Err (ZoneFull wanted widest')) among full gap = record {
  owner = lump_owner patch.lump;
  size = (lump_at lumps patch.lump).size;
  asked = (patch, among, refl, refl);
  wanted_is = full.wanted_is;
  narrow = narrow_where (lump_at lumps patch.lump).size z wanted widest' full;
  gap = λ colormap count rest building. gap colormap count (composite_owner number) (size_of t) rest refl building.asked building.pinned;
}

module _ {number : ℕ} {t : PreparedTexture} {i j k : ℕ} {u v w : ShelfView} {dir : DirectoryView} {x y z : Heap} where
  pub puts_then : {result : Result (Unit {0}) CacheFault} → PutsPatches number t i j u v dir x y (Ok tt) → PutsPatches number t j k v w dir y z result → PutsPatches number t i k u w dir x z result
  puts_then {result} first next = record {
    keeps = keeps_build_then first.keeps next.keeps;
    answers = λ contents stand within. subst (λ s. ResultIs cache_fault s (λ (done : Unit {0}). done) (Ok tt) result) first.keeps.follows.steady (next.answers contents (all_stand_later u v dir.files contents first.keeps.follows stand) within);
    causes = causes_then first.causes.ok next.causes;
    full = full_earlier t first.keeps result next.full;
    order = λ items all ord. let ordered_before = first.order items all ord in order_after items x y z u.taken v.taken w.taken result ordered_before (next.order items all ordered_before.order);
    put = λ contents told has. next.put contents (told_build first.keeps told) (first.put contents told has);
  }

-- a fault stops the call, wherever it would have come to
pub puts_stop : {number : ℕ} {t : PreparedTexture} {i j : ℕ} (k : ℕ) {v w : ShelfView} {dir : DirectoryView} {x y : Heap} {fault : CacheFault} → PutsPatches number t i j v w dir x y (Err fault) → PutsPatches number t i k v w dir x y (Err fault)
puts_stop k puts = record {
  keeps = puts.keeps;
  answers = puts.answers;
  causes = puts.causes;
  full = puts.full;
  order = puts.order;
  put = λ contents told has. tt;
}
