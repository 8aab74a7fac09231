-- After a request that finds no room every purgeable block is purged.
use Rattle.zone_rules.proofs.Common.{◌≡◌, ℕ, ◌+◌, ◌<◌, Bool, true, false, cond, ◌&&◌, List, [], ◌∷◌, ◌++◌, map, Option, Some, None, refl, sym, subst, ap, ◌∙◌, All, All-nil, All-cons, All-head, All-tail}
use Rattle.zone_heap.specs.Rules.{Block, Heap, IsSound, Tiles, after_search, blocks_from, first_room, free_block, gaps, is_free, is_purgeable, join_free, join_on, passed_blocks, purge_among, purge_block, start_in, stretches}
use Rattle.zone_heap.specs.Walks.{fit_from}
use Rattle.zone_rules.proofs.PurgeLemmas.{unpinned, covers_after, covers_itself, purge_covered}
use Rattle.zone_heap.proofs.SearchLemmas.{NoFit, fit_is, no_fit, found_first, found_later}

no_room_first : (w : ℕ) (gs hs : List (List Block)) → first_room w (gs ++ hs) ≡ None → first_room w gs ≡ None
no_room_first w gs hs e = go (first_room w gs) refl where
  go : (r : Option ℕ) → first_room w gs ≡ r → r ≡ None
  go None k = refl
  go (Some p) k = let found_too = (found_first w p gs hs k).0 in cc

no_fit_of : (w p q : ℕ) (bs : List Block) → 0 < w → Tiles p q bs → first_room w (gaps bs) ≡ None → NoFit w bs
no_fit_of w p q bs pos t e = go (fit_from w 0 0 0 bs) refl where
  go : (r : Option (ℕ × ℕ)) → fit_from w 0 0 0 bs ≡ r → NoFit w bs
  go None k = no_fit w p q bs pos t k
  go (Some r) k = let fit_there = fit_is w p q bs r pos t k in let room_there = fit_there.place_is in absurd (cc)

pub full_purges : (w : ℕ) (z : Heap) → IsSound z → 0 < w → first_room w (stretches z.rover z.blocks) ≡ None
    → purge_among (passed_blocks w (stretches z.rover z.blocks)) z.blocks ≡ map purge_block z.blocks
full_purges w z s pos e =
    let zone_blocks = z.blocks in let front = gaps (blocks_from (start_in z.rover zone_blocks) zone_blocks) in
    let no_room_in_front = no_room_first w front (gaps zone_blocks) e in let found_behind_front = found_later w front (gaps zone_blocks) no_room_in_front in
    let fit = no_fit_of w 0 z.size zone_blocks pos s.tiles (sym found_behind_front.0 ∙ e) in
    ap (λ ch. purge_among ch zone_blocks) (found_behind_front.1 ∙ ap (λ xs. passed_blocks w front ++ xs) fit.passed_is)
    ∙ purge_covered _ zone_blocks (covers_after (passed_blocks w front) (unpinned zone_blocks) zone_blocks (covers_itself zone_blocks))

abbrev pub NotPurgeable : Block → Type 0
NotPurgeable b = is_purgeable b ≡ false

purged_stays : (b : Block) → NotPurgeable (purge_block b)
purged_stays b = go (is_purgeable b) refl where
  go : (t : Bool) → is_purgeable b ≡ t → is_purgeable (cond t (free_block b.place b.size) b) ≡ false
  go true e = refl
  go false e = e

all_purged : (bs : List Block) → All NotPurgeable (map purge_block bs)
all_purged [] = All-nil NotPurgeable
all_purged (b ∷ bs) = All-cons NotPurgeable (purge_block b) (map purge_block bs) (purged_stays b) (all_purged bs)

join_on_all : (b : Block) (bs : List Block) → NotPurgeable b → All NotPurgeable bs → All NotPurgeable (join_on b bs)
join_on_all b [] h a = All-cons NotPurgeable b [] h a
join_on_all b (c ∷ cs) h a = go (is_free b && is_free c) where
  go : (t : Bool) → All NotPurgeable (cond t (free_block b.place (b.size + c.size) ∷ cs) (b ∷ c ∷ cs))
  go true = All-cons NotPurgeable (free_block b.place (b.size + c.size)) cs refl (All-tail NotPurgeable c cs a)
  go false = All-cons NotPurgeable b (c ∷ cs) h a

join_all : (bs : List Block) → All NotPurgeable bs → All NotPurgeable (join_free bs)
join_all [] a = a
join_all (b ∷ bs) a = join_on_all b (join_free bs) (All-head NotPurgeable b bs a) (join_all bs (All-tail NotPurgeable b bs a))

pub full_all : (w : ℕ) (z : Heap) → IsSound z → 0 < w → first_room w (stretches z.rover z.blocks) ≡ None → All NotPurgeable (after_search w z)
full_all w z s pos e = subst (λ bs. All NotPurgeable (join_free bs)) (sym (full_purges w z s pos e)) (join_all (map purge_block z.blocks) (all_purged z.blocks))
