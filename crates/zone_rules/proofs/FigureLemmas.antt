-- The figures of a zone add up to its size.
use Rattle.zone_rules.proofs.Common.{◌≡◌, ℕ, ◌+◌, Bool, true, false, cond, not, List, [], ◌∷◌, Option, Some, None, refl, arith, sum_by-cons, is_none}
use Rattle.zone_rules.specs.Zones.{Block, Holding, Tiles, is_free, is_pinned, is_purgeable, is_purgeable_tag, pins, may_purge, used_size, purgeable_size, free_size}
use Rattle.zone_rules.specs.Requests.{total}
use Rattle.zone_rules.proofs.{GapLemmas.total-cons, PurgeLemmas.tiles_end}

one_part : (size : ℕ) (h : Option Holding) → cond (pins h) size 0 + cond (may_purge h) size 0 + cond (is_none h) size 0 ≡ size
one_part size None = omega arith
one_part size (Some h) = go (is_purgeable_tag h.tag) where
  go : (t : Bool) → cond (not t) size 0 + cond t size 0 + 0 ≡ size
  go true = omega arith
  go false = omega arith

pub parts_total : (bs : List Block) → used_size bs + purgeable_size bs + free_size bs ≡ total bs
parts_total [] = refl
parts_total (b ∷ bs) =
    let used_sum = sum_by-cons (λ (c : Block). cond (is_pinned c) c.size 0) b bs in
    let purgeable_sum = sum_by-cons (λ (c : Block). cond (is_purgeable c) c.size 0) b bs in
    let free_sum = sum_by-cons (λ (c : Block). cond (is_free c) c.size 0) b bs in
    let total_is = total-cons b bs in
    let block_parts = one_part b.size b.holding in
    let rest_parts = parts_total bs in
    omega arith

pub parts_are_size : (size : ℕ) (bs : List Block) → Tiles 0 size bs → used_size bs + purgeable_size bs + free_size bs ≡ size
parts_are_size size bs t = let end_is = tiles_end 0 size bs t in let parts_sum = parts_total bs in omega arith
