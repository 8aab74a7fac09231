use Rattle.zone_rules.proofs.Common.{arith, ap, sym, subst, length, List, ℕ, with_items_is}
use Rattle.zone_heap.specs.Regions.{IsRing}
use Rattle.zone_heap.proofs.zone.make_parts.Goals as goal

pub returns-clause-ring : goal.returns-clause-ring
returns-clause-ring c =
    let vec_length = c.in_ok-region.region.ok.0 in let size_kept = c.lay_free.ensures.len in
    let length_before = ap (λ (xs : List ℕ). length xs) c.deref_mut.ensures.value in
    let vec_kept = c.deref_mut.ensures.len in
    subst IsRing (sym (with_items_is c.in_ok-region.region c.lay_free.new.region (omega arith))) c.lay_free.ensures.ring
