use Rattle.zone_rules.proofs.Common.{rules, refl, arith, common_steps}
use Rattle.zone_heap.proofs.pair.with_part_and.Goals as goal

pub returns-clause-part : goal.returns-clause-part
returns-clause-part g c = (
  c.f.new.arg2,
  search rules,
  record { shown = _; context = _; left = _; context_left = _; shows = search rules; context_is = refl; met = c.f.ensures; leaves = refl; context_leaves = refl },
  grind (arith, common_steps),
)
