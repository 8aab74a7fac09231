use Rattle.zone_rules.proofs.Common.{rules, refl, arith, common_steps}
use Rattle.zone_heap.proofs.pair.with_parts.Goals as goal

pub returns-then-read-write-clause-parts : goal.returns-then-read-write-clause-parts
returns-then-read-write-clause-parts g c = (
  c.f.new.arg3,
  search rules,
  record { read = _; shown = _; left = _; reads = grind (arith, common_steps); shows = search rules; met = c.f.ensures; leaves = refl },
  grind (arith, common_steps),
)
