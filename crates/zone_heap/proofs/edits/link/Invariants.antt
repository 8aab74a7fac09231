use Rattle.std.proofs.Common.{◌-◌, length}
use Rattle.zone_heap.proofs.EditLemmas.{LinkedTo}
use Rattle.zone_heap.proofs.edits.link.Given as goal

abbrev pub invariant-loop-at : goal.invariant-loop-at
invariant-loop-at l = LinkedTo l.initial.region l.region l.at l.previous

abbrev pub decreases-loop-at : goal.decreases-loop-at
decreases-loop-at l = length l.region - l.at
