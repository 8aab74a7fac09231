use Rattle.std.proofs.Common.{◌-◌, length}
use Rattle.zone_heap.proofs.EditLemmas.{JoinedTo}
use Rattle.zone_heap.proofs.edits.join.Given as goal

abbrev pub invariant-loop-next : goal.invariant-loop-next
invariant-loop-next l = JoinedTo l.initial.region l.region l.at l.next

abbrev pub decreases-loop-next : goal.decreases-loop-next
decreases-loop-next l = length l.region - l.next
