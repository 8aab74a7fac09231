use Rattle.std.proofs.Common.{◌-◌, length}
use Rattle.zone_heap.proofs.PartLemmas.{HasPassed}
use Rattle.zone_heap.proofs.search.start_place.Given as goal

abbrev pub invariant-loop-at : goal.invariant-loop-at
invariant-loop-at l = HasPassed l.rover l.region l.at

abbrev pub decreases-loop-at : goal.decreases-loop-at
decreases-loop-at l = length l.region - l.at
