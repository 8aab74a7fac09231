use Rattle.std.proofs.Common.{◌-◌, ◌≤◌, length}
use Rattle.zone_heap.proofs.PurgeLemmas.{PurgedTo}
use Rattle.zone_heap.proofs.search.purge.Given as goal

abbrev pub invariant-loop-at : goal.invariant-loop-at
invariant-loop-at l = record {
  purged : PurgedTo l.initial.region l.initial.homes l.region l.homes l.from l.at l.passed l.count;
  within : l.passed ≤ l.most;
}

abbrev pub decreases-loop-at : goal.decreases-loop-at
decreases-loop-at l = length l.region - l.at
