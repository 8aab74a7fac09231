use Rattle.std.proofs.Common.{◌≡◌, ◌≤◌, ◌-◌, length}
use Rattle.zone_heap.specs.Regions.{blocks_in, blocks_from, IsSplit}
use Rattle.zone_heap.specs.Walks.{widest_from}
use Rattle.zone_heap.proofs.search.widest_gap.Given as goal

abbrev pub invariant-loop-at : goal.invariant-loop-at
invariant-loop-at l = record {
  split : IsSplit l.region l.at;
  small : l.run ≤ l.at;
  value : widest_from 0 0 (blocks_in l.region) ≡ widest_from l.best l.run (blocks_from l.at split.rest);
}

abbrev pub decreases-loop-at : goal.decreases-loop-at
decreases-loop-at l = length l.region - l.at
