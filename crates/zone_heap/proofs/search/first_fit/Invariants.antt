use Rattle.std.proofs.Common.{◌≡◌, ◌≤◌, ◌-◌, length}
use Rattle.zone_heap.specs.{Regions.blocks_from, Regions.IsSplit, Walks.fit_from}
use Rattle.zone_heap.proofs.search.first_fit.Given as goal

abbrev pub invariant-loop-at : goal.invariant-loop-at
invariant-loop-at l = record {
  split : IsSplit l.region l.at;
  small : l.sum ≤ l.at;
  few : l.end ≤ l.at;
  value : (s : IsSplit l.region l.from) → fit_from l.wanted 0 0 0 (blocks_from l.from s.rest) ≡ fit_from l.wanted l.place l.sum l.end (blocks_from l.at split.rest);
}

abbrev pub decreases-loop-at : goal.decreases-loop-at
decreases-loop-at l = length l.region - l.at
