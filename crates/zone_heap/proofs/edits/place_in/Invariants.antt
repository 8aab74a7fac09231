use Rattle.std.proofs.Common.{◌≡◌, ◌≤◌, ◌-◌, length}
use Rattle.zone_rules.specs.Requests.{place_around}
use Rattle.zone_heap.specs.Regions.{blocks_in, blocks_from, IsSplit}
use Rattle.zone_heap.proofs.edits.place_in.Given as goal

abbrev pub invariant-loop-at : goal.invariant-loop-at
invariant-loop-at l = record {
  split : IsSplit l.region l.at;
  low : l.around ≤ length l.region;
  value : place_around l.place 0 (blocks_in l.region) ≡ place_around l.place l.around (blocks_from l.at split.rest);
}

abbrev pub decreases-loop-at : goal.decreases-loop-at
decreases-loop-at l = length l.region - l.at
