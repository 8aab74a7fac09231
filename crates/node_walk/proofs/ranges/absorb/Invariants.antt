use Rattle.std.proofs.Common.{◌≡◌, ◌≤◌, ◌-◌, length, take, drop}
use Rattle.node_walk.specs.Ranges.{joined}
use Rattle.node_walk.proofs.ranges.absorb.Given as goal

abbrev pub invariant-loop-ranges : goal.invariant-loop-ranges
invariant-loop-ranges l = record {
  joined : joined l.fn.range (drop l.index l.fn.ranges.items) ≡ joined l.joined (drop l.index l.ranges.items);
  front : take l.index l.ranges.items ≡ take l.index l.fn.ranges.items;
  within : l.index ≤ length l.ranges.items;
  shorter : length l.ranges.items ≤ length l.fn.ranges.items;
}

abbrev pub decreases-loop-ranges : goal.decreases-loop-ranges
decreases-loop-ranges l = length l.ranges.items - l.index
