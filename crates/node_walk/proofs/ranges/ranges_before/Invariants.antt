use Rattle.std.proofs.Common.{◌≡◌, ◌+◌, drop}
use Rattle.node_walk.specs.Ranges.{ranges_before}
use Rattle.node_walk.proofs.ranges.ranges_before.Given as goal

abbrev pub invariant-loop-index : goal.invariant-loop-index
invariant-loop-index l = ranges_before l.first l.ranges ≡ l.index + ranges_before l.first (drop l.index l.ranges)
