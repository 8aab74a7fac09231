use Rattle.std.proofs.Common.{◌≡◌, drop}
use Rattle.node_walk.specs.Ranges.{hides_in}
use Rattle.node_walk.proofs.ranges.hides_in.Given as goal

abbrev pub invariant-loop-range : goal.invariant-loop-range
invariant-loop-range l = hides_in l.first l.last l.ranges ≡ hides_in l.first l.last (drop l.range-index l.ranges)
