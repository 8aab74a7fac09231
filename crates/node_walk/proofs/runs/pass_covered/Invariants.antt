use Rattle.word_rules.proofs.Common.{IsTrue, length, ◌≡◌}
use Rattle.node_walk.specs.Ranges.{range_gaps, are_apart}
use Rattle.node_walk.proofs.runs.pass_covered.Given as goal

abbrev pub invariant-loop-range : goal.invariant-loop-range
invariant-loop-range l = record {
  range_gaps : range_gaps l.column l.last l.rest ≡ range_gaps l.at l.last l.fn.ranges;
  apart : IsTrue (are_apart 0 320 l.rest);
}

abbrev pub decreases-loop-range : goal.decreases-loop-range
decreases-loop-range l = length l.rest
