use Rattle.std.proofs.Common.{◌≡◌, ◌-◌, ◌≤◌}
use Rattle.picture_rules.specs.Words.{FRAME_WIDTH}
use Rattle.visplanes.specs.Spans.{runs_from}
use Rattle.visplanes.proofs.row_runs.first_holding.Given as goal

abbrev pub invariant-loop-x : goal.invariant-loop-x
invariant-loop-x l = record {
  same : runs_from l.plane l.row l.x ≡ runs_from l.plane l.row l.at;
  within : l.x ≤ FRAME_WIDTH;
}

abbrev pub decreases-loop-x : goal.decreases-loop-x
decreases-loop-x l = FRAME_WIDTH - l.x
