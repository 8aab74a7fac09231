use Rattle.std.proofs.Common.{◌≡◌, ℕ, ◌-◌, ◌<◌, ◌≤◌, true}
use Rattle.picture_rules.specs.Words.{FRAME_WIDTH, holds}
use Rattle.visplanes.proofs.row_runs.first_not_holding.Given as goal

abbrev pub invariant-loop-x : goal.invariant-loop-x
invariant-loop-x l = record {
  held : (k : ℕ) → l.first ≤ k → k < l.x → holds l.plane l.row k ≡ true;
  after : l.first < l.x;
  within : l.x ≤ FRAME_WIDTH;
}

abbrev pub decreases-loop-x : goal.decreases-loop-x
decreases-loop-x l = FRAME_WIDTH - l.x
