use Rattle.std.proofs.Common.{◌≡◌, ℕ, ◌<◌, ◌≤◌, get_or}
use Rattle.visplanes.specs.declared.columns.TheConstants.{NO_RUN}
use Rattle.visplanes.proofs.columns.are_unmarked.Given as goal

abbrev pub invariant-loop-x : goal.invariant-loop-x
invariant-loop-x l = (k : ℕ) → l.first ≤ k → k < l.x → get_or l.tops k 0 ≡ NO_RUN
