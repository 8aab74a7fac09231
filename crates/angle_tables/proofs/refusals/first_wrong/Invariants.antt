use Rattle.std.proofs.Common.{◌≡◌, ℕ, ◌<◌, false}
use Rattle.angle_tables.specs.Lists.{is_wrong_in}
use Rattle.angle_tables.proofs.refusals.first_wrong.Given as goal

-- none before i is wrong
abbrev pub invariant-loop-i : goal.invariant-loop-i
invariant-loop-i l = (k : ℕ) → k < l.i → is_wrong_in l.t l.list k ≡ false
