use Rattle.std.proofs.Common.{◌≡◌, ℕ, ◌<◌, false}
use Rattle.view_rules.specs.Tables.{is_seen_by, focal_length}
use Rattle.angle_tables.proofs.columns.first_seen_by.Given as goal

-- no fine angle before i is seen at column x
abbrev pub invariant-loop-i : goal.invariant-loop-i
invariant-loop-i l = (k : ℕ) → k < l.i → is_seen_by l.t l.shape (focal_length l.t l.shape) l.x k ≡ false
