use Rattle.std.proofs.Common.{◌≡◌, ℕ, ◌<◌, pos, slice_index_or, length}
use Rattle.view_rules.specs.Tables.{y_slope}
use Rattle.angle_tables.proofs.columns.slopes_of_rows.Given as goal

abbrev pub invariant-loop-y : goal.invariant-loop-y
invariant-loop-y l = (length l.rows.items ≡ l.y) × ((k : ℕ) → k < l.y → slice_index_or l.rows.items k (pos 0) ≡ y_slope l.shape k)
