use Rattle.std.proofs.Common.{◌≡◌, ℕ, ◌<◌, slice_index, length}
use Rattle.view_rules.specs.Tables.{column_of_angle}
use Rattle.angle_tables.proofs.columns.columns_of_angles.Given as goal

abbrev pub invariant-loop-i : goal.invariant-loop-i
invariant-loop-i l = (length l.columns.items ≡ l.i) × ((k : ℕ) → k < l.i → slice_index l.columns.items k ≡ column_of_angle l.t l.shape k)
