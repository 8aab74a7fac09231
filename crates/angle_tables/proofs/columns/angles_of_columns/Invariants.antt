use Rattle.std.proofs.Common.{◌≡◌, ℕ, ◌+◌, ◌-◌, ◌<◌, ◌≤◌, slice_index, length, false}
use Rattle.angle_tables.specs.Rules.{TANGENTS, angle_of_column, focal_length, is_seen_by}
use Rattle.angle_tables.proofs.columns.angles_of_columns.Given as goal

-- no fine angle below that of the last column is seen at a column further left
abbrev pub invariant-loop-k : goal.invariant-loop-k
invariant-loop-k l = record {
  len : length l.angles.items ≡ l.k;
  items : (j : ℕ) → j < l.k → slice_index l.angles.items j ≡ angle_of_column l.t l.shape (l.shape.width - j);
  bound : l.fine ≤ TANGENTS;
  before : (j x : ℕ) → j < l.fine → x + l.k ≤ l.shape.width → is_seen_by l.t l.shape (focal_length l.t l.shape) x j ≡ false;
}
