use Rattle.std.proofs.Common.{◌≡◌, ℕ, ◌<◌, pos, slice_index_or, length}
use Rattle.view_rules.specs.Tables.{dist_scale}
use Rattle.angle_tables.proofs.columns.scales_of_columns.Given as goal

abbrev pub invariant-loop-x : goal.invariant-loop-x
invariant-loop-x l = (length l.scales.items ≡ l.x) × ((k : ℕ) → k < l.x → slice_index_or l.scales.items k (pos 0) ≡ dist_scale l.t l.fn.shape k)
