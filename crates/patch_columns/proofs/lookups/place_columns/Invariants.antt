use Rattle.std.proofs.Common.{◌≡◌, ◌-◌, ◌*◌, ◌^◌, ◌≤◌}
use Rattle.patch_columns.proofs.SeenLemmas.{IsChangedBelow}
use Rattle.patch_columns.proofs.PlaceLemmas.{composed_before, placed_in}
use Rattle.patch_columns.proofs.lookups.place_columns.Given as goal

abbrev pub invariant-loop-column : goal.invariant-loop-column
invariant-loop-column l = record {
  place : l.place ≡ composed_before l.height l.initial.columns l.column-index;
  bound : l.place ≤ (2 ^ 16 - 1) * l.column-index;
  columns : IsChangedBelow (placed_in l.height l.initial.columns) l.initial.columns l.columns l.column-index;
}
