use Rattle.std.proofs.Common.{◌≤◌, length}
use Rattle.csv.specs.Records.{fields_of}
use Rattle.csv_tables.specs.declared.path.TheConstants.{MAX_VIEWS}
use Rattle.csv_tables.specs.Paths.{HasLightInRange, path_row}
use Rattle.csv_tables.proofs.RowLemmas.{ReadSoFar}
use Rattle.csv_tables.proofs.path.path_rows.Given as goal

abbrev pub invariant-loop-i : goal.invariant-loop-i
invariant-loop-i l = record {
  read : ReadSoFar HasLightInRange (λ _. path_row l.width) fields_of l.rows l.views.items l.i;
  few : length l.views.items ≤ MAX_VIEWS;
}
