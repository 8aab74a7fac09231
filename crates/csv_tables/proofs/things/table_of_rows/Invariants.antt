use Rattle.csv.specs.Records.{fields_of}
use Rattle.csv_tables.specs.{Things.IsLineInRange, Things.read_line, Slots.AreNumbersOf}
use Rattle.csv_tables.proofs.RowLemmas.{ReadSoFar}
use Rattle.csv_tables.proofs.things.table_of_rows.Given as goal

abbrev pub invariant-loop-i : goal.invariant-loop-i
invariant-loop-i l = record {
  read : ReadSoFar IsLineInRange read_line fields_of l.rows l.lines.items l.i;
  numbers : AreNumbersOf l.lines.items l.numbers.items;
}
