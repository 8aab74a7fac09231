use Rattle.std.proofs.Common.{◌≡◌, map, drop}
use Rattle.csv.specs.Records.{fields_of}
use Rattle.csv_tables.specs.Records.{is_header}
use Rattle.csv_tables.proofs.records.is_header.Given as goal

abbrev pub invariant-loop-i : goal.invariant-loop-i
invariant-loop-i l = (is_header (drop l.i (map (λ n. n.now) l.names)) (drop l.i (fields_of l.fields)) ≡ is_header (map (λ n. n.now) l.names) (fields_of l.fields))
