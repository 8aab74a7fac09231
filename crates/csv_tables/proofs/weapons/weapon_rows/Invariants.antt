use Rattle.csv.specs.Records.{fields_of}
use Rattle.csv_tables.specs.Weapons.{IsWeaponInRange, weapon_row}
use Rattle.csv_tables.proofs.RowLemmas.{ReadSoFar}
use Rattle.csv_tables.proofs.weapons.weapon_rows.Given as goal

abbrev pub invariant-loop-i : goal.invariant-loop-i
invariant-loop-i l = ReadSoFar IsWeaponInRange (λ _. weapon_row) fields_of l.rows l.weapons.items l.i
