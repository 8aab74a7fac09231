use Rattle.std.proofs.Common.{rules, ◌∙◌, ap, map, Err}
use Rattle.csv.specs.Records.{fields_of}
use Rattle.csv_tables.proofs.TableLemmas.{weapons_in-first, weapons_of_records-within}
use Rattle.csv_tables.proofs.weapons.WeaponTable.read.Goals as goal

pub returns-in_err-rows-clause-refused : goal.returns-in_err-rows-clause-refused
returns-in_err-rows-clause-refused c r e = weapons_in-first c.args.bytes.now _ c.in_ok-records.ensures.whole (Err r) (ap (map fields_of) c.deref.ensures.value ∙ c.in_ok-records.ensures.records) (c.in_err-rows.ensures.refused r (search rules))

pub returns-clause-ok : goal.returns-clause-ok
returns-clause-ok c = weapons_in-first c.args.bytes.now _ c.in_ok-records.ensures.whole _ (ap (map fields_of) c.deref.ensures.value ∙ c.in_ok-records.ensures.records) c.in_ok-rows.ensures.ok

pub invariant_of-result : goal.invariant_of-result
invariant_of-result c = (c.in_ok-rows.ensures.range, weapons_of_records-within _ _ c.in_ok-rows.ensures.ok)
