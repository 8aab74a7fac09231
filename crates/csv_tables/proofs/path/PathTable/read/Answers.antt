use Rattle.std.proofs.Common.{rules, ◌∙◌, ap, map, Err}
use Rattle.csv.specs.Records.{fields_of}
use Rattle.csv_tables.proofs.TableLemmas.{path_in-first}
use Rattle.csv_tables.proofs.path.PathTable.read.Goals as goal

pub returns-in_err-rows-clause-refused : goal.returns-in_err-rows-clause-refused
returns-in_err-rows-clause-refused c r e = path_in-first c.args.bytes.now _ c.in_ok-records.ensures.whole (Err r) (ap (map fields_of) c.deref.ensures.value ∙ c.in_ok-records.ensures.records) (c.in_err-rows.ensures.refused r (search rules))

pub returns-clause-ok : goal.returns-clause-ok
returns-clause-ok c = path_in-first c.args.bytes.now _ c.in_ok-records.ensures.whole _ (ap (map fields_of) c.deref.ensures.value ∙ c.in_ok-records.ensures.records) c.in_ok-rows.ensures.ok
