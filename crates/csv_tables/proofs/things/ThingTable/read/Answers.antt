use Rattle.std.proofs.Common.{◌≡◌, ◌∙◌, ap, map, Ok, Err}
use Rattle.csv.specs.Records.{fields_of}
use Rattle.csv_tables.specs.Things.{lines_of_records, things_in_table}
use Rattle.csv_tables.proofs.TableLemmas.{if_ok-map, things_in-first}
use Rattle.csv_tables.proofs.things.ThingTable.read.Goals as goal

pub returns-clause-ok : goal.returns-clause-ok
returns-clause-ok c =
    if_ok-map c.table_of_records.result (λ t. lines_of_records (map fields_of c.deref.result.now) ≡ Ok t) (λ t. things_in_table c.args.bytes.now ≡ Ok t)
    (λ t h. things_in-first c.args.bytes.now _ c.in_ok-records.ensures.whole (Ok t) (ap (map fields_of) c.deref.ensures.value ∙ c.in_ok-records.ensures.records) h)
    c.table_of_records.ensures.ok

pub returns-clause-refused : goal.returns-clause-refused
returns-clause-refused c r e =
    things_in-first c.args.bytes.now _ c.in_ok-records.ensures.whole (Err r) (ap (map fields_of) c.deref.ensures.value ∙ c.in_ok-records.ensures.records) (c.table_of_records.ensures.refused r e)
