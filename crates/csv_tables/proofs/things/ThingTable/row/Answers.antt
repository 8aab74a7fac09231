use Rattle.csv_tables.proofs.ThingLemmas.{numbered_row-range}
use Rattle.csv_tables.proofs.things.ThingTable.row.Goals as goal

pub returns-clause-range : goal.returns-clause-range
returns-clause-range c = rw (c.numbered_row.ensures, c.deref.ensures.value) (numbered_row-range c.self.inside.lines.items c.number_of.result c.self.invariant.1)
