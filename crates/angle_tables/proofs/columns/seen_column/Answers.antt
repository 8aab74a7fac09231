use Rattle.std.proofs.Common.{rules}
use Rattle.std.proofs.lemmas.Int.{to_z-of_z}
use Rattle.view_rules.specs.Tables.{seen_column}
use Rattle.angle_tables.proofs.columns.seen_column.Goals as goal

pub returns : goal.returns
unfolding seen_column
returns c = search (rules, to_z-of_z)
