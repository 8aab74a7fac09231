use Rattle.picture_rules.proofs.Common.{rules, to_z-of_z}
use Rattle.masked_draw.specs.Lists.{saved_column}
use Rattle.masked_draw.proofs.middles.saved_column.Goals as goal

pub returns : goal.returns
unfolding saved_column
returns c = search (rules, to_z-of_z)
