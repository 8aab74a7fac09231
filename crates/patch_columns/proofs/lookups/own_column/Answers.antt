use Rattle.art_rules.proofs.Common.{arith, ints, to_z-of_z}
use Rattle.patch_columns.proofs.SeenLemmas.{own_column-first, own_column-last}
use Rattle.patch_columns.proofs.lookups.own_column.Goals as goal

pub overflow_cast-result : goal.overflow_cast-result
overflow_cast-result c =
    let column_from_zero = own_column-first c.args.x c.args.patch c.requires in
    let column_below_width = own_column-last c.args.x c.args.patch c.requires in
    grind (arith, ints, to_z-of_z)
