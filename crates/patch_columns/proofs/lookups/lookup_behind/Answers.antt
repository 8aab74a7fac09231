use Rattle.std.proofs.Common.{rules}
use Rattle.patch_columns.proofs.SeenLemmas.{column_place-fits}
use Rattle.patch_columns.proofs.lookups.lookup_behind.Goals as goal

pub overflow_cast-result : goal.overflow_cast-result
overflow_cast-result c =
    let place_fits = column_place-fits c.args.lump.now c.own_column.result c.type_inv.lump in
    search rules
