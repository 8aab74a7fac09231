-- Fresh windows are in their ranges.
use Rattle.std.proofs.Common.{rules}
use Rattle.wall_columns.proofs.PartLemmas.{are_clips-new}
use Rattle.wall_columns.proofs.windows.Windows.new.Goals as goal

pub invariant_of-result : goal.invariant_of-result
invariant_of-result c = are_clips-new c.same_rows.result c.same_rows-2.result (search rules) (search rules)
