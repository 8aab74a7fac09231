use Rattle.std.proofs.Common.{◌*◌}
use Rattle.pixel_strips.proofs.FillLemmas.{ColumnReached}
use Rattle.pixel_strips.proofs.frame.fill_column.Given as goal

abbrev pub invariant-loop-k : goal.invariant-loop-k
invariant-loop-k l = ColumnReached l.cut l.start (4 * l.k) l.place l.fn.cells l.cells
