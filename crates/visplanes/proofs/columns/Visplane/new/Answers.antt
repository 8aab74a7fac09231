use Rattle.std.proofs.Common.{arith}
use Rattle.visplanes.proofs.ColumnLemmas.{kept-empty, plane_of-empty}
use Rattle.visplanes.proofs.columns.Visplane.new.Goals as goal

pub invariant_of-result : goal.invariant_of-result
invariant_of-result c = kept-empty _ _ c.row_bytes.ensures.size c.row_bytes-2.ensures.size c.row_bytes.ensures.each (λ x l. omega (arith, c.row_bytes-2.ensures.each x l))

pub returns : goal.returns
returns c = plane_of-empty c.args.key _ _ c.row_bytes.ensures.each
