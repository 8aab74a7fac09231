use Rattle.std.proofs.Common.{arith, rules}
use Rattle.pixel_strips.specs.Strips.{cut_strip_colour}
use Rattle.pixel_strips.proofs.SoFarLemmas.{column_begun, column_dotted, column_ended}
use Rattle.pixel_strips.proofs.canvas.Canvas.column.Goals as goal

pub loop-y-init : goal.loop-y-init
loop-y-init g c = column_begun _ _ _ _ c.args.cut.now.step c.args.first _ (search rules) (search rules)

pub loop-y-preserved : goal.loop-y-preserved
loop-y-preserved g c =
    column_dotted c.loop-y.invariant c.cut_colour.ensures c.plus-fraction.ensures c.dot.ensures

pub returns : goal.returns
unfolding cut_strip_colour
returns g c = column_ended _ c.loop-y.invariant (omega arith)
