use Rattle.std.proofs.Common.{arith, rules}
use Rattle.pixel_strips.specs.Strips.{strip_colour}
use Rattle.pixel_strips.proofs.SoFarLemmas.{column_begun, column_dotted, column_ended}
use Rattle.pixel_strips.proofs.column.paint_any_column.Goals as goal

pub loop-y-init : goal.loop-y-init
loop-y-init g c = column_begun _ _ _ _ c.args.strip.now.step c.args.strip.now.first _ (search rules) (search rules)

pub loop-y-preserved : goal.loop-y-preserved
loop-y-preserved g c =
    column_dotted c.loop-y.invariant c.column_colour-colour.ensures c.plus-fraction.ensures c.dot.ensures

pub returns : goal.returns
unfolding strip_colour
returns g c = column_ended _ c.loop-y.invariant (omega arith)
