use Rattle.pixel_rules.specs.Strips.{column_colour}
use Rattle.pixel_strips.proofs.SoFarLemmas.{ColumnSoFar}
use Rattle.pixel_strips.proofs.column.paint_any_column.Given as goal

abbrev pub invariant-loop-y : goal.invariant-loop-y
invariant-loop-y g l = ColumnSoFar g.C.Canvas.mark l.strip.x (column_colour l.strip.source.now l.strip.base l.strip.colormap.now l.strip.map)
    l.strip.fraction l.strip.step l.strip.first l.y l.fraction (g.C.Canvas.view l.fn.canvas) (g.C.Canvas.view l.canvas)
