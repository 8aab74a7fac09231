use Rattle.pixel_strips.specs.Strips.{cut_colour}
use Rattle.pixel_strips.proofs.SoFarLemmas.{ColumnSoFar}
use Rattle.pixel_strips.proofs.canvas.Canvas.column.Given as goal

abbrev pub invariant-loop-y : goal.invariant-loop-y
invariant-loop-y g l = ColumnSoFar g.Self.Canvas.mark l.x (cut_colour l.cut.texels.now l.cut.shades.now) l.cut.fraction l.cut.step
    l.first l.y l.fraction (g.Self.Canvas.view l.fn.self) (g.Self.Canvas.view l.self)
