use Rattle.pixel_strips.specs.Strips.{cut_span_colour}
use Rattle.pixel_strips.proofs.SoFarLemmas.{SpanSoFar}
use Rattle.pixel_strips.proofs.canvas.Canvas.span.Given as goal

abbrev pub invariant-loop-x : goal.invariant-loop-x
invariant-loop-x g l = SpanSoFar g.Self.Canvas.mark l.y (cut_span_colour l.cut.texels.now l.cut.shades.now) l.cut.spans
    l.cut.x_fraction l.cut.y_fraction l.cut.x_step l.cut.y_step l.first l.x l.place (g.Self.Canvas.view l.fn.self) (g.Self.Canvas.view l.self)
