use Rattle.pixel_rules.specs.Strips.{span_colour}
use Rattle.pixel_strips.proofs.SoFarLemmas.{SpanSoFar}
use Rattle.pixel_strips.proofs.span.paint_any_span.Given as goal

abbrev pub invariant-loop-x : goal.invariant-loop-x
invariant-loop-x g l = let strip = l.strip in SpanSoFar g.C.Canvas.mark strip.y (span_colour strip.flat.now strip.colormap.now strip.map) l.fn.spans
    strip.x_fraction strip.y_fraction strip.x_step strip.y_step strip.first l.x l.place (g.C.Canvas.view l.fn.canvas) (g.C.Canvas.view l.canvas)
