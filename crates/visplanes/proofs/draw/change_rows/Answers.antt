use Rattle.picture_rules.proofs.Common.{ap, List, slice_index, sym, ◌∙◌}
use Rattle.picture_rules.specs.Words.{Dot}
use Rattle.pixel_strips.specs.Canvases.{with_dots}
use Rattle.pixel_strips.proofs.CanvasLemmas.{dots_none}
use Rattle.visplanes.proofs.DrawLemmas.{closed_same}
use Rattle.visplanes.proofs.draw.change_rows.Goals as goal

pub returns-then-before-now-2-clause-closed : goal.returns-then-before-now-2-clause-closed
returns-then-before-now-2-clause-closed g c =
    let old = g.C.Canvas.view c.args.canvas.now in
    let nothing_closed = closed_same c.args.floor.now old.painter (slice_index c.args.starts.now) c.args.before c.args.now c.args.x c.if-before-now.true c.if-before-now-2.true in
    dots_none g.C.Canvas.mark old ∙ sym (ap (λ (dots : List Dot). with_dots g.C.Canvas.mark dots old) nothing_closed)
