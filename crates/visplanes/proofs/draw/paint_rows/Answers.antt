use Rattle.picture_rules.proofs.Common.{ap, arith, List, slice_index, sym, ◌-◌, ◌∙◌}
use Rattle.picture_rules.specs.Words.{Dot}
use Rattle.pixel_strips.specs.Canvases.{with_dots}
use Rattle.pixel_strips.proofs.CanvasLemmas.{dots_none}
use Rattle.visplanes.proofs.DotLemmas.{closed_rows-none}
use Rattle.visplanes.proofs.draw.paint_rows.Goals as goal

pub returns-else-rows : goal.returns-else-rows
returns-else-rows g c =
    let old = g.C.Canvas.view c.args.canvas.now in
    dots_none g.C.Canvas.mark old
    ∙ ap (λ (dots : List Dot). with_dots g.C.Canvas.mark dots old) (sym (closed_rows-none c.args.floor.now old.painter (slice_index c.args.starts.now) c.args.x c.args.rows.begin (c.args.rows.end - c.args.rows.begin) (omega (arith, c.if-rows.false))))
