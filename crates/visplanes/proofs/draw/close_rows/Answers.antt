use Rattle.picture_rules.proofs.Common.{ap, min, slice_index, ℕ, ◌++◌, ◌-◌, ◌∙◌}
use Rattle.pixel_strips.specs.Canvases.{CanvasView, with_dots}
use Rattle.visplanes.specs.Spans.{closed_rows, closed_dots}
use Rattle.pixel_strips.proofs.CanvasLemmas.{with_dots-append}
use Rattle.visplanes.proofs.draw.close_rows.Goals as goal

pub returns : goal.returns
unfolding closed_dots
returns g c =
    let old = g.C.Canvas.view c.args.canvas.now in
    let mark = g.C.Canvas.mark in
    let floor = c.args.floor.now in
    let start : ℕ → ℕ = slice_index c.args.starts.now in
    let rows_before = c.args.before in
    let now = c.args.now in
    c.paint_rows-2.ensures
    ∙ ap (λ (v : CanvasView). with_dots mark (closed_rows floor v.painter start c.args.x c.max.result (rows_before.end - c.max.result)) v) c.paint_rows.ensures
    ∙ with_dots-append mark (closed_rows floor old.painter start c.args.x rows_before.begin (c.min.result - rows_before.begin)) (closed_rows floor old.painter start c.args.x c.max.result (rows_before.end - c.max.result)) old
    ∙ ap (λ (m : ℕ). with_dots mark (closed_rows floor old.painter start c.args.x rows_before.begin (m - rows_before.begin) ++ closed_rows floor old.painter start c.args.x c.max.result (rows_before.end - c.max.result)) old) c.min.ensures
    ∙ ap (λ (m : ℕ). with_dots mark (closed_rows floor old.painter start c.args.x rows_before.begin (min rows_before.end now.begin - rows_before.begin) ++ closed_rows floor old.painter start c.args.x m (rows_before.end - m)) old) c.max.ensures
