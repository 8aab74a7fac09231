use Rattle.picture_rules.proofs.Common.{ap, arith, List, slice_index, sym, ℕ, ◌+◌, ◌-◌, ◌∙◌}
use Rattle.picture_rules.specs.Words.{Dot}
use Rattle.pixel_strips.specs.Canvases.{CanvasView, with_dots}
use Rattle.pixel_strips.proofs.{CanvasLemmas.dots_none, CanvasLemmas.with_dots-append}
use Rattle.visplanes.specs.Spans.{closed_rows, row_dots}
use Rattle.visplanes.proofs.DotLemmas.{closed_rows-none, closed_rows-more}
use Rattle.visplanes.proofs.draw.paint_spans.Goals as goal

pub loop-y-init : goal.loop-y-init
loop-y-init g c =
    let old = g.C.Canvas.view c.args.canvas.now in
    record {
      from = omega arith;
      idle = omega arith;
      painted = dots_none g.C.Canvas.mark old
          ∙ ap (λ (dots : List Dot). with_dots g.C.Canvas.mark dots old) (sym (closed_rows-none c.args.floor.now old.painter (slice_index c.args.starts.now) c.args.x c.args.rows.begin (c.args.rows.begin - c.args.rows.begin) (omega arith)));
    }

pub loop-y-preserved : goal.loop-y-preserved
loop-y-preserved g c =
    let old = g.C.Canvas.view c.args.canvas.now in
    let invariant = c.loop-y.invariant in
    let start : ℕ → ℕ = slice_index c.args.starts.now in
    let dots_above : List Dot = closed_rows c.args.floor.now old.painter start c.args.x c.args.rows.begin (c.loop-y.y - c.args.rows.begin) in
    record {
      from = omega (arith, invariant.from);
      idle = omega (arith, c.loop-y-test.true);
      painted = c.paint_row.ensures
          ∙ ap (λ (v : CanvasView). with_dots g.C.Canvas.mark (row_dots c.args.floor.now v.painter c.loop-y.y (start c.loop-y.y) (c.args.x - 1)) v)
          invariant.painted
          ∙ with_dots-append g.C.Canvas.mark dots_above (row_dots c.args.floor.now old.painter c.loop-y.y (start c.loop-y.y) (c.args.x - 1)) old
          ∙ ap (λ (dots : List Dot). with_dots g.C.Canvas.mark dots old)
          (closed_rows-more c.args.floor.now old.painter start c.args.x c.args.rows.begin (c.loop-y.y - c.args.rows.begin) (c.loop-y.y + 1 - c.args.rows.begin) c.loop-y.y (omega (arith, invariant.from)) (omega (arith, invariant.from)));
    }
