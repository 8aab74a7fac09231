use Rattle.picture_rules.proofs.Common.{ap, arith, both_ways, cases_Bool, false, false_from_ne_true, inl, inr, length, refl, rules, slice_index, subst, sym, true, ℕ, ◌+◌, ◌<◌, ◌∙◌, ◌≡◌, ◌≤◌}
use Rattle.picture_rules.specs.Words.{column, FRAME_WIDTH, holds, Plane, span_start}
use Rattle.pixel_strips.specs.Canvases.{CanvasView}
use Rattle.visplanes.specs.{declared.rows.Rows.Rows, Spans.rows_of, Spans.is_in, Spans.CanPaint}
use Rattle.visplanes.proofs.RowLemmas.{is_in-from, is_in-none, is_in-rows_of}
use Rattle.visplanes.proofs.DrawLemmas.{held_before-more, held_before-nowhere, start-kept, start-fresh, can_paint, IsPassing, spans_none, spans_more, spans_all}
use Rattle.visplanes.proofs.draw.draw_columns.Goals as goal

pub loop-x-init : goal.loop-x-init
loop-x-init g c =
    let plane = c.args.plane.now in
    let none_held_before : (k y : ℕ) → k < c.marked-first.result.0 → holds plane y k ≡ false =
    λ k y l. false_from_ne_true (holds plane y k) (λ t. absurd (omega (arith, l, (c.marked-first.ensures.pixels k y t).0))) in
    record {
      spans = spans_none g.C.Canvas.mark c.args.floor.now plane c.marked-first.result.0 (g.C.Canvas.view c.args.canvas.now) none_held_before;
      starts = λ y h. absurd (both_ways _ (is_in-none y) h);
      held = λ y. is_in-none y ∙ sym (held_before-nowhere plane y c.marked-first.result.0 (λ k l. none_held_before k y l));
      ordered = omega arith;
      within = omega arith;
    }

pub change_rows-requires-clause-spans : goal.change_rows-requires-clause-spans
change_rows-requires-clause-spans g c =
    let invariant = c.loop-x.invariant in
    let old = g.C.Canvas.view c.args.canvas.now in
    let room : c.loop-x.before.end ≤ length c.loop-x.starts = search rules in
    let spans : (y : ℕ) → c.loop-x.before.begin ≤ y → y < c.loop-x.before.end → CanPaint c.args.floor.now.view.shape (g.C.Canvas.view c.loop-x.canvas).left (g.C.Canvas.view c.loop-x.canvas).top (slice_index c.loop-x.starts y) c.loop-x.x y = λ y l m.
    let is_inside : is_in c.loop-x.before y ≡ true = is_in-from c.loop-x.before y l m in
    subst (λ (v : CanvasView). CanPaint c.args.floor.now.view.shape v.left v.top (slice_index c.loop-x.starts y) c.loop-x.x y) (sym invariant.spans.painted)
    (can_paint c.args.floor.now.view.shape old.left old.top c.args.plane.now c.requires.seen (slice_index c.loop-x.starts y) c.loop-x.x y (sym (invariant.held y) ∙ is_inside) (invariant.starts y is_inside)) in
    (room, spans)

pub loop-x-preserved : goal.loop-x-preserved
unfolding holds
loop-x-preserved g c =
    let invariant = c.loop-x.invariant in
    let plane : Plane = c.args.plane.now in
    let this_x : ℕ = c.loop-x.x in
    let next : ℕ = c.loop-x.x + 1 in
    let rows_before : Rows = c.loop-x.before in
    let now : Rows = c.rows_of-now.result in
    let old = g.C.Canvas.view c.args.canvas.now in
    let holding : (y : ℕ) → is_in now y ≡ holds plane y this_x =
    λ y. ap (λ (r : Rows). is_in r y) (c.rows_of-now.ensures.rows ∙ ap rows_of c.column.ensures.run) ∙ is_in-rows_of (column plane this_x) y in
    let passing : IsPassing c.args.floor.now.view.shape plane (slice_index c.loop-x.starts) rows_before now this_x old =
    record { seen = c.requires.seen; before_ordered = invariant.ordered; now_ordered = c.rows_of-now.ensures.ordered; held = invariant.held; holding = holding; starts = invariant.starts } in
    record {
      spans = spans_more g.C.Canvas.mark c.args.floor.now c.args.floor.now.view.shape plane (slice_index c.loop-x.starts) rows_before now this_x next old
          (g.C.Canvas.view c.loop-x.canvas) (g.C.Canvas.view c.change_rows.new.canvas) refl passing invariant.spans c.change_rows.ensures.closed;
      starts = λ y h.
          let plane_holds_here : holds plane y this_x ≡ true = sym (holding y) ∙ h in
          elim (cases_Bool (is_in rows_before y)) [
            | inl t ↦ c.change_rows.ensures.kept y t ∙ invariant.starts y t ∙ sym (start-kept plane y this_x next refl plane_holds_here)
            | inr f ↦ c.change_rows.ensures.opened y h f
                ∙ sym (start-kept plane y this_x next refl plane_holds_here ∙ start-fresh plane y this_x (sym (invariant.held y) ∙ f))
          ];
      held = λ y. holding y ∙ sym (held_before-more plane y this_x next refl);
      ordered = c.rows_of-now.ensures.ordered;
      within = c.rows_of-now.ensures.within;
    }

pub returns : goal.returns
returns g c =
    let plane = c.args.plane.now in
    let end = c.loop-x.x in let marked = c.marked-first in
    let closed : (k y : ℕ) → holds plane y k ≡ true → k < span_start (holds plane y) end = λ k y t.
    let in_marked = marked.ensures.pixels k y t in
    let is_end : marked.result.1 + 1 + 1 ≡ end = omega (arith, in_marked.0, in_marked.1, c.loop-x-test.false, c.loop-x.auto.x-end) in
    let not_held : holds plane y (marked.result.1 + 1) ≡ false = false_from_ne_true (holds plane y (marked.result.1 + 1)) (λ q. absurd (omega (arith, (marked.ensures.pixels (marked.result.1 + 1) y q).1))) in
    let starts_at_end : span_start (holds plane y) end ≡ end = start-fresh plane y end (held_before-more plane y (marked.result.1 + 1) end is_end ∙ not_held) in
    omega (arith, in_marked.1, is_end, starts_at_end) in
    spans_all g.C.Canvas.mark c.args.floor.now plane (λ y. span_start (holds plane y) end) (λ y. FRAME_WIDTH) (g.C.Canvas.view c.args.canvas.now) (g.C.Canvas.view c.loop-x.canvas) c.loop-x.invariant.spans closed
    (λ k y t. omega (arith, (marked.ensures.pixels k y t).1, marked.ensures.last))
