-- One view after the other, up to the first that ends the rendering.
use Rattle.picture_rules.proofs.Common.{ap, arith, cases_lt, inl, inr, length, refl, subst, ◌<◌, ◌∙◌, ◌≡◌}
use Rattle.job_files.specs.declared.read.SceneFiles.{SceneFiles}
use Rattle.doom_run.specs.{Frames.form_of, Renders.FitsAt, Renders.ready_bytes, Renders.ready_views}
use Rattle.doom_run.proofs.FitLemmas.{due_done, due_stops, fits_at-later}
use Rattle.doom_run.proofs.FrameLemmas.{render_done, render_stops, rendered-more, rendered-none}
use Rattle.doom_run.proofs.ReadyLemmas.{drawable-later, holds-later, view_ends-later, views_count}
use Rattle.doom_run.proofs.RendersLemmas.{renders-none, renders-then}
use Rattle.doom_run.proofs.render.deliver_render.Goals as goal

pub loop-number-init : goal.loop-number-init
loop-number-init g c = record {
  renders = renders-none (g.S.Shelf.view c.args.shelf.now) c.args.ready.now (g.K.Sink.faults c.args.out.now);
  form = refl;
  rendered = λ contents count holds. rendered-none (form_of c.args.canvas.now) _ _;
  fits = λ contents count holds k l. absurd (omega (arith, l));
}

pub render_view-requires-clause-drawable : goal.render_view-requires-clause-drawable
render_view-requires-clause-drawable g c = drawable-later c.loop-number.invariant.renders.keeps c.requires

pub render_view-requires-clause-there : goal.render_view-requires-clause-there
render_view-requires-clause-there g c =
    let path_length_same : length c.loop-number.ready.loaded.files.path ≡ length c.args.ready.now.loaded.files.path = ap (λ (files : SceneFiles). length files.path) c.loop-number.invariant.renders.keeps.files in
    omega (arith, path_length_same, c.loop-number-test.true, c.view_count-count.ensures)

pub returns-in_default-clause-ends : goal.returns-in_default-clause-ends
returns-in_default-clause-ends g c contents count holds =
    let so_far = c.loop-number.invariant in
    let bytes = ready_bytes contents c.args.ready.now in
    let view_is_there : c.loop-number.number < length (ready_views bytes c.args.ready.now).views = omega (arith, views_count bytes c.args.ready.now, c.loop-number-test.true, c.view_count-count.ensures) in
    render_stops {r = ready_views bytes c.args.ready.now} (g.K.Sink.written c.loop-number.out) _ _ c.render_view.result (so_far.rendered contents count holds) view_is_there
    (view_ends-later _ _ _ _ _ _ contents so_far.renders.keeps so_far.form (c.render_view.ensures.ends contents count (holds-later so_far.renders.keeps holds))) c.in_default.not-Done

pub returns-in_default-clause-fits : goal.returns-in_default-clause-fits
returns-in_default-clause-fits g c contents count holds is =
    let so_far = c.loop-number.invariant in
    let bytes = ready_bytes contents c.args.ready.now in
    let view_is_there : c.loop-number.number < length (ready_views bytes c.args.ready.now).views = omega (arith, views_count bytes c.args.ready.now, c.loop-number-test.true, c.view_count-count.ensures) in
    due_stops (ready_views bytes c.args.ready.now) (FitsAt bytes count c.args.ready.now) (g.K.Sink.written c.loop-number.out) _ _ c.render_view.result (so_far.rendered contents count holds) view_is_there
    (view_ends-later _ _ _ _ _ _ contents so_far.renders.keeps so_far.form (c.render_view.ensures.ends contents count (holds-later so_far.renders.keeps holds))) c.in_default.not-Done is
    (so_far.fits contents count holds)

pub returns-in_default-clause-renders : goal.returns-in_default-clause-renders
returns-in_default-clause-renders g c = renders-then c.loop-number.invariant.renders c.render_view.ensures.renders

pub loop-number-preserved : goal.loop-number-preserved
loop-number-preserved g c =
    let so_far = c.loop-number.invariant in
    record {
      renders = renders-then so_far.renders (rw c.in-Done.is at c.render_view.ensures.renders);
      form = c.render_view.ensures.form ∙ so_far.form;
      rendered = λ contents count holds.
          let bytes = ready_bytes contents c.args.ready.now in
          let view_is_there : c.loop-number.number < length (ready_views bytes c.args.ready.now).views = omega (arith, views_count bytes c.args.ready.now, c.loop-number-test.true, c.view_count-count.ensures) in
          rendered-more {r = ready_views bytes c.args.ready.now} (g.S.Shelf.view c.args.shelf.now).steady c.render_view.result (so_far.rendered contents count holds) view_is_there
          (view_ends-later _ _ _ _ _ _ contents so_far.renders.keeps so_far.form (c.render_view.ensures.ends contents count (holds-later so_far.renders.keeps holds))) c.in-Done.is;
      fits = λ contents count holds k l.
          let view_fits = c.render_view.ensures.fits contents count (holds-later so_far.renders.keeps holds) c.in-Done.is in
          elim (cases_lt k c.loop-number.number) [
            | inl below ↦ so_far.fits contents count holds k below
            | inr same ↦ subst (FitsAt (ready_bytes contents c.args.ready.now) count c.args.ready.now) (omega (arith, l, same))
                (fits_at-later contents count c.loop-number.number so_far.renders.keeps view_fits)
          ];
    }

pub returns-clause-ends : goal.returns-clause-ends
returns-clause-ends g c contents count holds =
    let bytes = ready_bytes contents c.args.ready.now in
    render_done (g.S.Shelf.view c.args.shelf.now).steady c.loop-number.number (omega (arith, views_count bytes c.args.ready.now, c.view_count-count.ensures, c.loop-number-test.false, c.loop-number.auto.number-end)) (c.loop-number.invariant.rendered contents count holds)

pub returns-clause-fits : goal.returns-clause-fits
returns-clause-fits g c contents count holds is =
    let so_far = c.loop-number.invariant in
    let bytes = ready_bytes contents c.args.ready.now in
    let number_is_count : c.loop-number.number ≡ length (ready_views bytes c.args.ready.now).views = omega (arith, views_count bytes c.args.ready.now, c.view_count-count.ensures, c.loop-number-test.false, c.loop-number.auto.number-end) in
    due_done (ready_views bytes c.args.ready.now) (FitsAt bytes count c.args.ready.now)
    (λ k l. (so_far.rendered contents count holds).within k (omega (arith, number_is_count, l)))
    (λ k l. so_far.fits contents count holds k (omega (arith, number_is_count, l)))

pub returns-clause-renders : goal.returns-clause-renders
returns-clause-renders g c = c.loop-number.invariant.renders
