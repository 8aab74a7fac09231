-- One column after the other.
use Rattle.std.proofs.Common.{◌≡◌, ◌<◌, ◌≤◌, ℕ, Err, None, refl, ap, ◌∙◌, arith, inl, inr, List, subst, sym}
use Rattle.picture_rules.proofs.Common.{[], Contains, err_from_is_err_and}
use Rattle.receiver_rules.proofs.FirstLemmas.{first-in, first-left, first-more, first-none, first-past}
use Rattle.receiver_rules.proofs.ReceiverLemmas.{receives-after, receives-none, receives-same, receives-stopped}
use Rattle.picture_rules.specs.Words.{column, ViewShape}
use Rattle.brush.specs.Strips.{Strip}
use Rattle.visplanes.specs.Planes.{plane_at}
use Rattle.plane_draw.specs.Strips.{run_strips, sky_strips}
use Rattle.plane_draw.proofs.StripLemmas.{no_run, sky-none, sky-some}
use Rattle.plane_draw.proofs.sky.paint_sky.Goals as goal

pub returns-in_default : goal.returns-in_default
returns-in_default g c =
    let scene = c.args.scene.now in
    receives-same _ (sym (sky-none scene.view.now scene.sky c.args.plane.0 (plane_at scene.planes.now.planes c.args.plane.0) c.requires.flat c.in_default.is)) (receives-none _)

pub loop-x-init : goal.loop-x-init
loop-x-init g c =
    let scene = c.args.scene.now in
    let plane = plane_at scene.planes.now.planes c.args.plane.0 in
    let runs : ℕ → List Strip = λ x. run_strips scene.view.now c.args.plane.0 c.in-Some.tex x (column plane x) in (
      receives-same _ (sym (first-none runs) ∙ first-past runs 0 c.marked-first.result.0
          (λ x from to. no_run scene.view.now c.args.plane.0 c.in-Some.tex x (column plane x) (c.marked-first.ensures.before x to)) (λ x from to. absurd (omega (arith, to)))) (receives-none _),
      inl refl,
    )

pub paint_sky_column-requires-clause-takes : goal.paint_sky_column-requires-clause-takes
unfolding sky_strips
paint_sky_column-requires-clause-takes g c =
    let scene = c.args.scene.now in
    let plane = plane_at scene.planes.now.planes c.args.plane.0 in
    let runs : ℕ → List Strip = λ x. run_strips scene.view.now c.args.plane.0 c.in-Some.tex x (column plane x) in
    let width = ap (λ (shape : ViewShape). shape.width) c.shape.ensures.value in
    let whole = sky-some scene.view.now scene.sky c.args.plane.0 plane c.in-Some.tex c.requires.flat c.in-Some.is in
    record {
      each = λ strip h. c.loop-x.invariant.0.takes_on.each strip
          (c.requires.takes.each strip (subst (λ (xs : List Strip). Contains xs strip) (sym whole) (first-in runs c.loop-x.x scene.view.now.shape.width strip (omega (arith, width)) h)));
    }

pub returns-in_err-paint_sky_column : goal.returns-in_err-paint_sky_column
unfolding sky_strips
returns-in_err-paint_sky_column g c =
    let scene = c.args.scene.now in
    let plane = plane_at scene.planes.now.planes c.args.plane.0 in
    let runs : ℕ → List Strip = λ x. run_strips scene.view.now c.args.plane.0 c.in-Some.tex x (column plane x) in
    let width = ap (λ (shape : ViewShape). shape.width) c.shape.ensures.value in
    let whole = sky-some scene.view.now scene.sky c.args.plane.0 plane c.in-Some.tex c.requires.flat c.in-Some.is in
    let failure_is = err_from_is_err_and c.from_residual.result c.from_residual.ensures.1 in
    let left = first-left runs c.loop-x.x scene.view.now.shape.width (omega (arith, width)) in
    receives-stopped c.from_residual.result left.0 _ c.loop-x.invariant.0 tt refl c.paint_sky_column.ensures _ c.in_err-paint_sky_column.was (failure_is.1 ∙ ap Err failure_is.2) (left.1 ∙ sym whole)

pub loop-x-preserved : goal.loop-x-preserved
loop-x-preserved g c =
    let scene = c.args.scene.now in
    let plane = plane_at scene.planes.now.planes c.args.plane.0 in
    let width = ap (λ (shape : ViewShape). shape.width) c.shape.ensures.value in (
      receives-after _ c.loop-x.invariant.0 c.in_ok-paint_sky_column.ensures
          (first-more (λ x. run_strips scene.view.now c.args.plane.0 c.in-Some.tex x (column plane x)) c.loop-x.x),
      inr (omega (arith, width)),
    )

pub returns : goal.returns
unfolding sky_strips
returns g c =
    let scene = c.args.scene.now in
    let plane = plane_at scene.planes.now.planes c.args.plane.0 in
    let runs : ℕ → List Strip = λ x. run_strips scene.view.now c.args.plane.0 c.in-Some.tex x (column plane x) in
    let width = ap (λ (shape : ViewShape). shape.width) c.shape.ensures.value in
    let marked_columns = c.marked-first in
    let whole = sky-some scene.view.now scene.sky c.args.plane.0 plane c.in-Some.tex c.requires.flat c.in-Some.is in
    let none : (x : ℕ) → column plane x ≡ None → runs x ≡ [] = λ x is. no_run scene.view.now c.args.plane.0 c.in-Some.tex x (column plane x) is in
    let no_run_behind : (x : ℕ) → c.loop-x.x ≤ x → x < scene.view.now.shape.width → runs x ≡ [] =
    λ x from to. none x (marked_columns.ensures.behind x (omega (arith, width, from, to))) in
    let no_run_past_width : (x : ℕ) → scene.view.now.shape.width ≤ x → x < c.loop-x.x → runs x ≡ [] =
    λ x from to. elim c.loop-x.invariant.1 [
      | inl is ↦ none x (marked_columns.ensures.before x (omega (arith, is, to)))
      | inr in_view ↦ absurd (omega (arith, in_view, from, to))
    ] in
    receives-same _ (first-past runs c.loop-x.x scene.view.now.shape.width no_run_behind no_run_past_width ∙ sym whole) c.loop-x.invariant.0
