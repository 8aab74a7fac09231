-- One plane after the other.
use Rattle.std.proofs.Common.{◌≡◌, ◌∙◌, Err, ap, arith, length, refl, sym}
use Rattle.picture_rules.proofs.Common.{err_from_is_err_and}
use Rattle.receiver_rules.proofs.FirstLemmas.{first-in, first-left, first-more, first-none, first_lists}
use Rattle.receiver_rules.proofs.ReceiverLemmas.{receives-after, receives-none, receives-same, receives-stopped}
use Rattle.visplanes.specs.Planes.{plane_at}
use Rattle.plane_draw.specs.Strips.{plane_strips, planes_strips}
use Rattle.plane_draw.proofs.planes.paint_planes.Goals as goal

pub loop-number-init : goal.loop-number-init
loop-number-init g c = receives-same _ (sym (first-none (λ k. plane_strips c.args.scene.now.view.now c.args.scene.now.sky k (plane_at c.args.scene.now.planes.now.planes k)))) (receives-none _)

pub paint_plane-requires-clause-takes : goal.paint_plane-requires-clause-takes
unfolding planes_strips
paint_plane-requires-clause-takes g c =
    let scene = c.args.scene.now in
    record {
      each = λ strip h. c.loop-number.invariant.takes_on.each strip
          (c.requires.each strip (first-in (λ k. plane_strips scene.view.now scene.sky k (plane_at scene.planes.now.planes k)) c.loop-number.number (length scene.planes.now.planes) strip (omega arith) h));
    }

pub returns-in_err-paint_plane : goal.returns-in_err-paint_plane
unfolding planes_strips
returns-in_err-paint_plane g c =
    let scene = c.args.scene.now in
    let failure_is = err_from_is_err_and c.from_residual.result c.from_residual.ensures.1 in
    let left = first-left (λ k. plane_strips scene.view.now scene.sky k (plane_at scene.planes.now.planes k)) c.loop-number.number (length scene.planes.now.planes) (omega arith) in
    receives-stopped c.from_residual.result left.0 _ c.loop-number.invariant tt refl c.paint_plane.ensures _ c.in_err-paint_plane.was (failure_is.1 ∙ ap Err failure_is.2) left.1

pub loop-number-preserved : goal.loop-number-preserved
loop-number-preserved g c =
    let scene = c.args.scene.now in
    receives-after _ c.loop-number.invariant c.in_ok-paint_plane.ensures
    (first-more (λ k. plane_strips scene.view.now scene.sky k (plane_at scene.planes.now.planes k)) c.loop-number.number)

pub returns : goal.returns
unfolding planes_strips
returns g c =
    let scene = c.args.scene.now in
    let end : c.loop-number.number ≡ length scene.planes.now.planes = omega arith in
    receives-same _ (ap (first_lists (λ k. plane_strips scene.view.now scene.sky k (plane_at scene.planes.now.planes k))) end) c.loop-number.invariant
