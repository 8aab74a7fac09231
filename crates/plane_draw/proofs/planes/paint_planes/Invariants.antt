-- The brush was asked for the strips of the planes below the number.
use Rattle.std.proofs.Common.{Ok}
use Rattle.receiver_rules.specs.Receivers.{Receives}
use Rattle.receiver_rules.proofs.FirstLemmas.{first_lists}
use Rattle.visplanes.specs.Planes.{plane_at}
use Rattle.plane_draw.specs.Strips.{plane_strips}
use Rattle.plane_draw.proofs.planes.paint_planes.Given as goal

abbrev pub invariant-loop-number : goal.invariant-loop-number
invariant-loop-number g l = Receives g.B.Brush.takes g.B.Brush.stands g.B.Brush.stopped l.initial.brush l.brush
    (first_lists (λ k. plane_strips l.scene.view.now l.scene.sky k (plane_at l.scene.planes.now.planes k)) l.number) (Ok tt)
