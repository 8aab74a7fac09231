-- The brush was asked for the strips of the columns below x, and x is the first column of the loop or one of the view.
use Rattle.std.specs.Prelude.{◌≡◌, ◌≤◌, ◌⊎◌, Ok}
use Rattle.receiver_rules.specs.Receivers.{Receives}
use Rattle.receiver_rules.proofs.FirstLemmas.{first_lists}
use Rattle.plane_draw.specs.Rules.{column}
use Rattle.visplanes.specs.Planes.{plane_at}
use Rattle.plane_draw.specs.Strips.{run_strips}
use Rattle.plane_draw.proofs.sky.paint_sky.Given as goal

abbrev pub invariant-loop-x : goal.invariant-loop-x
invariant-loop-x g l = (Receives g.B.Brush.takes g.B.Brush.stands g.B.Brush.stopped l.initial.brush l.brush
    (first_lists (λ x. run_strips l.scene.view.now l.plane.0 l.tex x (column (plane_at l.scene.planes.now.planes l.plane.0) x)) l.x) (Ok tt))
    × ((l.x ≡ l.first) ⊎ (l.x ≤ l.scene.view.now.shape.width))
