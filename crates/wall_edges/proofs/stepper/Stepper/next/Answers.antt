use Rattle.std.proofs.Common.{arith, ◌<◌}
use Rattle.wall_edges.proofs.StepperLemmas.{at_next}
use Rattle.wall_edges.proofs.stepper.Stepper.next.Goals as goal

-- it answers the edges of its column, and stands at the next one
pub returns-clause-column : goal.returns-clause-column
returns-clause-column c =
    λ f k h.
    let columns_are_left : 0 < c.args.self.now.left = omega arith in
    (h.now, rw c.edges_plus-self.ensures (at_next f k c.args.self.now h columns_are_left))
