use Rattle.std.proofs.Common.{rules}
use Rattle.wall_edges.proofs.StepperLemmas.{at_first}
use Rattle.wall_edges.proofs.stepper.Stepper.new.Goals as goal

-- it stands at the first column
pub returns : goal.returns
returns c =
    rw (c.edges_first.ensures, c.edges_step.ensures)
    (at_first _ _ c.fragment.view_is c.fragment.invariant.0 c.fragment.invariant.1 (search rules))
