-- The columns that the stepper has passed are marked, and the brush was asked for their strips.
use Rattle.std.specs.Prelude.{◌≡◌, Ok}
use Rattle.receiver_rules.specs.Receivers.{Receives}
use Rattle.receiver_rules.proofs.FirstLemmas.{first_lists}
use Rattle.wall_edges.specs.Steppers.{IsAt}
use Rattle.wall_columns.specs.{Columns.HasMarked, Windows.window_at}
use Rattle.wall_columns.proofs.{MarkLemmas.passed_columns, StripLemmas.strips_along}
use Rattle.wall_columns.proofs.column_state.ColumnState.draw_each.Given as goal

abbrev pub invariant-loop-edges : goal.invariant-loop-edges
invariant-loop-edges g l = record {
  at : IsAt l.fragment (passed_columns l.fragment l.stepper) l.stepper;
  marked : HasMarked l.fragment (passed_columns l.fragment l.stepper) l.initial.self l.self l.initial.planes l.planes;
  openings : l.self.openings ≡ l.initial.self.openings;
  asks : Receives g.B.Brush.takes g.B.Brush.stands g.B.Brush.stopped l.initial.brush l.brush
      (first_lists (strips_along l.view l.number l.fragment (window_at l.initial.self.windows)) (passed_columns l.fragment l.stepper)) (Ok tt);
}

abbrev pub decreases-loop-edges : goal.decreases-loop-edges
decreases-loop-edges g l = l.stepper.left
