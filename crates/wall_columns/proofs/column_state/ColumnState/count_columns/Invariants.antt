-- The columns that the stepper has passed are marked.
use Rattle.std.specs.Prelude.{◌≡◌}
use Rattle.wall_edges.specs.Steppers.{IsAt}
use Rattle.wall_columns.specs.Columns.{HasMarked}
use Rattle.wall_columns.proofs.MarkLemmas.{passed_columns}
use Rattle.wall_columns.proofs.column_state.ColumnState.count_columns.Given as goal

abbrev pub invariant-loop-edges : goal.invariant-loop-edges
invariant-loop-edges l = record {
  at : IsAt l.fragment (passed_columns l.fragment l.stepper) l.stepper;
  marked : HasMarked l.fragment (passed_columns l.fragment l.stepper) l.initial.self l.self l.initial.planes l.planes;
  openings : l.self.openings ≡ l.initial.self.openings;
}

abbrev pub decreases-loop-edges : goal.decreases-loop-edges
decreases-loop-edges l = l.stepper.left
