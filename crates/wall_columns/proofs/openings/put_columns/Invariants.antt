-- The columns left of x are written.
use Rattle.std.specs.Prelude.{◌≡◌, ◌-◌, length}
use lib.Seq.{paste}
use Rattle.wall_columns.specs.Rules.{WallFacts, listed_from, texture_column}
use Rattle.wall_edges.specs.Fragments.{fragment_of}
use Rattle.wall_columns.proofs.openings.put_columns.Given as goal

abbrev pub invariant-loop-x : goal.invariant-loop-x
invariant-loop-x l = record {
  written : (facts : WallFacts) → l.fragment ≡ fragment_of l.view facts l.first l.last →
      l.xs ≡ paste l.initial.xs l.place (listed_from (texture_column l.view facts) l.first l.last) (l.x - l.first);
  count : length l.xs ≡ length l.initial.xs;
}
