-- What the notes say of the fragments that they are of.
use Rattle.std.specs.Prelude.{ℕ, List, IfSome, IsSome, slice_get}
use Rattle.wall_columns.specs.Rules.{FragmentNote, Wall}

-- behind the seg of a masked note there is a sector
pub record HaveBacks (walls : List Wall) (notes : List FragmentNote) : Type 0 where
  pub at : (k : ℕ) → IfSome (slice_get walls k) (λ w. IfSome (slice_get notes k) (λ d.
      IsSome d.masked → IsSome w.facts.back))
