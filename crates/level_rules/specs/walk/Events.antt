-- What the walk of a view tells: the leaves that are entered, and the fragments of segs that are seen.
use Rattle.std.specs.Prelude.{ℕ, Bool, List}

pub data Event : Type 0 where
  -- a leaf (subsector) is entered
  LeafEvent : ℕ → Event
  -- of a seg, the columns from first to last are seen
  FragmentEvent : (seg first last : ℕ) → Event

-- the events so far, and the covered columns
pub record WalkState : Type 0 where
  pub events : List Event
  pub covered : List Bool
