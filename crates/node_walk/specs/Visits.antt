-- What a visitor is given in a walk: the events that it takes, and a part of a walk that comes to a state.
use Rattle.std.specs.Prelude.{◌≡◌, ℕ, ◌<◌, ◌≤◌, Bool, List, Result, OnOk}
use Rattle.node_walk.specs.Rules.{Event, FragmentEvent, LeafEvent, WalkState}
use Rattle.receiver_rules.specs.Receivers.{Receives}

-- each leaf that is there is taken, and in each run of columns of the view each seg that is there
pub record TakesAll (takes : Event → Type 0) (leaves segs width : ℕ) : Type 0 where
  pub leaf : (n : ℕ) → n < leaves → takes (LeafEvent n)
  pub fragment : (seg first last : ℕ) → seg < segs → first ≤ last → last < width → takes (FragmentEvent seg first last)

-- A part of a walk that comes to a state: the visitor was given the state's events, and after Ok the columns are the state's.
pub record Walks {V A E : Type 0} (takes : V → Event → Type 0) (stands : V → A → List Event → Type 0) (stopped : V → A → List Event → E → Type 0) (old new : V) (state : WalkState) (columns : List Bool) (result : Result (Unit {0}) E) : Type 0 where
  pub visits : Receives takes stands stopped old new state.events result
  pub covered : OnOk result (columns ≡ state.covered)
