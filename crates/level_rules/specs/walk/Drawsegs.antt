-- The fragments of a view that are drawn, each with the leaf that shows it (drawsegs, r_segs.c).
use Rattle.std.specs.Prelude.{ℕ, List, [], ◌∷◌, take}
use Rattle.level_rules.specs.{declared.walk.TheConstants.MAX_DRAWSEGS, walk.Events.Event}
use Rattle.level_rules.specs.walk.Events.Event.{LeafEvent, FragmentEvent}

-- a fragment of a seg, columns first to last, seen from a leaf
pub record LeafFragment : Type 0 where
  pub leaf : ℕ
  pub seg : ℕ
  pub first : ℕ
  pub last : ℕ

-- the leaf that was entered last, where leaf was entered before the events
unfoldable pub last_leaf : ℕ → List Event → ℕ
last_leaf leaf [] = leaf
last_leaf leaf (LeafEvent n ∷ es) = last_leaf n es
last_leaf leaf (FragmentEvent seg first last ∷ es) = last_leaf leaf es

-- the fragments of the events, each with the leaf that was entered last before it
unfoldable pub leaf_fragments : ℕ → List Event → List LeafFragment
leaf_fragments leaf [] = []
leaf_fragments leaf (LeafEvent n ∷ es) = leaf_fragments n es
leaf_fragments leaf (FragmentEvent seg first last ∷ es) =
    record { leaf = leaf; seg = seg; first = first; last = last } ∷ leaf_fragments leaf es

-- fragments are numbered from 0 in the order of events; those past the most that a view keeps are left out wholly
unfoldable pub drawsegs : List Event → List LeafFragment
drawsegs events = take MAX_DRAWSEGS (leaf_fragments 0 events)

-- the leaves in the order in which they are entered
unfoldable pub leaves_entered : List Event → List ℕ
leaves_entered [] = []
leaves_entered (LeafEvent n ∷ es) = n ∷ leaves_entered es
leaves_entered (FragmentEvent seg first last ∷ es) = leaves_entered es
