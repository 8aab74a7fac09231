-- The nodes of a level under its root, in preorder, and the first that is wrong.
use Rattle.std.specs.Prelude.{◌≡◌, ◌≢◌, ℕ, zero, suc, ◌+◌, ◌-◌, ◌==◌, ◌&&◌, nat_lt, Bool, true, false, cond, List, [], ◌∷◌, ◌++◌, length, replicate, slice_get, slice_set, slice_index_or, pos, Option, Some, None, refl}
use Rattle.std.specs.List.{AllPairs}
use Rattle.std.specs.Option.{option_map_or}
use Rattle.word_rules.specs.Least.{or_else}
use Rattle.level_rules.specs.{declared.Node.Node, declared.Child.Child}
use Rattle.level_rules.specs.declared.Child.TheVariants.{Node as NodeChild, Leaf as LeafChild}
use Rattle.level_rules.specs.{declared.TheConstants.MAX_DEPTH, Levels.child_on}
use Rattle.level_rules.specs.declared.maps.refusal.MapRefusal.{MapRefusal}
use Rattle.level_rules.specs.declared.maps.refusal.MapRefusal.TheVariants.{NodeTwice, TooDeep}

-- a node that is reached from the root, and how deep: the root has depth 1
pub record Visit : Type 0 where
  pub node : ℕ
  pub depth : ℕ

-- the visits of both children of a node, child 0 first
unfoldable pub visits_of : (Child → List Visit) → Option Node → List Visit
visits_of visits None = []
visits_of visits (Some node) = visits (child_on node 0) ++ visits (child_on node 1)

-- the nodes from a child on, in preorder and at most so many levels of them
unfoldable pub preorder : List Node → ℕ → ℕ → Child → List Visit
preorder nodes zero depth child = []
preorder nodes (suc levels) depth (LeafChild leaf) = []
preorder nodes (suc levels) depth (NodeChild n) =
    record { node = n; depth = depth } ∷ visits_of (preorder nodes levels (depth + 1)) (slice_get nodes n)

-- what is wrong with a visit, where `reached` says of each node whether it was reached before
unfoldable pub visit_refusal : List Bool → Visit → Option MapRefusal
visit_refusal reached v =
    cond (slice_index_or reached v.node false) (Some (NodeTwice v.node))
    (cond (nat_lt MAX_DEPTH v.depth) (Some (TooDeep v.node)) None)

-- the first visit that is wrong
unfoldable pub visits_refusal : List Bool → List Visit → Option MapRefusal
visits_refusal reached [] = None
visits_refusal reached (v ∷ vs) =
    or_else (visit_refusal reached v) (visits_refusal (slice_set reached v.node true) vs)

-- the nodes that were reached, after these visits
unfoldable pub reached_after : List Bool → List Visit → List Bool
reached_after reached [] = reached
reached_after reached (v ∷ vs) = reached_after (slice_set reached v.node true) vs

-- the root of a level: its last node, or leaf 0 where there is none
unfoldable pub root_of : List Node → Child
root_of nodes = cond (length nodes == 0) (LeafChild 0) (NodeChild (length nodes - 1))

-- the first refusal of the nodes; a way that comes back to a node, or is longer than the limit, is
-- refused one level past the limit at the latest
unfoldable pub tree_refusal : List Node → Option MapRefusal
tree_refusal nodes =
    visits_refusal (replicate (length nodes) false) (preorder nodes (MAX_DEPTH + 1) 1 (root_of nodes))

-- from this child on, no way to a leaf has more than so many nodes
unfoldable pub is_within : List Node → ℕ → Child → Bool
is_within nodes levels (LeafChild leaf) = true
is_within nodes zero (NodeChild n) = false
is_within nodes (suc levels) (NodeChild n) =
    option_map_or (λ node. is_within nodes levels (child_on node 0) && is_within nodes levels (child_on node 1)) (slice_get nodes n) true

-- no node is visited twice
abbrev pub AreOnce : List Visit → Type 0
AreOnce visits = AllPairs (λ a b. a.node ≢ b.node) visits

-- a node of which both children are the node itself is reached twice
abbrev pub row_node : Node
row_node = record {
  line = record {
    x = pos 0;
    y = pos 0;
    dx = pos 0;
    dy = pos 0;
  };
  boxes = [];
  children = NodeChild 0 ∷ NodeChild 0 ∷ [];
}

pub tree_refusal_row : tree_refusal (row_node ∷ []) ≡ Some (NodeTwice 0)
unfolding tree_refusal visits_refusal visit_refusal preorder visits_of root_of child_on
tree_refusal_row = refl
