-- Laws of `leaf_from` and `is_within`, at a leaf and at a node.
use Rattle.art_rules.proofs.Common.{arith, List, ltb-true, refl, slice_get, Some, suc, true, zero, ℕ, ℤ, ◌-◌, ◌<◌, ◌≡◌, ◌≤◌}
use Rattle.level_scene.specs.Rules.{Node, child_on, is_there, is_within, leaf_below, leaf_from, partition_of, side_of}
use Rattle.scene_rules.specs.Words.{Leaf as LeafChild, Node as NodeChild}
use Rattle.scene_rules.proofs.Laws.{child_passes}

-- a leaf is the leaf itself
pub leaf_from-leaf : (nodes : List Node) (x y : ℤ) (levels leaf : ℕ) → leaf_from nodes x y levels (LeafChild leaf) ≡ leaf
unfolding leaf_from
leaf_from-leaf nodes x y zero leaf = refl
leaf_from-leaf nodes x y (suc levels) leaf = refl

-- a child that is there is a leaf or a node that is there
pub there-leaf : (nodes leaves leaf : ℕ) → is_there nodes leaves (LeafChild leaf) ≡ true → leaf < leaves
unfolding is_there
there-leaf nodes leaves leaf there = ltb-true leaf leaves there

pub there-node : (nodes leaves n : ℕ) → is_there nodes leaves (NodeChild n) ≡ true → n < nodes
unfolding is_there
there-node nodes leaves n there = ltb-true n nodes there

-- a node needs a level
pub within-node : (nodes : List Node) (levels n : ℕ) → is_within nodes levels (NodeChild n) ≡ true → 0 < levels
unfolding is_within
within-node nodes zero n within = cc
within-node nodes (suc levels) n within = omega arith

-- below a node one level less is needed
pub within-child : (nodes : List Node) (levels n side : ℕ) (node : Node) → side ≤ 1 → slice_get nodes n ≡ Some node → is_within nodes levels (NodeChild n) ≡ true → is_within nodes (levels - 1) (child_on node side) ≡ true
unfolding is_within
within-child nodes zero n side node low found within = cc
within-child nodes (suc levels) n side node low found within =
    let one_level_less : suc levels - 1 ≡ levels = omega arith in
    rw one_level_less (child_passes (is_within nodes levels) node side low (rw found at within))

-- the leaf is that of the child on the point's side
pub leaf_from-child : (nodes : List Node) (x y : ℤ) (levels n : ℕ) (node : Node) → 0 < levels → slice_get nodes n ≡ Some node →
    leaf_from nodes x y levels (NodeChild n) ≡ leaf_from nodes x y (levels - 1) (child_on node (side_of (partition_of node.line) x y))
unfolding leaf_from leaf_below
leaf_from-child nodes x y zero n node some found = absurd (omega arith)
leaf_from-child nodes x y (suc levels) n node some found =
    let one_level_less : suc levels - 1 ≡ levels = omega arith in
    rw (one_level_less, found) refl

-- for `grind`: a walk down the nodes
pub ruleset leaf_steps = (leaf_from-leaf, within-node)
