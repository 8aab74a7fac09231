-- Laws of the walk, one for each case, as a recursive function and a loop over segs take them.
use Rattle.std.proofs.Common.{◌≡◌, ℕ, zero, suc, ◌+◌, ◌-◌, refl, arith, ap}
use Rattle.view_rules.specs.View.{ViewValue}
use Rattle.level_rules.specs.declared.Child.TheVariants.{Node as NodeChild, Leaf as LeafChild}
use Rattle.level_rules.specs.{declared.Surface.Surface, Levels.LevelLists, Levels.node_at}
use Rattle.level_rules.specs.walk.Events.{WalkState}
use Rattle.level_rules.specs.walk.Walk.{at_seg, at_segs, at_leaf, at_node, walk_child}

-- a leaf is entered at any depth
pub walk-leaf : (v : ViewValue) (level : LevelLists) (depth n : ℕ) (w : WalkState) → walk_child v level depth (LeafChild n) w ≡ at_leaf v level n w
unfolding walk_child
walk-leaf v level zero n w = refl
walk-leaf v level (suc depth) n w = refl

-- no node is walked where no depth is left
pub walk-too_deep : (v : ViewValue) (level : LevelLists) (depth n : ℕ) (w : WalkState) → depth ≡ 0 → walk_child v level depth (NodeChild n) w ≡ w
unfolding walk_child
walk-too_deep v level depth n w e = rw e

pub walk-node : (v : ViewValue) (level : LevelLists) (depth n : ℕ) (w : WalkState) → ¬ (depth ≡ 0) →
    walk_child v level depth (NodeChild n) w ≡ at_node v (walk_child v level (depth - 1)) (node_at level n) w
unfolding walk_child
walk-node v level zero n w e = absurd (e refl)
walk-node v level (suc depth) n w e = let one_less : suc depth - 1 ≡ depth = omega arith in rw one_less

-- no seg, and one seg more
pub at_segs-none : (v : ViewValue) (level : LevelLists) (front : Surface) (first n : ℕ) (w : WalkState) → n ≡ 0 → w ≡ at_segs v level front first n w
unfolding at_segs
at_segs-none v level front first n w e = rw e

pub at_segs-more : (v : ViewValue) (level : LevelLists) (front : Surface) (first k n : ℕ) (w : WalkState) → k + 1 ≡ n →
    at_seg v level front (first + k) (at_segs v level front first k w) ≡ at_segs v level front first n w
unfolding at_segs
at_segs-more v level front first k n w e = let is_suc : suc k ≡ n = omega arith in ap (λ (m : ℕ). at_segs v level front first m w) is_suc

-- for `grind`
pub ruleset walk_cases = (walk-leaf, walk-too_deep, walk-node)

pub ruleset seg_steps = (at_segs-none, at_segs-more)
