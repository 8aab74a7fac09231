-- Where no way to a leaf has more nodes than the depth, more depth gives the same walk.
use Rattle.word_rules.proofs.Common.{ap, arith, Bool, cond, false, from_bool, int_le, None, Option, option_map_or, refl, slice_get, Some, suc, sym, true, zero, ℕ, ◌&&◌, ◌+◌, ◌-◌, ◌∙◌, ◌≡◌, ◌≤◌}
use Rattle.node_walk.specs.Rules.{Child, LevelLists, Node, Partition, ViewValue, WalkState, at_far, at_node, box_passes, child_on, differ, eye_side, far_box, far_child, is_within, is_zero, minus, near_child, node_at, partition_of, side_by_product, side_by_slope, side_of, signs_differ, walk_child}
use Rattle.level_rules.specs.declared.Child.TheVariants.{Node as NodeChild, Leaf as LeafChild}
use Rattle.level_rules.proofs.maps.TreeLemmas.{child_passes}
use Rattle.level_rules.proofs.walk.WalkLemmas.{walk-leaf, walk-node}

below_by : (b : Bool) (x y : ℕ) → x ≤ 1 → y ≤ 1 → cond b x y ≤ 1
below_by true x y h k = h
below_by false x y h k = k

bool_below : (b : Bool) → from_bool b ≤ 1
bool_below true = omega arith
bool_below false = omega arith

slope_side_below : (line : Partition) (dx dy : _) → side_by_slope line dx dy ≤ 1
unfolding side_by_slope side_by_product
slope_side_below line dx dy = below_by (differ (signs_differ line.dy line.dx) (signs_differ dx dy)) _ _ (bool_below _) (bool_below _)

-- a side is 0 or 1
side_below : (line : Partition) (x y : _) → side_of line x y ≤ 1
unfolding side_of
side_below line x y =
    below_by (is_zero line.dx) _ _ (below_by (int_le x line.x) _ _ (bool_below _) (bool_below _))
    (below_by (is_zero line.dy) _ _ (below_by (int_le y line.y) _ _ (bool_below _) (bool_below _)) (slope_side_below line (minus x line.x) (minus y line.y)))

eye_side_below : (v : ViewValue) (node : Node) → eye_side v node ≤ 1
unfolding eye_side
eye_side_below v node = side_below (partition_of node.line) v.eye.x v.eye.y

passed_same : (b : Bool) (x y w : WalkState) → x ≡ y → cond b x w ≡ cond b y w
passed_same b x y w e = ap (λ (z : WalkState). cond b z w) e

-- two walks that agree on the children that pass agree on the node
module _ (v : ViewValue) (f g : Child → WalkState → WalkState) (p : Child → Bool) (agree : (child : Child) (w : WalkState) → p child ≡ true → f child w ≡ g child w) where
  far_same : (node : Node) (w : WalkState) → (p (child_on node 0) && p (child_on node 1)) ≡ true → at_far v f node w ≡ at_far v g node w
  unfolding at_far far_child
  far_same node w e = passed_same (box_passes v w.covered (far_box v node)) _ _ w (agree (child_on node (1 - eye_side v node)) w (child_passes p node (1 - eye_side v node) (omega arith) e))

  near_same : (node : Node) (w : WalkState) → (p (child_on node 0) && p (child_on node 1)) ≡ true → f (near_child v node) w ≡ g (near_child v node) w
  unfolding near_child
  near_same node w e = agree (child_on node (eye_side v node)) w (child_passes p node (eye_side v node) (eye_side_below v node) e)

  node_same : (found : Option Node) (w : WalkState) → option_map_or (λ node. p (child_on node 0) && p (child_on node 1)) found true ≡ true → at_node v f found w ≡ at_node v g found w
  unfolding at_node
  node_same None w e = refl
  node_same (Some node) w e = ap (at_far v f node) (near_same node w e) ∙ far_same node (g (near_child v node) w) e

-- more depth than is needed gives the same walk
pub deeper : (v : ViewValue) (level : LevelLists) (depth more : ℕ) (child : Child) (w : WalkState) → is_within level.nodes depth child ≡ true → walk_child v level (depth + more) child w ≡ walk_child v level depth child w
unfolding is_within node_at
deeper v level zero more (LeafChild n) w h = walk-leaf v level (zero + more) n w ∙ sym (walk-leaf v level zero n w)
deeper v level zero more (NodeChild n) w h = cc
deeper v level (suc depth) more (LeafChild n) w h = walk-leaf v level (suc depth + more) n w ∙ sym (walk-leaf v level (suc depth) n w)
deeper v level (suc depth) more (NodeChild n) w h =
    let one_less_of_sum : suc depth + more - 1 ≡ depth + more = omega arith in
    let one_less : suc depth - 1 ≡ depth = omega arith in
    walk-node v level (suc depth + more) n w (λ e. omega (arith, e))
    ∙ ap (λ (d : ℕ). at_node v (walk_child v level d) (slice_get level.nodes n) w) one_less_of_sum
    ∙ node_same v (walk_child v level (depth + more)) (walk_child v level depth) (is_within level.nodes depth) (λ child u k. deeper v level depth more child u k) (slice_get level.nodes n) w h
    ∙ sym (ap (λ (d : ℕ). at_node v (walk_child v level d) (slice_get level.nodes n) w) one_less)
    ∙ sym (walk-node v level (suc depth) n w (λ e. omega (arith, e)))

-- the same at the root of lists that are read
pub deeper_root : (v : ViewValue) (lists level : LevelLists) (depth : ℕ) (root : Child) (w : WalkState) → lists ≡ level → root ≡ lists.root →
    is_within lists.nodes depth root ≡ true → (more : ℕ) → walk_child v level (depth + more) level.root w ≡ walk_child v level depth level.root w
deeper_root v lists level depth root w e f h more =
    let is_within_level : is_within level.nodes depth level.root ≡ true =
    ap (λ (l : LevelLists). is_within l.nodes depth l.root) (sym e) ∙ ap (λ (r : Child). is_within lists.nodes depth r) (sym f) ∙ h in
    deeper v level depth more level.root w is_within_level
