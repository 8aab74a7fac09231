use Rattle.art_rules.proofs.Common.{◌≡◌, ◌+◌, ◌-◌, ◌<◌, ℕ, w32, to_z, of_z, ap, sym, ◌∙◌, arith, rules, to_z-of_z}
use Rattle.scene_rules.specs.Words.{Child, leaf_from}
use Rattle.level_scene.proofs.LeafLemmas.{leaf_from-leaf, there-leaf, there-node, within-node}
use Rattle.level_scene.proofs.places.+leaf_from.Goals as goal

pub returns-in-Leaf-clause-there : goal.returns-in-Leaf-clause-there
returns-in-Leaf-clause-there t c = there-leaf _ _ c.in-Leaf.leaf (rw c.in-Leaf.is at c.requires.there)

pub child_toward-requires : goal.child_toward-requires
child_toward-requires t c = there-node _ _ c.in-Node.n (rw c.in-Node.is at c.requires.there)

pub returns-in-Leaf-clause-depth : goal.returns-in-Leaf-clause-depth
returns-in-Leaf-clause-depth t c more =
    ap (λ (child : Child). leaf_from c.args.level.now.nodes c.args.x c.args.y (c.args.levels + more) child) c.in-Leaf.is
    ∙ leaf_from-leaf c.args.level.now.nodes c.args.x c.args.y (c.args.levels + more) c.in-Leaf.leaf

-- more levels at a node are more levels at its child
pub returns-in-Node-clause-depth : goal.returns-in-Node-clause-depth
returns-in-Node-clause-depth t c more =
    let nodes = c.args.level.now.nodes in
    let levels = c.args.levels in
    let x_same : to_z w32 (of_z w32 c.args.x) ≡ c.args.x = to_z-of_z w32 c.args.x (search rules) in
    let y_same : to_z w32 (of_z w32 c.args.y) ≡ c.args.y = to_z-of_z w32 c.args.y (search rules) in
    let levels_left : 0 < levels = within-node nodes levels c.in-Node.n (rw c.in-Node.is at c.requires.within) in
    let levels_left_is : levels + more - 1 ≡ levels - 1 + more = omega arith in
    let leaf_of_child = rw (x_same, y_same) at (c.child_toward.ensures.leaf (levels + more) (omega arith)) in
    ap (λ (child : Child). leaf_from nodes c.args.x c.args.y (levels + more) child) c.in-Node.is
    ∙ leaf_of_child
    ∙ ap (λ (fuel : ℕ). leaf_from nodes c.args.x c.args.y fuel c.child_toward.result) levels_left_is
    ∙ rw (x_same, y_same) at (c.leaf_from.ensures.depth more)

pub returns-in-Node-clause-value : goal.returns-in-Node-clause-value
returns-in-Node-clause-value t c =
    let levels_are : c.args.levels + 0 ≡ c.args.levels = omega arith in
    sym (ap (λ (fuel : ℕ). leaf_from c.args.level.now.nodes c.args.x c.args.y fuel c.args.child) (sym levels_are) ∙ returns-in-Node-clause-depth t c 0)
