use Rattle.std.proofs.Common.{◌≡◌, ◌-◌, ap, ◌∙◌, rules}
use Rattle.level_scene.specs.Rules.{Child, child_on, is_within, leaf_from, partition_of, side_of}
use Rattle.level_scene.proofs.LeafLemmas.{leaf_from-child, within-child}
use Rattle.level_scene.proofs.places.child_toward.Goals as goal

pub returns-clause-leaf : goal.returns-clause-leaf
returns-clause-leaf c levels some =
    let nodes = c.args.level.now.nodes in
    let node = c.node_at-node.result.now in
    let child : child_on node (side_of (partition_of node.line) c.args.x c.args.y) ≡ c.child_on.result = search rules in
    leaf_from-child nodes c.args.x c.args.y levels c.args.n node some c.node_at-node.ensures.value
    ∙ ap (λ (child : Child). leaf_from nodes c.args.x c.args.y (levels - 1) child) child

pub returns-clause-within : goal.returns-clause-within
returns-clause-within c levels within =
    let nodes = c.args.level.now.nodes in
    let node = c.node_at-node.result.now in
    ap (λ (child : Child). is_within nodes (levels - 1) child) c.child_on.ensures
    ∙ within-child nodes levels c.args.n c.side_of.result node c.side_of.ensures.bound c.node_at-node.ensures.value within
