use Rattle.level_rules.specs.walk.Walk.{view_events}
use Rattle.node_walk.proofs.{DepthLemmas.deeper_root, PartLemmas.root_part, VisitLemmas.walks_same}
use Rattle.node_walk.proofs.nodes.walk.Goals as goal

pub returns-clause-visits : goal.returns-clause-visits
unfolding view_events
returns-clause-visits g c =
    let root_walks = walks_same _ c.walk_child.ensures.walks (root_part c.args.view.now c.new-lists.result _ _ c.root.result c.args.cover.now c.new-lists.ensures c.root.ensures.value c.requires.uncovered) in
    root_walks.visits

pub returns-clause-covered : goal.returns-clause-covered
returns-clause-covered g c =
    let root_walks = walks_same _ c.walk_child.ensures.walks (root_part c.args.view.now c.new-lists.result _ _ c.root.result c.args.cover.now c.new-lists.ensures c.root.ensures.value c.requires.uncovered) in
    root_walks.covered

pub returns-clause-depth : goal.returns-clause-depth
returns-clause-depth g c more =
    deeper_root c.args.view.now c.new-lists.result _ _ c.root.result _ c.new-lists.ensures c.root.ensures.value c.root.ensures.within more
