use Rattle.word_rules.proofs.Common.{ap, arith, Err, err_from_is_err_and, refl, sym, ℕ, ◌∙◌, ◌≡◌}
use Rattle.node_walk.specs.Rules.{Child, WalkState, at_segs, leaf_at, surface_at, walk_child}
use Rattle.node_walk.specs.Lists.{part_start}
use Rattle.level_rules.proofs.walk.WalkLemmas.{at_segs-none, walk-too_deep}
use Rattle.node_walk.proofs.PartLemmas.{child_part, node_front, node_near, node_both, segs_left, segs_part}
use Rattle.node_walk.proofs.VisitLemmas.{takes_all_after, walks_more, walks_none, walks_same, walks_stop, walks_stopped, walks_then, walks_whole}
use Rattle.node_walk.proofs.nodes.+walk_child.Goals as goal

-- the visitor stopped at the leaf
pub returns-in_err-leaf-in-Leaf-clause-walks : goal.returns-in_err-leaf-in-Leaf-clause-walks
returns-in_err-leaf-in-Leaf-clause-walks g t c =
    let failure_is = err_from_is_err_and c.from_residual.result c.from_residual.ensures.1 in
    let lists = c.args.lists.now in
    let leaf = leaf_at lists c.in-Leaf.n in
    let child_is = child_part c.args.view.now lists c.args.depth c.args.child c.in-Leaf.n leaf (surface_at lists leaf.sector) c.args.cover.now c.in-Leaf.is refl refl in
    walks_stop c.from_residual.result _ _ _ c.leaf.ensures _ c.in_err-leaf-in-Leaf.was (failure_is.1 ∙ ap Err failure_is.2) (sym (ap (λ (w : WalkState). w.events) child_is))

pub visit_seg-requires-clause-takes : goal.visit_seg-requires-clause-takes
visit_seg-requires-clause-takes g t c =
    takes_all_after _ _ _ c.loop-k.invariant.walks.visits tt refl (takes_all_after _ _ _ c.leaf.ensures _ c.in_ok-leaf-in-Leaf.was c.requires.takes)

-- the visitor stopped at a seg
pub returns-in_err-visit_seg-in-Leaf-clause-walks : goal.returns-in_err-visit_seg-in-Leaf-clause-walks
returns-in_err-visit_seg-in-Leaf-clause-walks g t c =
    let lists = c.args.lists.now in
    let leaf = c.leaf-leaf.result.now in
    let front = c.surface-front.result.now in
    let failure_is = err_from_is_err_and c.from_residual-in_err-visit_seg-in-Leaf.result c.from_residual-in_err-visit_seg-in-Leaf.ensures.1 in
    let segs_to_come = segs_left c.args.view.now lists front leaf.first c.loop-k.k leaf.count c.args.cover.now c.loop-k.cover (omega arith) c.loop-k.invariant.walks.covered in
    walks_then _ c.leaf.ensures _ c.in_ok-leaf-in-Leaf.was
    (walks_stopped c.from_residual-in_err-visit_seg-in-Leaf.result _ _ segs_to_come.0 c.loop-k.invariant.walks.visits tt refl c.visit_seg.ensures.walks.visits _ c.in_err-visit_seg-in-Leaf.was (failure_is.1 ∙ ap Err failure_is.2) segs_to_come.1)
    (child_part c.args.view.now lists c.args.depth c.args.child c.in-Leaf.n leaf front c.args.cover.now c.in-Leaf.is c.leaf-leaf.ensures.value c.surface-front.ensures)

pub loop-k-init : goal.loop-k-init
loop-k-init g t c = record {
  walks = walks_none _ _ c.args.cover.now (sym (at_segs-none c.args.view.now c.args.lists.now c.surface-front.result.now c.leaf-leaf.result.now.first 0 _ refl));
  width = refl;
}

pub loop-k-preserved : goal.loop-k-preserved
loop-k-preserved g t c = record {
  walks = walks_more _ c.loop-k.invariant.walks.visits tt refl c.visit_seg.ensures.walks _ c.in_ok-visit_seg-in-Leaf.was
      (segs_part c.args.view.now c.args.lists.now c.surface-front.result.now c.leaf-leaf.result.now.first c.loop-k.k c.args.cover.now c.loop-k.cover c.loop-k.invariant.walks.covered);
  width = c.visit_seg.ensures.width ∙ c.loop-k.invariant.width;
}

pub returns-after-loop-k-clause-walks : goal.returns-after-loop-k-clause-walks
returns-after-loop-k-clause-walks g t c =
    let lists = c.args.lists.now in
    let leaf = c.leaf-leaf.result.now in
    let front = c.surface-front.result.now in
    let end : c.loop-k.k ≡ leaf.count = omega arith in
    walks_then _ c.leaf.ensures _ c.in_ok-leaf-in-Leaf.was
    (walks_same _ c.loop-k.invariant.walks (ap (λ (n : ℕ). at_segs c.args.view.now lists front leaf.first n (part_start c.args.cover.now)) (sym end)))
    (child_part c.args.view.now lists c.args.depth c.args.child c.in-Leaf.n leaf front c.args.cover.now c.in-Leaf.is c.leaf-leaf.ensures.value c.surface-front.ensures)

pub returns-then-depth-eq0-clause-walks : goal.returns-then-depth-eq0-clause-walks
returns-then-depth-eq0-clause-walks g t c =
    walks_none _ _ c.args.cover.now
    (ap (λ (d : Child). walk_child c.args.view.now c.args.lists.now c.args.depth d (part_start c.args.cover.now)) c.in-Node.is
    ∙ walk-too_deep c.args.view.now c.args.lists.now c.args.depth c.in-Node.n (part_start c.args.cover.now) c.if-depth-eq0.true)

-- the visitor stopped under the near child
pub returns-in_err-walk_child-in-Node-clause-walks : goal.returns-in_err-walk_child-in-Node-clause-walks
returns-in_err-walk_child-in-Node-clause-walks g t c =
    let failure_is = err_from_is_err_and c.from_residual-in_err-walk_child-in-Node.result c.from_residual-in_err-walk_child-in-Node.ensures.1 in
    let front_node = node_front c.args.view.now c.args.lists.now c.args.depth c.in-Node.n c.eye_side-near.result c.args.child c.child_on.result c.node-node.result.now c.args.cover.now c.in-Node.is c.if-depth-eq0.false c.node-node.ensures.value c.eye_side-near.ensures.value c.child_on.ensures in
    walks_stop c.from_residual-in_err-walk_child-in-Node.result _ _ front_node.0 c.walk_child.ensures.walks.visits _ c.in_err-walk_child-in-Node.was (failure_is.1 ∙ ap Err failure_is.2) front_node.1

-- the near child alone
pub returns-then-not-box_passes-clause-walks : goal.returns-then-not-box_passes-clause-walks
returns-then-not-box_passes-clause-walks g t c =
    walks_whole _ _ c.walk_child.ensures.walks.visits _ c.in_ok-walk_child-in-Node.was
    (node_near c.args.view.now c.args.lists.now c.args.depth c.in-Node.n c.eye_side-near.result c.args.child c.child_on.result c.node-node.result.now c.args.cover.now c.in-Node.is c.if-depth-eq0.false c.node-node.ensures.value c.eye_side-near.ensures.value c.child_on.ensures
    c.walk_child.new.cover c.box_on.result.now c.in_ok-walk_child-in-Node.ensures.walks.covered c.box_on.ensures (sym c.if-not-box_passes.ensures))

-- and then the far one
pub returns-else-not-box_passes-clause-walks : goal.returns-else-not-box_passes-clause-walks
returns-else-not-box_passes-clause-walks g t c =
    walks_then _ c.walk_child.ensures.walks.visits _ c.in_ok-walk_child-in-Node.was c.walk_child-in-Node.ensures.walks
    (node_both c.args.view.now c.args.lists.now c.args.depth c.in-Node.n c.eye_side-near.result c.args.child c.child_on.result c.node-node.result.now c.args.cover.now c.in-Node.is c.if-depth-eq0.false c.node-node.ensures.value c.eye_side-near.ensures.value c.child_on.ensures
    c.walk_child.new.cover c.box_on.result.now c.child_on-in-Node.result c.in_ok-walk_child-in-Node.ensures.walks.covered c.box_on.ensures (sym c.if-not-box_passes.ensures) c.child_on-in-Node.ensures)
