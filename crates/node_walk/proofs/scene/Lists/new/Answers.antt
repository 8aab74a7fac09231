use Rattle.node_walk.proofs.ListLemmas.{read_lists-whole}
use Rattle.node_walk.proofs.scene.Lists.new.Goals as goal

pub invariant_of-result : goal.invariant_of-result
invariant_of-result c =
    read_lists-whole c.args.scene.now.level.now _ _ _ _ _ _ c.segs.ensures.sound c.segs.ensures.value c.leaves.ensures.value c.nodes.ensures.value c.root.ensures.value c.requires.surfaces c.requires.middles
