use Rattle.std.proofs.Common.{◌≡◌, Ok, length}
use Rattle.level_rules.specs.walk.Walk.{at_segs}
use Rattle.node_walk.specs.{Lists.part_start, Visits.Walks}
use Rattle.node_walk.proofs.nodes.+walk_child.Given as goal

abbrev pub decreases-walk_child : goal.decreases-walk_child
decreases-walk_child g l = l.depth

abbrev pub invariant-loop-k : goal.invariant-loop-k
invariant-loop-k g l = record {
  walks : Walks g.V.Visitor.takes g.V.Visitor.stands g.V.Visitor.stopped l.initial.visitor l.visitor
      (at_segs l.view l.lists l.front l.leaf.first l.k (part_start l.fn.cover)) l.cover (Ok tt);
  width : length l.cover ≡ length l.fn.cover;
}
