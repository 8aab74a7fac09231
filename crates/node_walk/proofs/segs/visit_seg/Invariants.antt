use Rattle.std.proofs.Common.{◌≡◌, ◌++◌, map, Ok}
use Rattle.node_walk.specs.Rules.{FragmentEvent, fragments}
use Rattle.receiver_rules.specs.Receivers.{Receives}
use Rattle.node_walk.proofs.segs.visit_seg.Given as goal

abbrev pub invariant-loop-p : goal.invariant-loop-p
invariant-loop-p g l = record {
  items : l.yielded ++ l.p-iterator ≡ fragments l.fn.cover l.x1 l.last;
  visits : Receives g.V.Visitor.takes g.V.Visitor.stands g.V.Visitor.stopped l.fn.visitor l.visitor
      (map (λ r. FragmentEvent l.n r.0 r.1) l.yielded) (Ok tt);
}
