use Rattle.std.proofs.Common.{◌+◌, ◌-◌, arith, rules}
use Rattle.level_rules.specs.declared.TheConstants.{MAX_DEPTH}
use Rattle.level_rules.proofs.maps.VisitLemmas.{visits_refusal-child_1}
use Rattle.map_lumps.proofs.tree.+visit.Goals as goal

pub returns-in_default-visit-clause-refusal : goal.returns-in_default-visit-clause-refusal
returns-in_default-visit-clause-refusal t c =
    let second_child_refuses = visits_refusal-child_1 c.args.reached.now c.visit.new.reached c.args.nodes.now (MAX_DEPTH + 2 - c.args.depth) (MAX_DEPTH + 2 - (c.args.depth + 1)) c.args.depth c.in-Node.n c.in_ok-node-in-Node.node (omega arith) (search rules) (search rules) (search rules) (search rules) in
    cc
