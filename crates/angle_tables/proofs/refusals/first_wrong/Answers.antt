use Rattle.std.proofs.Common.{rules, arith, sym}
use Rattle.word_rules.proofs.LeastLemmas.{least-some, least-none}
use Rattle.angle_tables.specs.Lists.{is_wrong_in, length_in}
use Rattle.angle_tables.proofs.refusals.first_wrong.Goals as goal

-- the first that is wrong, and none before it
pub returns-then-is_wrong : goal.returns-then-is_wrong
returns-then-is_wrong c =
    sym (least-some (is_wrong_in c.args.t.now c.args.list) (length_in c.args.list) c.loop-i.i (search rules) (search rules) c.loop-i.invariant)

-- none is wrong
pub returns : goal.returns
returns c =
    sym (least-none (is_wrong_in c.args.t.now c.args.list) (length_in c.args.list) (λ k l. c.loop-i.invariant k (omega arith)))
