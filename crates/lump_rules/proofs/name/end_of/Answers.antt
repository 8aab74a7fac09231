use Rattle.word_rules.proofs.Common.{arith, eq-eqb, position_or_len_is, sym, ◌==◌}
use Rattle.lump_rules.proofs.name.end_of.Goals as goal

pub returns-then-byte-eq0-clause-end : goal.returns-then-byte-eq0-clause-end
returns-then-byte-eq0-clause-end c =
    sym (position_or_len_is (λ byte. byte == 0) c.args.bytes.now c.loop-i.i 0 (omega arith) c.loop-i.invariant (λ lt. eq-eqb _ _ c.if-byte-eq0.true))

pub returns-clause-end : goal.returns-clause-end
returns-clause-end c =
    sym (position_or_len_is (λ byte. byte == 0) c.args.bytes.now _ 0 (omega arith) (λ k h. c.loop-i.invariant k (omega arith)) (λ lt. absurd (omega arith)))
