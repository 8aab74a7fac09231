use Rattle.std.proofs.Common.{rules, arith, sym}
use Rattle.word_rules.proofs.LeastLemmas.{least-some, least-none}
use Rattle.angle_tables.specs.Rules.{TANGENTS, first_seen_by, focal_length, is_seen_by}
use Rattle.angle_tables.proofs.columns.first_seen_by.Goals as goal

-- the first that is seen, and none before it
pub returns-then-is_seen_by-clause-value : goal.returns-then-is_seen_by-clause-value
unfolding first_seen_by
returns-then-is_seen_by-clause-value c =
    sym (least-some (is_seen_by c.args.t.now c.args.shape (focal_length c.args.t.now c.args.shape) c.args.x) TANGENTS c.loop-i.i c.loop-i-test.true (search (rules, c.focal_length-focal.ensures)) c.loop-i.invariant)

-- none is seen
pub returns-clause-value : goal.returns-clause-value
unfolding first_seen_by
returns-clause-value c =
    sym (least-none (is_seen_by c.args.t.now c.args.shape (focal_length c.args.t.now c.args.shape) c.args.x) TANGENTS (λ k l. c.loop-i.invariant k (omega arith)))
