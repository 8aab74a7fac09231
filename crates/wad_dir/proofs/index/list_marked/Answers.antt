use Rattle.std.proofs.Common.{refl}
use Rattle.wad_dir.proofs.MemberLemmas.{not_listed, listed_more}
use Rattle.wad_dir.proofs.index.list_marked.Goals as goal

pub loop-i-preserved-then-not-is_marked : goal.loop-i-preserved-then-not-is_marked
loop-i-preserved-then-not-is_marked c = not_listed c.args.marked.now c.loop-i.i c.loop-i.found.items c.if-not-is_marked.true c.loop-i.invariant

pub loop-i-preserved : goal.loop-i-preserved
loop-i-preserved c = listed_more c.args.marked.now c.loop-i.i c.loop-i.found.items _ (record { 0 = c.loop-i.i }) c.if-not-is_marked.false refl c.in_ok-push.ensures.items c.loop-i.invariant
