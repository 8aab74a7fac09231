use Rattle.std.proofs.Common.{arith}
use Rattle.texture_lists.proofs.PartLemmas.{wrong_found}
use Rattle.texture_lists.proofs.lists.wrong_record.Goals as goal

pub returns-then-is_wrong : goal.returns-then-is_wrong
returns-then-is_wrong c =
    wrong_found c.args.bytes.now c.loop-i.i c.texture_place.result c.list_count-i-end.result c.is_wrong.result c.list_count-i-end.ensures (omega arith)
    c.texture_place.ensures.place c.is_wrong.ensures c.if-is_wrong.true c.loop-i.invariant
