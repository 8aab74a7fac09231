use Rattle.std.proofs.Common.{◌∙◌, sym, arith}
use Rattle.wad_dir.proofs.MapLemmas.{named_more, named_not, named_all}
use Rattle.wad_dir.proofs.map.are_named.Goals as goal

pub returns-then-not-is_named_in : goal.returns-then-not-is_named_in
returns-then-not-is_named_in c =
    named_not c.args.lumps.now c.args.file c.args.first c.loop-i.i c.args.names.now _ (omega arith)
    (sym c.is_named_in.ensures ∙ c.if-not-is_named_in.true) c.loop-i.invariant

pub loop-i-preserved : goal.loop-i-preserved
loop-i-preserved c =
    named_more c.args.lumps.now c.args.file c.args.first c.loop-i.i c.args.names.now _ (omega arith)
    (sym c.is_named_in.ensures ∙ c.if-not-is_named_in.false) c.loop-i.invariant

pub returns : goal.returns
returns c = named_all c.args.lumps.now c.args.file c.args.first c.loop-i.i c.args.names.now _ (omega arith) c.loop-i.invariant
