use Rattle.word_rules.proofs.Common.{arith, refl, slice_get_read}
use Rattle.wad_dir.proofs.IndexLemmas.{name_indexed}
use Rattle.wad_dir.proofs.index.index_of.Goals as goal

pub loop-i-preserved : goal.loop-i-preserved
loop-i-preserved c = λ name.
    name_indexed c.args.marked.now c.args.lumps.now c.loop-i.i c.index-lumps-i.result c.bytes.result name c.loop-i.index c.insert.new.self
    (slice_get_read c.args.lumps.now _ c.loop-i.i c.index-lumps-i.result refl (omega arith) c.index-lumps-i.is)
    c.if-not-marked-i.false c.bytes.ensures c.in_ok-insert.ensures.updates (c.loop-i.invariant name)
