use Rattle.art_rules.proofs.Common.{arith, refl, slice_get_read}
use Rattle.texture_lists.proofs.IndexLemmas.{name_more}
use Rattle.texture_lists.proofs.index.index_textures.Goals as goal

pub loop-i-preserved : goal.loop-i-preserved
loop-i-preserved c = λ name.
    name_more c.args.textures.now c.loop-i.i c.index-textures-i.result c.name.result name _ _
    (slice_get_read c.args.textures.now _ c.loop-i.i c.index-textures-i.result refl (omega arith) c.index-textures-i.is)
    c.name.ensures (c.in_ok-put_new.ensures name) (c.loop-i.invariant name)
