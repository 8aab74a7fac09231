use Rattle.std.proofs.Common.{◌<◌, ◌+◌, arith, sym, subst}
use Rattle.texture_lists.specs.Rules.{TEXTURE_WIDTH_AT, half_at}
use Rattle.texture_lists.proofs.PartLemmas.{head_within, width_within}
use Rattle.texture_lists.proofs.lists.read_textures.Goals as goal

pub read_texture-requires-clause-head : goal.read_texture-requires-clause-head
read_texture-requires-clause-head c =
    let head_in_bytes = head_within c.args.bytes.now c.loop-i.i c.requires.right (omega arith) in omega arith

pub read_texture-requires-clause-wide : goal.read_texture-requires-clause-wide
read_texture-requires-clause-wide c =
    subst (λ p. 0 < half_at c.args.bytes.now (p + TEXTURE_WIDTH_AT)) (sym c.texture_place.ensures.place) (width_within c.args.bytes.now c.loop-i.i c.requires.right (omega arith))
