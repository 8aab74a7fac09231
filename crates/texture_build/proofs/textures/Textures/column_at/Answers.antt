use Rattle.std.proofs.Common.{ap, ◌∙◌}
use Rattle.texture_build.specs.{Sources.column_view, Views.prepared_at, Views.prepared_texture}
use Rattle.texture_build.proofs.TexelLemmas.{prepared_is, texels_lent}
use Rattle.texture_build.proofs.textures.Textures.column_at.Goals as goal

pub returns-clause-texel : goal.returns-clause-texel
returns-clause-texel c = λ col contents lumps is there faithful composites are.
    let textures = c.args.self.now in
    let texture = prepared_texture textures c.args.tex.0 in
    rw (c.lend_lookup.ensures.column ∙ ap (λ n. column_view n c.args.cache.now c.args.lookup) c.from.ensures ∙ ap (column_view c.args.tex.0 c.args.cache.now) is)
    (texels_lent contents lumps textures c.args.tex.0 texture c.args.cache.now col (prepared_is (prepared_at textures.prepared c.args.tex.0) c.requires.prepared) there faithful composites are)
