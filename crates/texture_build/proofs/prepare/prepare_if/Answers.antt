use Rattle.std.proofs.Common.{Some, None}
use Rattle.art_rules.specs.Words.{last_of, prepared, prepared_if, texture_at}
use Rattle.lump_cache.proofs.CallLemmas.{reads_known, reads_more, reads_nothing, reads_stop_first}
use Rattle.texture_build.proofs.PrepareLemmas.{if_made, if_refused, if_unwanted}
use Rattle.texture_build.proofs.prepare.prepare_if.Goals as goal

pub returns-in_err-prepare_texture-clause-tells : goal.returns-in_err-prepare_texture-clause-tells
returns-in_err-prepare_texture-clause-tells g c =
    reads_stop_first (λ bytes. prepared_if c.args.wanted (prepared (last_of c.args.dir.now.lumps) bytes c.args.lists.now.names c.args.tex.0 (texture_at c.args.lists.now.textures c.args.tex.0)))
    c.prepare_texture.result c.in_err-prepare_texture.field-0.0 c.from_residual.result c.prepare_texture.ensures.tells c.in_err-prepare_texture.was c.from_residual.ensures.1
    (λ lump w. (c.if-wanted.true, w)) (λ bytes e stopped. if_refused c.args.wanted _ e c.if-wanted.true stopped)

pub returns-in_ok-prepare_texture-clause-tells : goal.returns-in_ok-prepare_texture-clause-tells
returns-in_ok-prepare_texture-clause-tells g c =
    reads_more (λ bytes. prepared_if c.args.wanted (prepared (last_of c.args.dir.now.lumps) bytes c.args.lists.now.names c.args.tex.0 (texture_at c.args.lists.now.textures c.args.tex.0)))
    c.in_ok-prepare_texture.field-0 (Some c.in_ok-prepare_texture.field-0) (reads_nothing (g.S.Shelf.view c.args.shelf.now) c.args.dir.now c.args.cache.now _)
    c.prepare_texture.result c.prepare_texture.ensures.tells c.in_ok-prepare_texture.was
    (λ lump w. (c.if-wanted.true, w)) (λ bytes one two. if_made c.args.wanted _ c.in_ok-prepare_texture.field-0 c.if-wanted.true two)

pub returns-else-wanted-clause-tells : goal.returns-else-wanted-clause-tells
returns-else-wanted-clause-tells g c =
    reads_known (g.S.Shelf.view c.args.shelf.now) c.args.dir.now c.args.cache.now None (λ contents told. if_unwanted c.args.wanted _ c.if-wanted.false)
