use Rattle.std.proofs.Common.{ap}
use Rattle.art_rules.specs.Words.{last_of, prepared_textures}
use Rattle.lump_cache.proofs.CallLemmas.{reads_more, reads_nothing, reads_stop_first}
use Rattle.texture_build.specs.Views.{TexturesView, is_wanted}
use Rattle.texture_build.proofs.PrepareLemmas.{tells_lists}
use Rattle.texture_build.proofs.textures.Textures.prepare.Goals as goal

-- the preparing stops the call
pub returns-in_err-self-inside-clause-tells : goal.returns-in_err-self-inside-clause-tells
returns-in_err-self-inside-clause-tells g c =
    let lists = c.args.self.now.lists in
    let wanted = is_wanted c.args.wanted.now in
    reads_stop_first (λ bytes. prepared_textures (last_of c.args.dir.now.lumps) bytes lists wanted) c.prepare_wanted.result _ c.from_residual.result
    (tells_lists c.self.inside.lists lists wanted c.prepare_wanted.result (ap (λ (t : TexturesView). t.lists) c.self.view_is) c.prepare_wanted.ensures.tells)
    c.in_err-self-inside.was c.from_residual.ensures.1 (λ lump w. w) (λ bytes refusal is. is)

pub returns-clause-tells : goal.returns-clause-tells
returns-clause-tells g c =
    let lists = c.args.self.now.lists in
    let wanted = is_wanted c.args.wanted.now in
    reads_more (λ bytes. prepared_textures (last_of c.args.dir.now.lumps) bytes lists wanted) c.in_ok-self-inside.field-0 tt
    (reads_nothing (g.S.Shelf.view c.args.shelf.now) c.args.dir.now c.args.cache.now _) c.prepare_wanted.result
    (tells_lists c.self.inside.lists lists wanted c.prepare_wanted.result (ap (λ (t : TexturesView). t.lists) c.self.view_is) c.prepare_wanted.ensures.tells)
    c.in_ok-self-inside.was (λ lump w. w) (λ bytes one two. two)
