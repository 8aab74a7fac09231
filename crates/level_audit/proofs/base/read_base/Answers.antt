use Rattle.art_rules.proofs.Common.{ap, IfOk-weaker, inl, inr, Ok, refl, sym, ◌∙◌}
use Rattle.level_audit.specs.Rules.{Art, Refused, base_in}
use Rattle.texture_build.proofs.CallLemmas.{reads_refused, reads_then}
use Rattle.texture_build.proofs.SizeLemmas.{either_beside}
use Rattle.level_audit.proofs.BaseLemmas.{base-stop, base-more, playpal_beside}
use Rattle.level_audit.proofs.base.read_base.Goals as goal

pub returns-in-Err-clause-tells : goal.returns-in-Err-clause-tells
returns-in-Err-clause-tells g c =
    let lumps = c.args.dir.now.lumps in
    let name = c.args.name.now in
    let refusal = c.in-Err.refusal in
    reads_refused (g.S.Shelf.view c.args.shelf.now) c.args.dir.now c.args.cache.now (Refused (Art refusal)) (Art refusal) refl
    (λ contents held. base-stop _ lumps name c.args.colormap.0 c.requires.colormap refusal c.in-Err.ensures.lump)

pub returns-clause-tells : goal.returns-clause-tells
returns-clause-tells g c =
    let lumps = c.args.dir.now.lumps in
    let name = c.args.name.now in
    let playpal = c.in-Ok.playpal.0 in
    reads_then (λ bytes. base_in bytes lumps name) c.read_map.result c.in_ok-palette.ensures.tells c.read_map.ensures.tells
    (λ lump is. inl (c.in-Ok.ensures.lump ∙ ap Ok (sym is))) (λ lump asked. inr asked)
    (λ bytes is. base-more bytes lumps name c.args.colormap.0 c.requires.colormap playpal c.in_ok-palette.palette.items c.in-Ok.ensures.lump cc)

pub returns-clause-fits : goal.returns-clause-fits
returns-clause-fits g c =
    IfOk-weaker c.read_map.result _ _ (λ base beside. either_beside c.in_ok-palette.ensures.tells.keeps
    (playpal_beside c.args.dir.now.lumps c.args.cache.now c.in-Ok.playpal.0 c.in-Ok.ensures.lump c.in_ok-palette.ensures.fits) beside)
    c.read_map.ensures.fits
