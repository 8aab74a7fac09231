use Rattle.std.proofs.Common.{ap, ◌∙◌, refl, sym, inl, inr, Ok}
use Rattle.texture_lists.specs.Rules.{OutOfMemory, PNAMES, TEXTURE1, TEXTURE2, and_then, named_bytes, texture_lists}
use Rattle.lump_cache.proofs.CallLemmas.{reads_as, reads_same, reads_short, reads_stop_first, reads_then}
use Rattle.lump_cache.proofs.SizeLemmas.{either_beside}
use Rattle.texture_lists.proofs.PartLemmas.{texture_lists-stop, texture_lists-more, then_lists, with_names}
use Rattle.texture_lists.proofs.listed.ListedTextures.load.Goals as goal

pub returns-in_err-names-clause-tells : goal.returns-in_err-names-clause-tells
returns-in_err-names-clause-tells g c =
    let lumps = c.args.dir.now.lumps in
    reads_stop_first (λ bytes. texture_lists (named_bytes bytes lumps PNAMES) (named_bytes bytes lumps TEXTURE1) (named_bytes bytes lumps TEXTURE2)) c.load_names.result _ c.from_residual.result c.load_names.ensures.tells c.in_err-names.was c.from_residual.ensures.1
    (λ lump asked. inl asked) (λ bytes refusal. texture_lists-stop (named_bytes bytes lumps PNAMES) (named_bytes bytes lumps TEXTURE1) (named_bytes bytes lumps TEXTURE2) refusal)

pub returns-in_err-textures-clause-tells : goal.returns-in_err-textures-clause-tells
returns-in_err-textures-clause-tells g c =
    let lumps = c.args.dir.now.lumps in
    let names = c.in_ok-names.names.items in
    reads_then (λ bytes. texture_lists (named_bytes bytes lumps PNAMES) (named_bytes bytes lumps TEXTURE1) (named_bytes bytes lumps TEXTURE2)) c.from_residual-in_err-textures.result c.in_ok-names.ensures.tells
    (reads_stop_first (λ bytes. then_lists (named_bytes bytes lumps TEXTURE1) (named_bytes bytes lumps TEXTURE2) names) c.load_both.result _ c.from_residual-in_err-textures.result c.load_both.ensures.tells c.in_err-textures.was c.from_residual-in_err-textures.ensures.1
    (λ lump asked. asked) (λ bytes refusal is. ap (λ r. and_then r (with_names names)) is))
    (λ lump asked. inl asked) (λ lump asked. inr asked) (λ bytes. texture_lists-more (named_bytes bytes lumps PNAMES) (named_bytes bytes lumps TEXTURE1) (named_bytes bytes lumps TEXTURE2) names)

pub returns-in_err-new-clause-tells : goal.returns-in_err-new-clause-tells
returns-in_err-new-clause-tells g c =
    let lumps = c.args.dir.now.lumps in
    let names = c.in_ok-names.names.items in
    reads_then (λ bytes. texture_lists (named_bytes bytes lumps PNAMES) (named_bytes bytes lumps TEXTURE1) (named_bytes bytes lumps TEXTURE2)) c.from_residual-in_err-new.result c.in_ok-names.ensures.tells
    (reads_same c.from_residual-in_err-new.result OutOfMemory (λ bytes. then_lists (named_bytes bytes lumps TEXTURE1) (named_bytes bytes lumps TEXTURE2) names) c.from_residual-in_err-new.ensures.1
    (reads_short OutOfMemory refl (λ lump asked. asked) c.in_ok-textures.ensures.tells))
    (λ lump asked. inl asked) (λ lump asked. inr asked) (λ bytes. texture_lists-more (named_bytes bytes lumps PNAMES) (named_bytes bytes lumps TEXTURE1) (named_bytes bytes lumps TEXTURE2) names)

pub returns-clause-tells : goal.returns-clause-tells
returns-clause-tells g c =
    let lumps = c.args.dir.now.lumps in
    let names = c.in_ok-names.names.items in
    reads_then (λ bytes. texture_lists (named_bytes bytes lumps PNAMES) (named_bytes bytes lumps TEXTURE1) (named_bytes bytes lumps TEXTURE2)) _ c.in_ok-names.ensures.tells
    (reads_as c.in_ok-textures.textures _ c.in_ok-textures.ensures.tells (λ lump asked. asked) (λ bytes is. ap (λ r. and_then r (with_names names)) is ∙ ap Ok (sym c.in_ok-new.ensures)))
    (λ lump asked. inl asked) (λ lump asked. inr asked) (λ bytes. texture_lists-more (named_bytes bytes lumps PNAMES) (named_bytes bytes lumps TEXTURE1) (named_bytes bytes lumps TEXTURE2) names)

pub returns-clause-fits : goal.returns-clause-fits
returns-clause-fits g c = either_beside c.in_ok-names.ensures.tells.keeps c.in_ok-names.ensures.fits c.in_ok-textures.ensures.fits
