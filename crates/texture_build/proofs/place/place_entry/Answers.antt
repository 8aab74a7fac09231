use Rattle.texture_build.specs.{Rules.MissingPatch, Rules.itself, Asked.patch_lump}
use Rattle.art_rules.proofs.Common.{ap, option_map, Some, sym, ◌∙◌, ◌≡◌}
use Rattle.lump_cache.proofs.CallLemmas.{reads_refused, reads_wider}
use Rattle.texture_build.specs.Parts.{or_missing, step_of}
use Rattle.texture_build.proofs.PlaceLemmas.{entry_lump, entry_missing, entry_none, entry_placed}
use Rattle.texture_build.proofs.place.place_entry.Goals as goal

pub returns-in-Some-clause-tells : goal.returns-in-Some-clause-tells
returns-in-Some-clause-tells g c =
    let lumps = c.args.dir.now.lumps in
    let names = c.args.lists.now.names in
    let lump_is : patch_lump lumps names c.args.entry.now ≡ Some c.in-Some.lump.0 = entry_lump lumps names c.args.entry.now c.patch_lump.result c.in-Some.lump c.patch_lump.ensures.found c.in-Some.is in
    reads_wider c.place_lump.result (λ lump s. lump_is ∙ ap Some (sym s))
    (λ bytes. ap (λ o. or_missing c.args.tex.0 (option_map (step_of bytes c.args.columns.now) o)) (entry_placed bytes lumps names c.args.entry.now c.in-Some.lump.0 lump_is))
    c.place_lump.ensures.tells

pub returns-in-None-clause-tells : goal.returns-in-None-clause-tells
returns-in-None-clause-tells g c =
    let lumps = c.args.dir.now.lumps in
    let names = c.args.lists.now.names in
    reads_refused (g.S.Shelf.view c.args.shelf.now) c.args.dir.now c.args.cache.now c.missing_patch.result (MissingPatch c.args.tex.0) (ap itself c.missing_patch.ensures)
    (λ contents told. entry_missing _ c.args.tex.0 c.args.columns.now lumps names c.args.entry.now (entry_none lumps names c.args.entry.now c.patch_lump.result c.patch_lump.ensures.found c.in-None.is))
