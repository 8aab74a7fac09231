use Rattle.std.proofs.Common.{ℕ, Ok, ap, inl, inr}
use Rattle.level_audit.specs.Rules.{LevelValue, and_then, base_over}
use Rattle.texture_build.proofs.CallLemmas.{reads_as, reads_stop_first, reads_then}
use Rattle.texture_build.proofs.SizeLemmas.{either_beside}
use Rattle.sound_scene.specs.declared.parts.ReadBase.{ReadBase}
use Rattle.level_audit.proofs.BaseLemmas.{base_over-stop, base_over-more, map_beside, then_lists, with_colours}
use Rattle.level_audit.proofs.base.read_map.Goals as goal

pub returns-in_err-label-clause-tells : goal.returns-in_err-label-clause-tells
returns-in_err-label-clause-tells g c =
    let lumps = c.args.dir.now.lumps in
    let name = c.args.name.now in
    let colours = c.args.colours in
    reads_stop_first (λ bytes. base_over bytes lumps name colours.colormap.0 colours.playpal.0 colours.palette.items) c.read_labelled.result c.in_err-label.field-0.0 c.from_residual.result
    c.read_labelled.ensures.tells c.in_err-label.was c.from_residual.ensures.1
    (λ lump asked. inl asked) (λ bytes refusal. base_over-stop bytes lumps name colours.colormap.0 colours.playpal.0 colours.palette.items refusal)

pub returns-in_err-textures-clause-tells : goal.returns-in_err-textures-clause-tells
returns-in_err-textures-clause-tells g c =
    let lumps = c.args.dir.now.lumps in
    let name = c.args.name.now in
    let colours = c.args.colours in
    let map : ℕ × LevelValue = (c.in_ok-label.label.0, c.in_ok-label.level) in
    reads_then (λ bytes. base_over bytes lumps name colours.colormap.0 colours.playpal.0 colours.palette.items) c.from_residual-in_err-textures.result
    c.in_ok-label.ensures.tells
    (reads_stop_first (λ bytes. then_lists bytes lumps colours.colormap.0 colours.playpal.0 colours.palette.items map) c.load_lists.result c.in_err-textures.field-0.0 c.from_residual-in_err-textures.result
    c.load_lists.ensures.tells c.in_err-textures.was c.from_residual-in_err-textures.ensures.1
    (λ lump asked. asked) (λ bytes refusal is. ap (λ lists. and_then lists (λ l. Ok (with_colours colours.colormap.0 colours.playpal.0 colours.palette.items map l))) is))
    (λ lump asked. inl asked) (λ lump asked. inr asked) (λ bytes. base_over-more bytes lumps name colours.colormap.0 colours.playpal.0 colours.palette.items map)

pub returns-clause-tells : goal.returns-clause-tells
returns-clause-tells g c =
    let lumps = c.args.dir.now.lumps in
    let name = c.args.name.now in
    let colours = c.args.colours in
    let map : ℕ × LevelValue = (c.in_ok-label.label.0, c.in_ok-label.level) in
    let textures = c.in_ok-textures.textures in
    let base : ReadBase = record { colormap = colours.colormap; playpal = colours.playpal; palette = colours.palette; label = c.in_ok-label.label; level = c.in_ok-label.level; textures = textures } in
    reads_then (λ bytes. base_over bytes lumps name colours.colormap.0 colours.playpal.0 colours.palette.items) (Ok base)
    c.in_ok-label.ensures.tells
    (reads_as textures base c.in_ok-textures.ensures.tells
    (λ lump asked. asked) (λ bytes is. ap (λ lists. and_then lists (λ l. Ok (with_colours colours.colormap.0 colours.playpal.0 colours.palette.items map l))) is))
    (λ lump asked. inl asked) (λ lump asked. inr asked) (λ bytes. base_over-more bytes lumps name colours.colormap.0 colours.playpal.0 colours.palette.items map)

pub returns-clause-fits : goal.returns-clause-fits
returns-clause-fits g c =
    either_beside c.in_ok-label.ensures.tells.keeps
    (map_beside c.args.dir.now.lumps c.args.cache.now c.args.name.now c.in_ok-label.label.0 c.in_ok-label.ensures.label c.in_ok-label.ensures.fits)
    c.in_ok-textures.ensures.fits
