use Rattle.art_rules.proofs.Common.{ap, option_copied, ◌++◌, ◌∙◌}
use Rattle.wad_trim.specs.Rules.{book_lumps, called_lumps, flat_lumps, map_of, map_parts, picture_lumps}
use Rattle.sound_scene.specs.Views.{lump_numbers}
use Rattle.wad_trim.specs.Plans.{trim_art, layer_lumps}
use Rattle.wad_trim.proofs.PartLemmas.{all-there, listed-few, parts-are}
use Rattle.wad_trim.proofs.parts.list_parts.Goals as goal

pub returns : goal.returns
returns c =
    let lumps = c.args.dir.now.lumps in
    let layers = layer_lumps (option_copied c.args.weapons) in
    let art = trim_art c.args.scene.now.scene layers in
    let flats = ap lump_numbers c.deref.ensures.value ∙ c.in_ok-flats.ensures.lumps ∙ ap (flat_lumps lumps) c.flats.ensures in
    let pictures = ap lump_numbers c.deref-2.ensures.value ∙ c.in_ok-pictures.ensures ∙ ap (λ book. picture_lumps lumps (book_lumps book ++ layers)) c.sprites.ensures in
    let called_are = c.in_ok-called.ensures.lumps ∙ ap (λ view. called_lumps lumps view.prepared) c.textures.ensures in
    let parts_are = parts-are lumps art c.args.map.now (lump_numbers c.deref.result.now) (lump_numbers c.deref-2.result.now) (lump_numbers c.deref-3.result.now) (lump_numbers c.deref-4.result.now)
    c.new-parts.result.items c.add_group.new.parts.items c.add_group-2.new.parts.items c.add_map.new.parts.items c.add_called.new.parts.items
    flats pictures (ap lump_numbers c.deref-3.ensures.value ∙ called_are) (ap lump_numbers c.deref-4.ensures.value ∙ called_are)
    c.new-parts.ensures.items c.in_ok-add_group.ensures c.in_ok-add_group-2.ensures
    (c.in_ok-add_map.ensures ∙ ap (λ b. c.add_group-2.new.parts.items ++ map_parts b (map_of lumps c.args.map.now)) c.has_named.ensures) c.in_ok-add_called.ensures in
    record {
      parts = parts_are;
      there = all-there lumps art c.args.map.now c.add_called.new.parts.items parts_are;
      few = listed-few lumps art c.args.map.now c.add_called.new.parts.items parts_are c.in_ok-flats.ensures.few;
    }
