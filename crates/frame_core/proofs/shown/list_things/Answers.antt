use Rattle.picture_rules.proofs.Common.{List, ℤ, pos, w16, rules, sym, ap, ◌∙◌, to_z-of_z}
use Rattle.picture_rules.specs.Words.{light_number, PlacedThing, Surface}
use Rattle.sound_scene.specs.Pictures.{scene_of}
use Rattle.frame_core.specs.ViewLists.{with_sprites}
use Rattle.frame_core.proofs.ShownLemmas.{sprites_end, sprites_more}
use Rattle.frame_core.proofs.shown.list_things.Goals as goal

pub loop-thing-preserved : goal.loop-thing-preserved
loop-thing-preserved c =
    let light_is = to_z-of_z w16 c.surface_at.result.light (search rules) ∙ ap (λ (s : Surface). s.light) c.surface_at.ensures in
    let light_value_is = c.light_number-light.ensures.value ∙ ap (λ (light : ℤ). light_number c.args.view.now light (pos 0)) light_is in
    λ bytes.
    sprites_more c.args.view.now (scene_of bytes c.args.scene.now.scene) c.args.sector _ _ _ c.things_of-things.result.now c.loop-thing.thing-index _ c.loop-thing-test.true
    (c.thing_sprite-sprite.ensures bytes c.args.sector light_value_is) c.add_sprite.ensures
    ∙ c.loop-thing.invariant bytes

pub returns : goal.returns
returns c = λ bytes.
    let scene = scene_of bytes c.args.scene.now.scene in
    sym (sprites_end c.args.view.now scene c.args.sector _ c.things_of-things.result.now c.loop-thing.thing-index c.loop-thing-test.false)
    ∙ c.loop-thing.invariant bytes ∙ ap (λ (things : List PlacedThing). with_sprites c.args.view.now scene c.args.sector c.args.list.now things) c.things_of-things.ensures
