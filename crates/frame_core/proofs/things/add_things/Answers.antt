use Rattle.picture_rules.proofs.Common.{List, ℤ, pos, w16, rules, sym, ap, ◌∙◌, to_z-of_z}
use Rattle.picture_rules.specs.Words.{light_number, PlacedThing, Surface, with_things}
use Rattle.sound_scene.specs.Pictures.{scene_of}
use Rattle.frame_core.proofs.ThingLemmas.{things_end, things_more}
use Rattle.frame_core.proofs.things.add_things.Goals as goal

pub loop-thing-preserved : goal.loop-thing-preserved
loop-thing-preserved c =
    let light_is = to_z-of_z w16 c.surface_at.result.light (search rules) ∙ ap (λ (s : Surface). s.light) c.surface_at.ensures in
    let light_value_is = c.light_number-light.ensures.value ∙ ap (λ (light : ℤ). light_number c.args.view.now light (pos 0)) light_is in
    record {
      sprites = λ bytes.
          things_more c.args.view.now (scene_of bytes c.args.scene.now.scene) c.args.sector _ _ c.things_of-things.result.now c.loop-thing.thing-index _ c.loop-thing-test.true
          (c.add_thing.ensures.sprites bytes c.args.sector light_value_is)
          ∙ c.loop-thing.invariant.sprites bytes;
      columns = λ passes. c.add_thing.ensures.columns (c.loop-thing.invariant.columns passes);
      lumps = λ n below passes. c.add_thing.ensures.lumps n below (c.loop-thing.invariant.lumps n below passes);
    }

pub returns-clause-sprites : goal.returns-clause-sprites
returns-clause-sprites c = λ bytes.
    let scene = scene_of bytes c.args.scene.now.scene in
    sym (things_end c.args.view.now scene c.args.sector _ c.things_of-things.result.now c.loop-thing.thing-index c.loop-thing-test.false)
    ∙ c.loop-thing.invariant.sprites bytes ∙ ap (λ (things : List PlacedThing). with_things c.args.view.now scene c.args.sector c.args.sprites.now things) c.things_of-things.ensures
