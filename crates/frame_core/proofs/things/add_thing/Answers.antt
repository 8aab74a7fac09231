use Rattle.sound_scene.specs.Pictures.{scene_of}
use Rattle.frame_core.proofs.ThingLemmas.{placed_with, thing_with, thing_without}
use Rattle.frame_core.proofs.things.add_thing.Goals as goal

pub returns-in-Some-clause-sprites : goal.returns-in-Some-clause-sprites
returns-in-Some-clause-sprites c = λ bytes sector lit.
    let placed = placed_with bytes _ c.args.scene.now.scene sector c.args.light c.args.thing.now _ c.placed_of-placed.ensures lit in
    thing_with _ (scene_of bytes c.args.scene.now.scene) sector _ _ c.args.thing.now _ _ placed c.in-Some.ensures.value (c.add_seen.ensures.sprites bytes)

pub returns-in-None-clause-sprites : goal.returns-in-None-clause-sprites
returns-in-None-clause-sprites c = λ bytes sector lit.
    let placed = placed_with bytes _ c.args.scene.now.scene sector c.args.light c.args.thing.now _ c.placed_of-placed.ensures lit in
    thing_without _ (scene_of bytes c.args.scene.now.scene) sector _ c.args.thing.now _ placed c.in-None.ensures.value
