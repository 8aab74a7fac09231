use Rattle.sound_scene.specs.Pictures.{scene_of}
use Rattle.frame_core.proofs.ShownLemmas.{thing_listed, thing_unlisted}
use Rattle.frame_core.proofs.ThingLemmas.{placed_with}
use Rattle.frame_core.proofs.shown.thing_sprite.Goals as goal

pub returns-in-Some : goal.returns-in-Some
returns-in-Some c = λ bytes sector lit.
    let placed = placed_with bytes _ c.args.scene.now.scene sector c.args.light c.args.thing.now _ c.placed_of-placed.ensures lit in
    thing_listed _ (scene_of bytes c.args.scene.now.scene) sector c.args.thing.now _ _ _ placed c.in-Some.ensures.value (c.seen_sprite.ensures bytes)

pub returns-in-None : goal.returns-in-None
returns-in-None c = λ bytes sector lit.
    let placed = placed_with bytes _ c.args.scene.now.scene sector c.args.light c.args.thing.now _ c.placed_of-placed.ensures lit in
    thing_unlisted _ (scene_of bytes c.args.scene.now.scene) sector c.args.thing.now _ placed c.in-None.ensures.value
