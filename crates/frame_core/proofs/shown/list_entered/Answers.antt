use Rattle.sound_scene.specs.Pictures.{scene_of}
use Rattle.frame_core.proofs.ShownLemmas.{entered-known, entered-new}
use Rattle.frame_core.proofs.shown.list_entered.Goals as goal

pub returns-then-not-is_known : goal.returns-then-not-is_known
returns-then-not-is_known c = λ bytes. entered-new bytes c.args.view.now c.args.scene.now.scene c.args.is_known c.args.sector _ _ c.if-not-is_known.true (c.list_things.ensures bytes)

pub returns-else-not-is_known : goal.returns-else-not-is_known
returns-else-not-is_known c = λ bytes. entered-known c.args.view.now (scene_of bytes c.args.scene.now.scene) c.args.is_known c.args.sector _ c.if-not-is_known.false
