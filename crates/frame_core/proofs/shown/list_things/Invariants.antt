use Rattle.std.proofs.Common.{◌≡◌, ℕ, List, drop}
use Rattle.sound_scene.specs.Pictures.{scene_of}
use Rattle.frame_core.specs.ViewLists.{with_sprites}
use Rattle.frame_core.proofs.shown.list_things.Given as goal

-- what is left of the things gives what all of them give
abbrev pub invariant-loop-thing : goal.invariant-loop-thing
invariant-loop-thing l =
    (bytes : ℕ → List ℕ) → with_sprites l.view (scene_of bytes l.scene.scene) l.sector l.list (drop l.thing-index l.things) ≡ with_sprites l.view (scene_of bytes l.scene.scene) l.sector l.fn.list l.things
