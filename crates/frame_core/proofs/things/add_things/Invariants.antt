use Rattle.picture_rules.proofs.Common.{All, AllPass, drop, List, ℕ, ◌<◌, ◌≡◌}
use Rattle.frame_core.specs.Rules.{book_lumps, with_things}
use Rattle.vissprites.specs.Bounds.{lies_within, has_lump_below}
use Rattle.sound_scene.specs.Pictures.{scene_of}
use Rattle.frame_core.proofs.things.add_things.Given as goal

-- what is left of the things gives what all of them give
abbrev pub invariant-loop-thing : goal.invariant-loop-thing
invariant-loop-thing l = record {
  sprites : (bytes : ℕ → List ℕ) →
      with_things l.view (scene_of bytes l.scene.scene) l.sector l.sprites (drop l.thing-index l.things) ≡ with_things l.view (scene_of bytes l.scene.scene) l.sector l.fn.sprites l.things;
  columns : AllPass (lies_within l.view.shape.width) l.fn.sprites → AllPass (lies_within l.view.shape.width) l.sprites;
  lumps : (n : ℕ) → All (λ lump. lump < n) (book_lumps l.scene.scene.book) → AllPass (has_lump_below n) l.fn.sprites → AllPass (has_lump_below n) l.sprites;
}
