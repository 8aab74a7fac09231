-- What a brush is asked for at one sprite, and which columns are marked after it.
use Rattle.std.specs.Prelude.{◌+◌, ℕ, List, Bool, Some, Result, OnOk, length}
use Rattle.receiver_rules.specs.Receivers.{Receives}
use Rattle.masked_draw.specs.Rules.{FragmentNote, SpriteEntry}
use Rattle.brush.specs.Strips.{Strip}
use Rattle.masked_draw.specs.{declared.scene.MaskScene.MaskScene, Marks.MarkedTo, Strips.step_strips}
use Rattle.masked_draw.specs.Scenes.{scene_drawseg, scene_drawsegs}

-- it is asked for the masked columns just before sprite i of these, which are marked then, and for the sprite
pub record ShowsSprite {S A E : Type 0} (takes : S → Strip → Type 0) (stands : S → A → List Strip → Type 0)
    (stopped : S → A → List Strip → E → Type 0) (s : MaskScene) (notes : List FragmentNote) (es : List SpriteEntry) (i : ℕ)
    (e : SpriteEntry) (marks : List Bool) (old new : S) (result : Result (Unit {0}) E) : Type 0 where
  pub asks : Receives takes stands stopped old new (step_strips s.view.now (scene_drawsegs s notes) es i (Some e)) result
  pub marked : OnOk result (MarkedTo (scene_drawseg s) notes es (length notes) (λ k. i + 1) marks)
