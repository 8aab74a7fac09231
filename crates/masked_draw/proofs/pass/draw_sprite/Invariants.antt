-- The fragments from k on are done.
use Rattle.picture_rules.proofs.Common.{length, List, slice_get, Some, ℕ, ◌<◌, ◌≡◌}
use Rattle.receiver_rules.specs.Receivers.{StillTakes}
use Rattle.picture_rules.specs.declared.sprite.SpriteEntry.{SpriteEntry}
use Rattle.masked_draw.specs.{Marks.MarkedTo, Scenes.scene_drawseg}
use Rattle.masked_draw.proofs.{LoopLemmas.ClipsFrom, LoopLemmas.PassesMiddles}
use Rattle.masked_draw.proofs.pass.draw_sprite.Given as goal

abbrev pub invariant-loop-k : goal.invariant-loop-k
invariant-loop-k g l = record {
  room : length l.marks ≡ length l.initial.marks;
  takes_on : StillTakes g.B.Brush.takes l.initial.brush l.brush;
  clips : ClipsFrom l.scene l.notes l.entry l.k l.clips;
  passes : (es : List SpriteEntry) (i : ℕ) → i < length es → slice_get es i ≡ Some l.entry →
      MarkedTo (scene_drawseg l.scene) l.notes es (length l.notes) (λ k. i) l.initial.marks →
      PassesMiddles g.B.Brush.takes g.B.Brush.stands g.B.Brush.stopped l.scene l.notes es i l.k l.marks l.initial.brush l.brush;
}
