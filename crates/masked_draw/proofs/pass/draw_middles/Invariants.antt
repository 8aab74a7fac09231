-- The fragments from k on are done.
use Rattle.std.proofs.Common.{◌≡◌, length, List}
use Rattle.receiver_rules.specs.Receivers.{StillTakes}
use Rattle.picture_rules.specs.declared.sprite.SpriteEntry.{SpriteEntry}
use Rattle.masked_draw.specs.{Marks.MarkedTo, Scenes.scene_drawseg}
use Rattle.masked_draw.proofs.LoopLemmas.{LeavesMiddles}
use Rattle.masked_draw.proofs.pass.draw_middles.Given as goal

abbrev pub invariant-loop-k : goal.invariant-loop-k
invariant-loop-k g l = record {
  room : length l.marks ≡ length l.initial.marks;
  takes_on : StillTakes g.B.Brush.takes l.initial.brush l.brush;
  leaves : (es : List SpriteEntry) → MarkedTo (scene_drawseg l.scene) l.notes es (length l.notes) (λ k. length es) l.initial.marks →
      LeavesMiddles g.B.Brush.takes g.B.Brush.stands g.B.Brush.stopped l.scene l.notes es l.k l.marks l.initial.brush l.brush;
}
