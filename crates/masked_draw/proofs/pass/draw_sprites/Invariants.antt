-- The sprites that the loop came to were asked for.
use Rattle.picture_rules.proofs.Common.{length, Ok, ◌≡◌}
use Rattle.receiver_rules.specs.Receivers.{Receives}
use Rattle.receiver_rules.proofs.FirstLemmas.{first_lists}
use Rattle.picture_rules.specs.Words.{draw_order}
use Rattle.masked_draw.specs.{Marks.MarkedTo, Scenes.scene_drawseg, Scenes.scene_drawsegs}
use Rattle.masked_draw.proofs.PassLemmas.{turn_strips}
use Rattle.masked_draw.proofs.pass.draw_sprites.Given as goal

abbrev pub invariant-loop-entry : goal.invariant-loop-entry
invariant-loop-entry g l = record {
  room : length l.marks ≡ length l.initial.marks;
  marked : MarkedTo (scene_drawseg l.scene) l.notes (draw_order l.sprites) (length l.notes) (λ k. length l.yielded) l.marks;
  asks : Receives g.B.Brush.takes g.B.Brush.stands g.B.Brush.stopped l.initial.brush l.brush
      (first_lists (turn_strips l.scene.view.now (scene_drawsegs l.scene l.notes) (draw_order l.sprites)) (length l.yielded)) (Ok tt);
}
