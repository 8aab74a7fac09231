-- The columns below x were asked for and marked, where they were not.
use Rattle.picture_rules.proofs.Common.{Ok, length, ◌≡◌}
use Rattle.receiver_rules.specs.Receivers.{Receives}
use Rattle.masked_draw.specs.Marks.{MarksBy, unmarked_strips}
use Rattle.masked_draw.specs.Scenes.{scene_drawseg}
use Rattle.masked_draw.proofs.{MarkLemmas.between}
use Rattle.masked_draw.proofs.middles.paint_middle.Given as goal

abbrev pub invariant-loop-x : goal.invariant-loop-x
invariant-loop-x g l = record {
  room : length l.marks ≡ length l.initial.marks;
  marked : MarksBy l.note (between l.first l.x) l.initial.marks l.marks;
  asks : Receives g.B.Brush.takes g.B.Brush.stands g.B.Brush.stopped l.initial.brush l.brush
      (unmarked_strips l.scene.view.now l.initial.marks l.note (between l.first l.x) l.number (scene_drawseg l.scene l.note)) (Ok tt);
}
