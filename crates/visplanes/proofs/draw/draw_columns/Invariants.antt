use Rattle.picture_rules.proofs.Common.{slice_index, true, ℕ, ◌≡◌, ◌≤◌}
use Rattle.picture_rules.specs.Words.{FRAME_HEIGHT, holds, span_start}
use Rattle.visplanes.specs.Spans.{is_in, HasSpans}
use Rattle.visplanes.proofs.DrawLemmas.{held_before}
use Rattle.visplanes.proofs.draw.draw_columns.Given as goal

-- the spans that end left of x are painted, and the open ones begin where `starts` has it
abbrev pub invariant-loop-x : goal.invariant-loop-x
invariant-loop-x g l = record {
  spans : HasSpans g.C.Canvas.mark l.floor l.plane (λ y. span_start (holds l.plane y) l.x) (g.C.Canvas.view l.fn.canvas) (g.C.Canvas.view l.canvas);
  starts : (y : ℕ) → is_in l.before y ≡ true → slice_index l.starts y ≡ span_start (holds l.plane y) l.x;
  held : (y : ℕ) → is_in l.before y ≡ held_before l.plane y l.x;
  ordered : l.before.begin ≤ l.before.end;
  within : l.before.end ≤ FRAME_HEIGHT;
}
