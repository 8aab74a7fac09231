use Rattle.picture_rules.proofs.Common.{max, slice_index, ◌-◌, ◌≡◌, ◌≤◌}
use Rattle.pixel_strips.specs.Canvases.{with_dots}
use Rattle.visplanes.specs.Spans.{closed_rows}
use Rattle.visplanes.proofs.draw.paint_spans.Given as goal

-- the spans of the rows above y are painted
abbrev pub invariant-loop-y : goal.invariant-loop-y
invariant-loop-y g l = record {
  from : l.fn.rows.begin ≤ l.y;
  idle : l.y ≤ max l.fn.rows.begin l.fn.rows.end;
  painted : g.C.Canvas.view l.canvas ≡ with_dots g.C.Canvas.mark
      (closed_rows l.floor (g.C.Canvas.view l.fn.canvas).painter (slice_index l.starts) l.x l.fn.rows.begin (l.y - l.fn.rows.begin)) (g.C.Canvas.view l.fn.canvas);
}
