-- Where a view stands in a frame.
use Rattle.std.specs.Prelude.{◌+◌, ◌≤◌}
use Rattle.pixel_strips.specs.Rules.{FRAME_HEIGHT, FRAME_WIDTH, ViewShape}
use Rattle.pixel_strips.specs.Canvases.{CanvasView}

-- a view of that shape lies in the frame where the canvas has it
pub record StandsInFrame (shape : ViewShape) (canvas : CanvasView) : Type 0 where
  pub columns : canvas.left + shape.width ≤ FRAME_WIDTH
  pub rows : canvas.top + shape.height ≤ FRAME_HEIGHT
