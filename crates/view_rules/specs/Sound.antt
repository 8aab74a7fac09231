-- What accepted tables keep at every size of a view.
use Rattle.std.specs.Prelude.{◌≡◌, ℕ, ◌+◌, ◌<◌, ◌≤◌}
use Rattle.word_rules.specs.Words.{ang90}
use Rattle.view_rules.specs.declared.TheConstants.{MIN_SIZE, MAX_SIZE, FRAME_WIDTH, FRAME_HEIGHT, TANGENTS}
use Rattle.view_rules.specs.{declared.ViewShape.ViewShape, Angles.Angles, Shape.shape_of_size}
use Rattle.view_rules.specs.Tables.{column_of_angle, clip_angle}

-- the shape is one of the nine
pub record IsShape (shape : ViewShape) : Type 0 where
  pub size : ℕ
  pub least : MIN_SIZE ≤ size
  pub greatest : size ≤ MAX_SIZE
  pub is : shape ≡ shape_of_size size

-- the view lies within the frame, has a pixel, and its centre is in its middle
pub record IsWithinFrame (shape : ViewShape) : Type 0 where
  pub width : shape.left + shape.width ≤ FRAME_WIDTH
  pub height : shape.top + shape.height ≤ FRAME_HEIGHT
  pub columns : 0 < shape.width
  pub rows : 0 < shape.height
  pub centre_x : shape.centre_x + shape.centre_x ≡ shape.width
  pub centre_y : shape.centre_y + shape.centre_y ≡ shape.height

-- fine angles further left are seen further left, and the left edge is less than a quarter turn off
pub record IsSound (t : Angles) (shape : ViewShape) : Type 0 where
  pub shaped : IsShape shape
  pub falling : (i k : ℕ) → i ≤ k → k < TANGENTS → column_of_angle t shape k ≤ column_of_angle t shape i
  pub clip : clip_angle t shape < ang90
