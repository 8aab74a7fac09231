-- The frame of a view: each pixel has the colour of the last dot there; and its trace, which names the dot.
use Rattle.std.specs.Prelude.{ℕ, ◌<◌, ◌≤◌, ◌+◌, ◌-◌, ◌/◌, ◌%◌, ◌&&◌, nat_le, nat_lt, Bool, cond, List, map, Option, None}
use Rattle.std.specs.List.{AllByRecursion}
use Rattle.picture_rules.specs.Rules.{Dot, FRAME_CELLS, FRAME_HEIGHT, FRAME_WIDTH, ViewShape, ViewValue, colour_of, last_dot, listed}
use Rattle.picture_rules.specs.{sprite.Weapons.WeaponLayer, Scene.Scene}
use Rattle.picture_rules.specs.Paints.{view_paints, overlaid_paints}

-- column x, row y of the frame are within the view
unfoldable pub is_in_window : ViewShape → ℕ → ℕ → Bool
is_in_window shape x y =
    (nat_le shape.left x && nat_lt x (shape.left + shape.width)) && (nat_le shape.top y && nat_lt y (shape.top + shape.height))

-- the dot that is seen at column x, row y of the frame, none outside the view
unfoldable pub frame_dot : ViewShape → List Dot → ℕ → ℕ → Option Dot
frame_dot shape dots x y = cond (is_in_window shape x y) (last_dot (x - shape.left) (y - shape.top) dots) None

-- the dot that is seen in each cell of the frame, row by row from the top
unfoldable pub frame_dots : ViewShape → List Dot → List (Option Dot)
frame_dots shape dots = listed (λ cell. frame_dot shape dots (cell % FRAME_WIDTH) (cell / FRAME_WIDTH)) FRAME_CELLS

-- the colours of the cells, 0 where nothing is painted
unfoldable pub frame_of : ViewShape → List Dot → List ℕ
frame_of shape dots = map colour_of (frame_dots shape dots)

-- the picture of a view
unfoldable pub picture : ViewValue → Scene → List ℕ
picture v scene = frame_of v.shape (view_paints v scene)

-- the same with the weapons of the view's rows over it
unfoldable pub overlaid_picture : ViewValue → Scene → List WeaponLayer → List ℕ
overlaid_picture v scene layers = frame_of v.shape (overlaid_paints v scene layers)

-- the trace of that picture: for each cell the dot that is seen, with its painter
unfoldable pub overlaid_trace : ViewValue → Scene → List WeaponLayer → List (Option Dot)
overlaid_trace v scene layers = frame_dots v.shape (overlaid_paints v scene layers)

-- the view stands in the frame, and the dots in the view
pub record FitsFrame (shape : ViewShape) : Type 0 where
  pub columns : shape.left + shape.width ≤ FRAME_WIDTH
  pub rows : shape.top + shape.height ≤ FRAME_HEIGHT

abbrev pub AreInView : ViewShape → List Dot → Type 0
AreInView shape dots = AllByRecursion (λ d. (d.x < shape.width) × (d.y < shape.height)) dots
