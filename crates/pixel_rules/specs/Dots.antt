-- Dots put on the cells of a frame, in order.
use Rattle.std.specs.Prelude.{◌≡◌, ℕ, ◌+◌, ◌*◌, ◌<◌, ◌==◌, ◌&&◌, cond, Bool, List, [], ◌∷◌, Option, Some, None, set, refl}
use Rattle.std.specs.List.{AllByRecursion}
use Rattle.view_rules.specs.declared.TheConstants.{FRAME_WIDTH, FRAME_HEIGHT}
use Rattle.pixel_rules.specs.declared.Painter.{Painter}

-- a written pixel of a view: column, row, colour, and who writes it
pub record Dot : Type 0 where
  pub x : ℕ
  pub y : ℕ
  pub colour : ℕ
  pub painter : Painter

-- the cell of column x, row y of a view that stands in the frame at left, top (R_InitBuffer, r_draw.c)
unfoldable pub cell_of : ℕ → ℕ → ℕ → ℕ → ℕ
cell_of left top x y = FRAME_WIDTH * (y + top) + (x + left)

-- the cells after the dots, where a canvas marks a cell by the painter and the colour
unfoldable pub put_dots : (Painter → ℕ → ℕ) → ℕ → ℕ → List Dot → List ℕ → List ℕ
put_dots mark left top [] cells = cells
put_dots mark left top (d ∷ ds) cells = put_dots mark left top ds (set cells (cell_of left top d.x d.y) (mark d.painter d.colour))

-- the dot is at column x, row y
unfoldable pub is_at : ℕ → ℕ → Dot → Bool
is_at x y d = d.x == x && d.y == y

-- the last dot at x, y, or else the one before them
unfoldable pub last_dot_from : Option Dot → ℕ → ℕ → List Dot → Option Dot
last_dot_from before x y [] = before
last_dot_from before x y (d ∷ ds) = last_dot_from (cond (is_at x y d) (Some d) before) x y ds

unfoldable pub last_dot : ℕ → ℕ → List Dot → Option Dot
last_dot x y ds = last_dot_from None x y ds

unfoldable pub colour_of : Option Dot → ℕ
colour_of None = 0
colour_of (Some d) = d.colour

-- the colour of pixel x, y after the dots, 0 where none is there
unfoldable pub colour_at : List Dot → ℕ → ℕ → ℕ
colour_at ds x y = colour_of (last_dot x y ds)

-- the mark of a dot, or what the cell had before
unfoldable pub mark_or : (Painter → ℕ → ℕ) → ℕ → Option Dot → ℕ
mark_or mark before None = before
mark_or mark before (Some d) = mark d.painter d.colour

-- the dots lie in the frame, where the view stands at left, top
abbrev pub AreInFrame : ℕ → ℕ → List Dot → Type 0
AreInFrame left top ds = AllByRecursion (λ d. (d.x + left < FRAME_WIDTH) × (d.y + top < FRAME_HEIGHT)) ds

-- each dot is in column x, or in row y
abbrev pub AreInColumn : ℕ → List Dot → Type 0
AreInColumn x ds = AllByRecursion (λ d. d.x ≡ x) ds

abbrev pub AreInRow : ℕ → List Dot → Type 0
AreInRow y ds = AllByRecursion (λ d. d.y ≡ y) ds

-- of two dots at one pixel the later one stays
pub last_colour_row : (p : Painter) → colour_at (record { x = 3; y = 1; colour = 7; painter = p } ∷ record { x = 3; y = 1; colour = 9; painter = p } ∷ record { x = 4; y = 1; colour = 5; painter = p } ∷ []) 3 1 ≡ 9
unfolding colour_at colour_of last_dot last_dot_from is_at
last_colour_row p = refl
