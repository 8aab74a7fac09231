-- A canvas, and what dots make of it.
use Rattle.std.specs.Prelude.{◌≡◌, ℕ, zero, suc, ◌+◌, ◌*◌, List, [], ◌∷◌, set, replicate, refl}
use Rattle.pixel_strips.specs.Rules.{Dot, FRAME_CELLS, Painter, cell_of, put_dots}

-- the cells of a frame, row by row, who paints, and where the view stands in the frame
pub record CanvasView : Type 0 where
  pub cells : List ℕ
  pub painter : Painter
  pub left : ℕ
  pub top : ℕ

abbrev pub with_painter : Painter → CanvasView → CanvasView
with_painter painter canvas = record canvas { painter = painter }

abbrev pub placed_at : ℕ → ℕ → CanvasView → CanvasView
placed_at left top canvas = record canvas { left = left; top = top }

-- with one pixel of the view set to the mark of the painter and a colour
abbrev pub with_dot : (Painter → ℕ → ℕ) → ℕ → ℕ → ℕ → CanvasView → CanvasView
with_dot mark x y colour canvas =
    record canvas { cells = set canvas.cells (cell_of canvas.left canvas.top x y) (mark canvas.painter colour) }

-- with dots put on it, in order
abbrev pub with_dots : (Painter → ℕ → ℕ) → List Dot → CanvasView → CanvasView
with_dots mark dots canvas = record canvas { cells = put_dots mark canvas.left canvas.top dots canvas.cells }

-- the mark of a frame of palette indices: the colour itself
abbrev pub marked_by_colour : Painter → ℕ → ℕ
marked_by_colour painter colour = colour

-- the cells of a list after n of them are set, the k-th of these, from 0, at `place k` to `value k`
unfoldable pub fill_cells : (ℕ → ℕ) → (ℕ → ℕ) → ℕ → List ℕ → List ℕ
fill_cells place value zero cells = cells
fill_cells place value (suc n) cells = set (fill_cells place value n cells) (place n) (value n)

-- every second of five cells
pub fill_cells_row : fill_cells (λ k. 2 * k) (λ k. 7 + k) 3 (0 ∷ 1 ∷ 2 ∷ 3 ∷ 4 ∷ []) ≡ 7 ∷ 1 ∷ 8 ∷ 3 ∷ 9 ∷ []
unfolding fill_cells
fill_cells_row = refl

-- a frame of which nothing is painted
unfoldable pub blank : CanvasView
blank = record {
  cells = replicate FRAME_CELLS 0;
  painter = record { kind = 0; number = 0; source_kind = 0; source = 0 };
  left = 0;
  top = 0;
}
