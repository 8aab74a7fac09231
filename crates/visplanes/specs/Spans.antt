-- How a plane's rows are cut into spans: the runs from a column on, the rows that end and begin at a column, and the
-- dots that are painted by then.
use Rattle.std.specs.Prelude.{◌≡◌, ℕ, zero, suc, ◌+◌, ◌-◌, ◌<◌, ◌≤◌, min, max, ◌&&◌, nat_le, nat_lt, ℤ, pos, cond, Bool, true, List, [], ◌++◌, drop, length, Option, Some, None, slice_index}
use Rattle.visplanes.specs.Rules.{AreInFrame, Art, Dot, FRAME_HEIGHT, FRAME_WIDTH, Painter, Plane, PlaneKey, ViewShape, ViewValue, column, distance_map, holds, last_dot, light_number, pixel_place, plane_gaps, row_distance, runs, shade, span_colour, span_dots, span_start}
use Rattle.pixel_strips.specs.Canvases.{CanvasView, with_dots}
use Rattle.visplanes.specs.declared.rows.Rows.{Rows}

-- the maximal runs of columns that hold row y, from column x on
unfoldable pub runs_from : Plane → ℕ → ℕ → List (ℕ × ℕ)
runs_from p y x = runs x (drop x (plane_gaps p y))

-- the rows of a run
abbrev pub rows_of : Option (ℕ × ℕ) → Rows
rows_of None = record { begin = 0; end = 0 }
rows_of (Some r) = record { begin = r.0; end = r.1 + 1 }

unfoldable pub is_in : Rows → ℕ → Bool
is_in rows y = nat_le rows.begin y && nat_lt y rows.end

-- the run of the column before x
unfoldable pub run_before : Plane → ℕ → Option (ℕ × ℕ)
run_before p zero = None
run_before p (suc x) = column p x

-- what the spans of a plane are painted with
pub record FloorView : Type 0 where
  pub view : ViewValue
  pub key : PlaneKey
  pub flat : List ℕ
  pub colormap : List ℕ

abbrev pub floor_view : ViewValue → PlaneKey → List ℕ → List ℕ → FloorView
floor_view view key flat colormap =
    record { view = view; key = key; flat = flat; colormap = colormap }

unfoldable pub distance_at : FloorView → ℕ → ℤ
distance_at f y = row_distance f.view f.key.height y

unfoldable pub light_at : FloorView → ℕ
light_at f = light_number f.view f.key.light (pos 0)

-- the colour of column x of row y in a span that begins at column x0
unfoldable pub pixel_colour : FloorView → ℕ → ℕ → ℕ → ℕ
pixel_colour f y x0 x =
    span_colour f.flat f.colormap (distance_map f.view (light_at f) (distance_at f y))
    (pixel_place f.view (distance_at f y) x0 x)

-- the dots of a span
unfoldable pub row_dots : FloorView → Painter → ℕ → ℕ → ℕ → List Dot
row_dots f painter y first last = span_dots painter y (pixel_colour f y first) first last

-- the spans of n rows, row `from` first, each from its start to the column before x
unfoldable pub closed_rows : FloorView → Painter → (ℕ → ℕ) → ℕ → ℕ → ℕ → List Dot
closed_rows f painter start x from zero = []
closed_rows f painter start x from (suc n) =
    closed_rows f painter start x from n ++ row_dots f painter (from + n) (start (from + n)) (x - 1)

-- the spans that end before column x: those of the rows of the column before that are not among its own
unfoldable pub closed_dots : FloorView → Painter → (ℕ → ℕ) → Rows → Rows → ℕ → List Dot
closed_dots f painter start before now x =
    closed_rows f painter start x before.begin (min before.end now.begin - before.begin)
    ++ closed_rows f painter start x (max before.begin now.end) (before.end - max before.begin now.end)

-- a span that ends before column x may be painted: it has a column, and lies in the view and in the frame
pub record CanPaint (shape : ViewShape) (left top : ℕ) (start x y : ℕ) : Type 0 where
  pub begins : start < x
  pub column : x < shape.width + 1
  pub row : y < shape.height
  pub frame_column : x + left < FRAME_WIDTH + 1
  pub frame_row : y + top < FRAME_HEIGHT

-- the spans that are open in these rows, each from its start on, may be painted to the column before x
abbrev pub AreOpen : FloorView → List ℕ → Rows → ℕ → CanvasView → Type 0
AreOpen f starts rows x canvas = (rows.end ≤ length starts)
    × ((y : ℕ) → rows.begin ≤ y → y < rows.end →
    CanPaint f.view.shape canvas.left canvas.top (slice_index starts y) x y)

-- each pixel of the plane is in the view, and in the frame
pub record IsSeen (shape : ViewShape) (left top : ℕ) (p : Plane) : Type 0 where
  pub column : (x y : ℕ) → holds p y x ≡ true → x < shape.width
  pub row : (x y : ℕ) → holds p y x ≡ true → y < shape.height
  pub frame_column : (x y : ℕ) → holds p y x ≡ true → x + left < FRAME_WIDTH
  pub frame_row : (x y : ℕ) → holds p y x ≡ true → y + top < FRAME_HEIGHT

-- the dot of a plane at column x of row y, in the span that has it
unfoldable pub plane_dot : FloorView → Painter → Plane → ℕ → ℕ → Dot
plane_dot f painter p x y = record { x = x; y = y; colour = pixel_colour f y (span_start (holds p y) x) x; painter = painter }

-- the canvas was given the plane's dots, in each row y those left of column `until y`, each once
pub record HasSpans (mark : Painter → ℕ → ℕ) (f : FloorView) (p : Plane) (until : ℕ → ℕ) (canvas after : CanvasView) : Type 0 where
  pub dots : List Dot
  pub painted : after ≡ with_dots mark dots canvas
  pub in_frame : AreInFrame canvas.left canvas.top dots
  pub pixels : (x y : ℕ) → last_dot x y dots ≡ cond (nat_lt x (until y) && holds p y x) (Some (plane_dot f canvas.painter p x y)) None

-- what the art of a scene gives of a flat's lump and of the colormaps
pub record GivesFlat (art : Art) (lump : ℕ) (flat colormap : List ℕ) : Type 0 where
  pub byte : (place : ℕ) → art.byte lump place ≡ slice_index flat place
  pub shade : (m index : ℕ) → art.shade m index ≡ shade colormap m index
