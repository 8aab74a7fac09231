-- A canvas that has a plane's spans has the dots of the plane, in whatever order they came.
use Rattle.picture_rules.proofs.Common.{[], and_from, and_right, ap, arith, Bool, cases_lt, cond, false, inl, inr, le-leb, List, lt-ltb, nat_le, nat_lt, None, Option, pos, refl, Some, suc, sym, true, zero, ℕ, ℤ, ◌&&◌, ◌+◌, ◌<◌, ◌∙◌, ◌∷◌, ◌≡◌, ◌≤◌}
use Rattle.visplanes.specs.Rules.{AreInColumn, AreInFrame, Art, Dot, FRAME_WIDTH, Flat4, Lump, PLANE, Painter, Plane, Sky, ViewShape, ViewValue, column, distance_map, flat_colour, floor_colour, floor_dots, holds, holds_row, is_sky_key, joined_lists, last_dot, light_number, listed, lump_source, painter_of, pixel_place, plane_dots, plane_dots_by, row_distance, run_dots, same_flat, shade, span_colour, span_start}
use Rattle.picture_rules.proofs.Laws.{column_dots-none, in_frame-append, in_frame-column_dots, last_dot-no_column, last_dot-none, listed_from-length, listed_from-none, put_dots-same}
use Rattle.picture_rules.proofs.plane.FloorLemmas.{in_column-run_dots, last_dot-floor_dots}
use Rattle.pixel_strips.specs.Canvases.{CanvasView, with_dots}
use Rattle.visplanes.specs.Planes.{flat_lump}
use Rattle.visplanes.specs.Spans.{distance_at, light_at, pixel_colour, plane_dot, IsSeen, HasSpans, GivesFlat}

-- a plane that is not sky has the dots of a floor
by_flat : (v : ViewValue) (art : Art) (sky n : ℕ) (p : Plane) (flat : Flat4) → same_flat flat Sky ≡ false → plane_dots_by v art sky n p flat ≡ floor_dots v art n (flat_lump flat) p
unfolding plane_dots_by same_flat
by_flat v art sky n p Sky e = cc
by_flat v art sky n p (Lump lump) e = refl

pub plane_dots-floor : (v : ViewValue) (art : Art) (sky n : ℕ) (p : Plane) → is_sky_key p.key ≡ false → plane_dots v art sky n p ≡ floor_dots v art n (flat_lump p.key.flat) p
unfolding plane_dots is_sky_key
plane_dots-floor v art sky n p e = by_flat v art sky n p p.key.flat e

-- a floor has no dot right of the view
past_columns : (f : ℕ → List Dot) (x y n : ℕ) → ((c : ℕ) → AreInColumn c (f c)) → n ≤ x → last_dot x y (joined_lists f (listed (λ c. c) n)) ≡ None
unfolding listed joined_lists
past_columns f x y zero a l = last_dot-none x y
past_columns f x y (suc m) a l =
    ap (λ (cs : List ℕ). last_dot x y (joined_lists f cs)) (listed_from-length (λ c. c) 0 m (suc m) (omega arith))
    ∙ last_dot-no_column f x y 0 m a (inr (omega arith))

floor_dots-past : (v : ViewValue) (art : Art) (n lump : ℕ) (p : Plane) (x y : ℕ) → v.shape.width ≤ x → last_dot x y (floor_dots v art n lump p) ≡ None
unfolding floor_dots
floor_dots-past v art n lump p x y l =
    past_columns (λ c. run_dots (painter_of PLANE n (lump_source lump)) c (floor_colour v art lump p c) (column p c)) x y v.shape.width
    (λ c. in_column-run_dots (painter_of PLANE n (lump_source lump)) c (floor_colour v art lump p c) (column p c)) l

-- the dots of a floor are in the frame
frame_columns : (left top : ℕ) (f : ℕ → List Dot) (xs : List ℕ) → ((x : ℕ) → AreInFrame left top (f x)) → AreInFrame left top (joined_lists f xs)
unfolding joined_lists
frame_columns left top f [] h = tt
frame_columns left top f (x ∷ xs) h = in_frame-append left top (f x) (joined_lists f xs) (h x) (frame_columns left top f xs h)

holds_at : (p : Plane) (x y : ℕ) (r : ℕ × ℕ) → column p x ≡ Some r → r.0 ≤ y → y ≤ r.1 → holds p y x ≡ true
unfolding holds holds_row
holds_at p x y r e l m = rw e (and_from (nat_le r.0 y) (nat_le y r.1) (le-leb r.0 y l) (le-leb y r.1 m))

frame_run : (shape : ViewShape) (left top : ℕ) (p : Plane) → IsSeen shape left top p → (painter : Painter) (x : ℕ) (colour : ℕ → ℕ) (r : Option (ℕ × ℕ)) →
    column p x ≡ r → AreInFrame left top (run_dots painter x colour r)
unfolding run_dots
frame_run shape left top p seen painter x colour None e = tt
frame_run shape left top p seen painter x colour (Some r) e =
    elim (cases_lt r.1 r.0) [
      | inl a ↦ rw (listed_from-none (λ y. y) r.0 r.1 a, column_dots-none) tt
      | inr a ↦
          let holds_last : holds p r.1 x ≡ true = holds_at p x r.1 r e a (omega arith) in
          in_frame-column_dots painter left top x colour r.0 r.1 (seen.frame_column x r.1 holds_last) (seen.frame_row x r.1 holds_last)
    ]

floor_dots-frame : (v : ViewValue) (art : Art) (n lump left top : ℕ) (p : Plane) → IsSeen v.shape left top p → AreInFrame left top (floor_dots v art n lump p)
unfolding floor_dots
floor_dots-frame v art n lump left top p seen =
    frame_columns left top (λ x. run_dots (painter_of PLANE n (lump_source lump)) x (floor_colour v art lump p x) (column p x)) (listed (λ x. x) v.shape.width)
    (λ x. frame_run v.shape left top p seen (painter_of PLANE n (lump_source lump)) x (floor_colour v art lump p x) (column p x) refl)

-- the colours are those of the art that gives the bytes
same_colour : (v : ViewValue) (art : Art) (lump : ℕ) (p : Plane) (flat colormap : List ℕ) (x y : ℕ) → GivesFlat art lump flat colormap →
    pixel_colour (record { view = v; key = p.key; flat = flat; colormap = colormap }) y (span_start (holds p y) x) x ≡ floor_colour v art lump p x y
unfolding pixel_colour distance_at light_at span_colour floor_colour flat_colour
same_colour v art lump p flat colormap x y g =
    let light : ℕ = light_number v p.key.light (pos 0) in
    let distance : ℤ = row_distance v p.key.height y in
    let place : ℕ = pixel_place v distance (span_start (holds p y) x) x in
    ap (shade colormap (distance_map v light distance)) (sym (g.byte place)) ∙ sym (g.shade (distance_map v light distance) (art.byte lump place))

no_pixel : (shape : ViewShape) (left top : ℕ) (p : Plane) → IsSeen shape left top p → (x y : ℕ) → shape.width ≤ x → (b : Bool) → holds p y x ≡ b → b ≡ false
no_pixel shape left top p seen x y l false h = refl
no_pixel shape left top p seen x y l true h = absurd (let in_view : x < shape.width = seen.column x y h in omega arith)

within_frame : (shape : ViewShape) (left top : ℕ) (p : Plane) → IsSeen shape left top p → (x y : ℕ) (b : Bool) → holds p y x ≡ b → (nat_lt x FRAME_WIDTH && b) ≡ b
within_frame shape left top p seen x y true h = (let in_canvas : x + left < FRAME_WIDTH = seen.frame_column x y h in let in_frame : x < FRAME_WIDTH = omega arith in rw (lt-ltb x FRAME_WIDTH in_frame) refl)
within_frame shape left top p seen x y false h = and_right (nat_lt x FRAME_WIDTH) false refl

-- so each pixel has the same dot
same_dot : (v : ViewValue) (art : Art) (n lump : ℕ) (p : Plane) (flat colormap : List ℕ) (left top : ℕ) (painter : Painter) (x y : ℕ) →
    GivesFlat art lump flat colormap → IsSeen v.shape left top p → painter ≡ painter_of PLANE n (lump_source lump) →
    cond (nat_lt x FRAME_WIDTH && holds p y x) (Some (plane_dot (record { view = v; key = p.key; flat = flat; colormap = colormap }) painter p x y)) None
    ≡ last_dot x y (floor_dots v art n lump p)
unfolding plane_dot
same_dot v art n lump p flat colormap left top painter x y g seen e =
    let with_colour : ℕ → Painter → Option Dot = λ c q. Some (record { x = x; y = y; colour = c; painter = q }) in
    ap (λ (b : Bool). cond b (with_colour (pixel_colour (record { view = v; key = p.key; flat = flat; colormap = colormap }) y (span_start (holds p y) x) x) painter) None)
    (within_frame v.shape left top p seen x y (holds p y x) refl)
    ∙ ap (λ (c : ℕ). cond (holds p y x) (with_colour c painter) None) (same_colour v art lump p flat colormap x y g)
    ∙ ap (λ (q : Painter). cond (holds p y x) (with_colour (floor_colour v art lump p x y) q) None) e
    ∙ elim (cases_lt x v.shape.width) [
      | inl l ↦ sym (last_dot-floor_dots v art n lump p x y l)
      | inr l ↦
          ap (λ (b : Bool). cond b (with_colour (floor_colour v art lump p x y) (painter_of PLANE n (lump_source lump))) None) (no_pixel v.shape left top p seen x y l (holds p y x) refl)
          ∙ sym (floor_dots-past v art n lump p x y l)
    ]

-- the canvas has the plane's dots
pub spans-plane : (mark : Painter → ℕ → ℕ) (v : ViewValue) (art : Art) (sky n : ℕ) (p : Plane) (flat colormap : List ℕ) (canvas after : CanvasView) →
    GivesFlat art (flat_lump p.key.flat) flat colormap → is_sky_key p.key ≡ false → IsSeen v.shape canvas.left canvas.top p →
    canvas.painter ≡ painter_of PLANE n (lump_source (flat_lump p.key.flat)) →
    HasSpans mark (record { view = v; key = p.key; flat = flat; colormap = colormap }) p (λ y. FRAME_WIDTH) canvas after →
    after ≡ with_dots mark (plane_dots v art sky n p) canvas
spans-plane mark v art sky n p flat colormap canvas after g k seen e h =
    h.painted
    ∙ ap (λ (cells : List ℕ). record canvas { cells = cells })
    (put_dots-same mark canvas.left canvas.top h.dots (floor_dots v art n (flat_lump p.key.flat) p) canvas.cells h.in_frame
    (floor_dots-frame v art n (flat_lump p.key.flat) canvas.left canvas.top p seen)
    (λ x y. h.pixels x y ∙ same_dot v art n (flat_lump p.key.flat) p flat colormap canvas.left canvas.top canvas.painter x y g seen e))
    ∙ ap (λ (dots : List Dot). with_dots mark dots canvas) (sym (plane_dots-floor v art sky n p k))
