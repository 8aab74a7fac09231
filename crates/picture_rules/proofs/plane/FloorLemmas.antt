-- Laws of the dots of a plane: each pixel that its runs hold has one, whatever the order in which they are drawn.
use Rattle.word_rules.proofs.Common.{and_from, and_left, and_right, cases_lt, cond, inl, inr, le-leb, lt-leb, nat_le, None, Option, Some, ℕ, ◌<◌, ◌∙◌, ◌≡◌}
use Rattle.picture_rules.specs.Rules.{AreInColumn, Art, PLANE, Painter, SKY, ViewValue, last_dot, listed_from, lump_source, painter_of}
use Rattle.pixel_rules.proofs.{DotLemmas.last_dot-none, StripLemmas.in_column-column_dots}
use Rattle.pixel_rules.proofs.ColumnLemmas.{last_dot-listed_columns, last_dot-column_dots, last_dot-no_row}
use Rattle.picture_rules.specs.plane.Planes.{Plane, column}
use Rattle.picture_rules.specs.plane.Spans.{holds_row, holds}
use Rattle.picture_rules.specs.plane.Floors.{floor_colour, run_dots, floor_dots}
use Rattle.picture_rules.specs.plane.Skies.{sky_column, sky_colour, sky_dots}

pub in_column-run_dots : (painter : Painter) (x : ℕ) (colour : ℕ → ℕ) (r : Option (ℕ × ℕ)) → AreInColumn x (run_dots painter x colour r)
unfolding run_dots
in_column-run_dots painter x colour None = tt
in_column-run_dots painter x colour (Some r) = in_column-column_dots painter x colour (listed_from (λ y. y) r.0 r.1)

-- a run has a dot at each of its rows, and none elsewhere
pub last_dot-run_dots : (painter : Painter) (x y : ℕ) (colour : ℕ → ℕ) (r : Option (ℕ × ℕ)) →
    last_dot x y (run_dots painter x colour r) ≡ cond (holds_row r y) (Some (record { x = x; y = y; colour = colour y; painter = painter })) None
unfolding run_dots holds_row
last_dot-run_dots painter x y colour None = last_dot-none x y
last_dot-run_dots painter x y colour (Some r) =
    elim (cases_lt y r.0) [
      | inl a ↦ rw (and_left (nat_le r.0 y) (nat_le y r.1) (lt-leb r.0 y a)) (last_dot-no_row painter x y colour r.0 r.1 (inl a))
      | inr a ↦ elim (cases_lt r.1 y) [
        | inl b ↦ rw (and_right (nat_le r.0 y) (nat_le y r.1) (lt-leb y r.1 b)) (last_dot-no_row painter x y colour r.0 r.1 (inr b))
        | inr b ↦ rw (and_from (nat_le r.0 y) (nat_le y r.1) (le-leb r.0 y a) (le-leb y r.1 b)) (last_dot-column_dots painter x y colour r.0 r.1 a b)
      ]
    ]

-- a floor or ceiling has a dot at each pixel of the view that its runs hold
pub last_dot-floor_dots : (v : ViewValue) (art : Art) (n lump : ℕ) (p : Plane) (x y : ℕ) → x < v.shape.width →
    last_dot x y (floor_dots v art n lump p)
    ≡ cond (holds p y x) (Some (record { x = x; y = y; colour = floor_colour v art lump p x y; painter = painter_of PLANE n (lump_source lump) })) None
unfolding floor_dots holds
last_dot-floor_dots v art n lump p x y l =
    last_dot-listed_columns (λ c. run_dots (painter_of PLANE n (lump_source lump)) c (floor_colour v art lump p c) (column p c)) x y v.shape.width
    (λ c. in_column-run_dots (painter_of PLANE n (lump_source lump)) c (floor_colour v art lump p c) (column p c)) l
    ∙ last_dot-run_dots (painter_of PLANE n (lump_source lump)) x y (floor_colour v art lump p x) (column p x)

-- and a sky likewise
pub last_dot-sky_dots : (v : ViewValue) (art : Art) (n sky : ℕ) (p : Plane) (x y : ℕ) → x < v.shape.width →
    last_dot x y (sky_dots v art n sky p)
    ≡ cond (holds p y x) (Some (record { x = x; y = y; colour = sky_colour v art sky x y; painter = painter_of SKY n (art.texture_source sky (sky_column v x)) })) None
unfolding sky_dots holds
last_dot-sky_dots v art n sky p x y l =
    last_dot-listed_columns (λ c. run_dots (painter_of SKY n (art.texture_source sky (sky_column v c))) c (sky_colour v art sky c) (column p c)) x y v.shape.width
    (λ c. in_column-run_dots (painter_of SKY n (art.texture_source sky (sky_column v c))) c (sky_colour v art sky c) (column p c)) l
    ∙ last_dot-run_dots (painter_of SKY n (art.texture_source sky (sky_column v x))) x y (sky_colour v art sky x) (column p x)
