-- The pixels of a plane that is not sky (R_MapPlane, R_DrawPlanes, r_plane.c).
use Rattle.std.specs.Prelude.{ℕ, ◌-◌, ℤ, pos, List, [], Option, Some, None}
use Rattle.picture_rules.specs.Rules.{Art, Dot, PLANE, Painter, ViewValue, abs_word, ang90, angle_of_column, column_dots, cosine_at, dist_scale, distance_map, div, fine_angle, joined_lists, light_number, listed, listed_from, lump_source, minus, mul, neg_word, painter_of, plus, projection, sine_at, span_place, turn, turn_back, y_slope}
use Rattle.picture_rules.specs.plane.Planes.{Plane, column}
use Rattle.picture_rules.specs.plane.Spans.{span_start, holds}

-- what a pixel to the right gains at distance 1, 16.16: basexscale, baseyscale
unfoldable pub base_angle : ViewValue → ℕ
base_angle v = fine_angle (turn_back v.eye.angle ang90)

unfoldable pub base_x : ViewValue → ℤ
base_x v = div (cosine_at v.tables (base_angle v)) (projection v.shape)

unfoldable pub base_y : ViewValue → ℤ
base_y v = neg_word (div (sine_at v.tables (base_angle v)) (projection v.shape))

-- the distance of row y of a plane
unfoldable pub row_distance : ViewValue → ℤ → ℕ → ℤ
row_distance v height y = mul (abs_word (minus height v.eye.z)) (y_slope v.shape y)

-- how far along column x0 the row is, and the fine angle of that column
unfoldable pub span_length : ViewValue → ℤ → ℕ → ℤ
span_length v distance x0 = mul distance (dist_scale v.tables v.shape x0)

unfoldable pub span_angle : ViewValue → ℕ → ℕ
span_angle v x0 = fine_angle (turn v.eye.angle (angle_of_column v.tables v.shape x0))

-- the fractions at the span's first column
unfoldable pub span_x : ViewValue → ℤ → ℕ → ℤ
span_x v distance x0 = plus v.eye.x (mul (cosine_at v.tables (span_angle v x0)) (span_length v distance x0))

unfoldable pub span_y : ViewValue → ℤ → ℕ → ℤ
span_y v distance x0 = minus (neg_word v.eye.y) (mul (sine_at v.tables (span_angle v x0)) (span_length v distance x0))

-- the place in the flat at column x of a span that begins at column x0
unfoldable pub pixel_place : ViewValue → ℤ → ℕ → ℕ → ℕ
pixel_place v distance x0 x =
    span_place v.spans (span_x v distance x0) (span_y v distance x0) (mul distance (base_x v)) (mul distance (base_y v)) (x - x0)

unfoldable pub flat_colour : ViewValue → Art → ℕ → ℕ → ℤ → ℕ → ℕ → ℕ
flat_colour v art lump light distance x0 x =
    art.shade (distance_map v light distance) (art.byte lump (pixel_place v distance x0 x))

-- the colour of pixel x, y of a plane of this flat
unfoldable pub floor_colour : ViewValue → Art → ℕ → Plane → ℕ → ℕ → ℕ
floor_colour v art lump p x y =
    flat_colour v art lump (light_number v p.key.light (pos 0)) (row_distance v p.key.height y) (span_start (holds p y) x) x

unfoldable pub run_dots : Painter → ℕ → (ℕ → ℕ) → Option (ℕ × ℕ) → List Dot
run_dots painter x colour None = []
run_dots painter x colour (Some r) = column_dots painter x colour (listed_from (λ y. y) r.0 r.1)

-- the dots of plane number n, told column by column; a pixel is in it once, so that any order leaves the same
unfoldable pub floor_dots : ViewValue → Art → ℕ → ℕ → Plane → List Dot
floor_dots v art n lump p =
    joined_lists (λ x. run_dots (painter_of PLANE n (lump_source lump)) x (floor_colour v art lump p x) (column p x)) (listed (λ x. x) v.shape.width)
