-- The pixels of a sky plane, and of planes of both kinds (R_DrawPlanes, r_plane.c).
use Rattle.std.specs.Prelude.{ℕ, ◌/◌, ◌^◌, ℤ, pos, List}
use Rattle.picture_rules.specs.Rules.{Art, Dot, SKY, ViewValue, angle_of_column, joined_lists, listed, painter_of, row_fraction, texel_row, turn}
use Rattle.picture_rules.specs.declared.plane.TheConstants.{SKY_SHIFT, SKY_MID, SKY_MAP}
use Rattle.picture_rules.specs.{declared.plane.Flat4.Flat4, plane.Planes.Plane, plane.Planes.column}
use Rattle.picture_rules.specs.declared.plane.Flat4.TheVariants.{Sky, Lump}
use Rattle.picture_rules.specs.plane.Floors.{run_dots, floor_dots}

-- the sky's texture goes round four times a turn
unfoldable pub sky_column : ViewValue → ℕ → ℤ
sky_column v x = pos (turn v.eye.angle (angle_of_column v.tables v.shape x) / 2 ^ SKY_SHIFT)

-- the sky is bright whatever the light of the view
unfoldable pub sky_colour : ViewValue → Art → ℕ → ℕ → ℕ → ℕ
sky_colour v art sky x y =
    art.shade SKY_MAP (art.texel sky (sky_column v x) (texel_row (row_fraction v.shape.centre_y SKY_MID v.shape.sky_step y)))

-- the dots of sky plane number n, column by column
unfoldable pub sky_dots : ViewValue → Art → ℕ → ℕ → Plane → List Dot
sky_dots v art n sky p =
    joined_lists (λ x. run_dots (painter_of SKY n (art.texture_source sky (sky_column v x))) x (sky_colour v art sky x) (column p x)) (listed (λ x. x) v.shape.width)

-- the dots of plane number n, where the sky has this texture
unfoldable pub plane_dots_by : ViewValue → Art → ℕ → ℕ → Plane → Flat4 → List Dot
plane_dots_by v art sky n p Sky = sky_dots v art n sky p
plane_dots_by v art sky n p (Lump lump) = floor_dots v art n lump p

unfoldable pub plane_dots : ViewValue → Art → ℕ → ℕ → Plane → List Dot
plane_dots v art sky n p = plane_dots_by v art sky n p p.key.flat
