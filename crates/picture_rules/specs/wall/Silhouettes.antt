-- Where a fragment clips what is behind it, and up to which height (R_StoreWallRange, r_segs.c).
use Rattle.std.specs.Prelude.{ℤ, pos, int_lt, int_le, Bool, true, false, cond, Option, Some, None}
use Rattle.picture_rules.specs.Rules.{Surface, greatest_word, least_word}
use Rattle.picture_rules.specs.declared.wall.Silhouette.{Silhouette}

abbrev pub no_silhouette : Silhouette
no_silhouette = record { is_there = false; height = pos 0 }

abbrev pub silhouette_at : ℤ → Silhouette
silhouette_at z = record { is_there = true; height = z }

-- the back is seen through no column of the line: its ceiling is not above the front's floor, its floor not below the front's ceiling
unfoldable pub shuts_bottom : Surface → Surface → Bool
shuts_bottom front back = int_le back.ceiling front.floor

unfoldable pub shuts_top : Surface → Surface → Bool
shuts_top front back = int_le front.ceiling back.floor

unfoldable pub bottom_by_step : ℤ → Surface → Surface → Silhouette
bottom_by_step eye_z front back =
    cond (int_lt back.floor front.floor) (silhouette_at front.floor)
    (cond (int_lt eye_z back.floor) (silhouette_at greatest_word) no_silhouette)

unfoldable pub top_by_step : ℤ → Surface → Surface → Silhouette
top_by_step eye_z front back =
    cond (int_lt front.ceiling back.ceiling) (silhouette_at front.ceiling)
    (cond (int_lt back.ceiling eye_z) (silhouette_at least_word) no_silhouette)

-- a masked fragment has the silhouette in any case
unfoldable pub with_masked : Bool → ℤ → Silhouette → Silhouette
with_masked masked height s = cond s.is_there s (cond masked (silhouette_at height) s)

unfoldable pub bottom_silhouette : ℤ → Surface → Option Surface → Bool → Silhouette
bottom_silhouette eye_z front None masked = silhouette_at greatest_word
bottom_silhouette eye_z front (Some back) masked =
    cond (shuts_bottom front back) (silhouette_at greatest_word) (with_masked masked greatest_word (bottom_by_step eye_z front back))

unfoldable pub top_silhouette : ℤ → Surface → Option Surface → Bool → Silhouette
top_silhouette eye_z front None masked = silhouette_at least_word
top_silhouette eye_z front (Some back) masked =
    cond (shuts_top front back) (silhouette_at least_word) (with_masked masked least_word (top_by_step eye_z front back))

-- the clip of what is behind is the same in each column: -1 below, the view's height above
unfoldable pub bottom_is_constant : Surface → Option Surface → Bool
bottom_is_constant front None = true
bottom_is_constant front (Some back) = shuts_bottom front back

unfoldable pub top_is_constant : Surface → Option Surface → Bool
top_is_constant front None = true
top_is_constant front (Some back) = shuts_top front back
