-- Whether a fragment marks rows of its leaf's floor and ceiling plane (markfloor, markceiling, r_segs.c).
use Rattle.std.specs.Prelude.{◌==◌, ◌||◌, ◌&&◌, ℤ, int_le, Bool, true, false, not, cond, Option, Some, None}
use Rattle.picture_rules.specs.Rules.{Surface, is_closed, is_sky, same_word}
use Rattle.picture_rules.specs.wall.Heights.{world_top, world_bottom, world_high, world_low}

unfoldable pub floors_differ : ℤ → Surface → Surface → Bool
floors_differ eye_z front back =
    not (same_word (world_low eye_z (Some back)) (world_bottom eye_z front)) || (not (front.floor_flat == back.floor_flat) || not (same_word front.light back.light))

unfoldable pub ceilings_differ : ℤ → Surface → Surface → Bool
ceilings_differ eye_z front back =
    not (same_word (world_high eye_z (Some back)) (world_top eye_z front (Some back))) || (not (front.ceiling_flat == back.ceiling_flat) || not (same_word front.light back.light))

unfoldable pub floor_shows : ℤ → Surface → Option Surface → Bool
floor_shows eye_z front None = true
floor_shows eye_z front (Some back) = is_closed front back || floors_differ eye_z front back

unfoldable pub ceiling_shows : ℤ → Surface → Option Surface → Bool
ceiling_shows eye_z front None = true
ceiling_shows eye_z front (Some back) = is_closed front back || ceilings_differ eye_z front back

-- a floor at or above the viewpoint is not seen
unfoldable pub floor_mark : ℤ → Surface → Option Surface → Bool
floor_mark eye_z front back = cond (int_le eye_z front.floor) false (floor_shows eye_z front back)

-- a ceiling at or below the viewpoint is seen where it is sky
unfoldable pub ceiling_mark : ℤ → Surface → Option Surface → Bool
ceiling_mark eye_z front back =
    cond (int_le front.ceiling eye_z && not (is_sky front.ceiling_flat)) false (ceiling_shows eye_z front back)
