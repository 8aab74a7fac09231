-- Where a thing is seen, before its picture is known (R_ProjectSprite, r_things.c).
use Rattle.std.specs.Prelude.{ℕ, ◌/◌, ◌^◌, ℤ, int_lt, cond, Option, Some, None}
use Rattle.picture_rules.specs.Rules.{ViewValue, abs_word, cosine_at, div, fine_angle, minus, mul, neg_word, plus, point_angle, projection, shl_word, sine_at, turn, turn_back}
use Rattle.picture_rules.specs.declared.sprite.TheConstants.{MIN_DEPTH, SIDE_SHIFT, ROTATION_TURN, ROTATION_SHIFT}
use Rattle.picture_rules.specs.{declared.sprite.Placed.Placed, declared.sprite.Seen.Seen}

unfoldable pub view_sine : ViewValue → ℤ
view_sine v = sine_at v.tables (fine_angle v.eye.angle)

unfoldable pub view_cosine : ViewValue → ℤ
view_cosine v = cosine_at v.tables (fine_angle v.eye.angle)

-- how far a place is along the view's direction: tz
unfoldable pub depth : ViewValue → ℤ → ℤ → ℤ
depth v x y = plus (mul (minus x v.eye.x) (view_cosine v)) (mul (minus y v.eye.y) (view_sine v))

-- and across it, to the right: tx
unfoldable pub side : ViewValue → ℤ → ℤ → ℤ
side v x y = neg_word (minus (mul (minus y v.eye.y) (view_cosine v)) (mul (minus x v.eye.x) (view_sine v)))

unfoldable pub sprite_scale : ViewValue → ℤ → ℤ
sprite_scale v tz = div (projection v.shape) tz

-- which of eight pictures of the thing the viewpoint sees
unfoldable pub rotation : ViewValue → Placed → ℕ
rotation v thing = turn (turn_back (point_angle v thing.x thing.y) thing.angle) ROTATION_TURN / 2 ^ ROTATION_SHIFT

unfoldable pub seen_at : ViewValue → Placed → ℤ → ℤ → Seen
seen_at v thing tz tx = record { scale = sprite_scale v tz; side = tx; rotation = rotation v thing }

-- left out where it is too near, or more than four times as far to the side as ahead
unfoldable pub seen_within : ViewValue → Placed → ℤ → ℤ → Option Seen
seen_within v thing tz tx =
    cond (int_lt tz MIN_DEPTH) None
    (cond (int_lt (shl_word tz SIDE_SHIFT) (abs_word tx)) None
    (Some (seen_at v thing tz tx)))

unfoldable pub project : ViewValue → Placed → Option Seen
project v thing = seen_within v thing (depth v thing.x thing.y) (side v thing.x thing.y)
