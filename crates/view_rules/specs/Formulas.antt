-- Sines and tangents of fine angles by formula, 16.16, with whole numbers alone: tables to see worked
-- views by, and those of the made files.
use Rattle.std.specs.Prelude.{◌≡◌, ℕ, ◌+◌, ◌-◌, ◌*◌, ◌/◌, ◌%◌, ◌^◌, ℤ, pos, neg_ℤ, cond, nat_lt, refl}
use Rattle.view_rules.specs.declared.formula.TheConstants.{HALF_TURN, HALF_STEPS, ONE, QUARTER}

-- the product of the distances, in half steps of a fine angle, to both ends of the half turn
unfoldable pub sine_product : ℕ → ℕ
sine_product i = (2 * i + 1) * (HALF_STEPS - (2 * i + 1))

-- the sine of fine angle i of the first half turn, by Bhaskara's fraction
unfoldable pub half_sine : ℕ → ℕ
half_sine i = ONE * 16 * sine_product i / (5 * HALF_STEPS ^ 2 - 4 * sine_product i)

-- the sine of fine angle i: the second half turn is the first one with the other sign
unfoldable pub made_sine : ℕ → ℤ
made_sine i = cond (nat_lt (i % (2 * HALF_TURN)) HALF_TURN) (pos (half_sine (i % HALF_TURN))) (neg_ℤ (pos (half_sine (i % HALF_TURN))))

-- the tangent of fine angle j of the first quarter turn: sine by cosine
unfoldable pub upper_tangent : ℕ → ℕ
upper_tangent j = half_sine j * ONE / half_sine (j + QUARTER)

-- entry i of the tangents: from a quarter turn below 0 to a quarter turn above it
unfoldable pub made_tangent : ℕ → ℤ
made_tangent i = cond (nat_lt i QUARTER) (neg_ℤ (pos (upper_tangent (QUARTER - 1 - i)))) (pos (upper_tangent (i - QUARTER)))

-- the first sine and the tangent of 45 degrees, with its fraction cut
pub first_sine : made_sine 0 ≡ pos 25
unfolding made_sine half_sine sine_product
first_sine = refl

pub tangent_row : made_tangent 3072 ≡ pos 65587
unfolding made_tangent upper_tangent half_sine sine_product
tangent_row = refl
