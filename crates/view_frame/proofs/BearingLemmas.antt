-- Laws of absolute values, of the steps of a slope, and of the columns of a view.
use Rattle.word_rules.proofs.Common.{arith, clamps, div_below, false, ints, nat_le, nat_tests, negsuc, pos, unsigned_abs, ℕ, ℤ, ◌*◌, ◌/◌, ◌<ℤ◌, ◌<◌, ◌^◌, ◌≡◌, ◌≤ℤ◌, ◌≤◌}
use Rattle.word_rules.specs.Words.{div, shr_word, abs_word, greater_word, lesser_word}
use Rattle.view_rules.specs.declared.TheConstants.{SLOPE_BITS, SLOPE_ANGLES, FRAME_WIDTH}
use Rattle.view_rules.specs.{Angles.Angles, Shape.shape_of_size, Shape.width_of_size}
use Rattle.view_rules.specs.Tables.{column_of_angle}
use Rattle.view_rules.proofs.ColumnLemmas.{within_view-bound}

-- an absolute value is not negative
pub abs_word-low : (z : ℤ) → pos 0 ≤ℤ abs_word z
unfolding abs_word
abs_word-low z = omega (arith, ints)

-- the lesser of two such values is not negative, and not above the greater
pub lesser_word-low : (a b : ℤ) → pos 0 ≤ℤ a → pos 0 ≤ℤ b → pos 0 ≤ℤ lesser_word a b
unfolding lesser_word
lesser_word-low a b h k = omega (arith, ints, clamps)

pub lesser_word-greater_word : (a b : ℤ) → lesser_word a b ≤ℤ greater_word a b
unfolding lesser_word greater_word
lesser_word-greater_word a b = omega (arith, ints, clamps)

-- a slope that is no steeper than the diagonal has no more steps than the steepest
pub slope_steps-bound : (dx dy : ℤ) → pos 0 <ℤ dx → pos 0 ≤ℤ dy → dy ≤ℤ dx → unsigned_abs (shr_word (div dy dx) SLOPE_BITS) < SLOPE_ANGLES
unfolding div shr_word
slope_steps-bound (pos n) (pos m) p l h =
    let above_zero : 0 < n = omega (arith, ints) in
    let order : m ≤ n = omega (arith, ints) in
    let quotient_fits : nat_le n (m / 2 ^ 14) ≡ false = grind (arith, nat_tests) in
    let quotient_below = div_below (m * 65536) n 65537 (omega arith) (omega arith) in
    rw quotient_fits (omega arith)
slope_steps-bound (pos n) (negsuc m) p l h = absurd (omega (arith, ints))
slope_steps-bound (negsuc n) dy p l h = absurd (omega (arith, ints))

width_bound : (size : ℕ) → (shape_of_size size).width ≤ FRAME_WIDTH
unfolding shape_of_size width_of_size
width_bound size = omega arith

no_more : (n w : ℕ) → n ≤ w → w ≤ FRAME_WIDTH → n ≤ FRAME_WIDTH
no_more n w h k = omega arith

-- a column of a view is a column of the frame, or the one past it
pub column_of_angle-bound : (t : Angles) (size i : ℕ) → column_of_angle t (shape_of_size size) i ≤ FRAME_WIDTH
unfolding column_of_angle
column_of_angle-bound t size i = no_more _ _ (within_view-bound (shape_of_size size) _) (width_bound size)
