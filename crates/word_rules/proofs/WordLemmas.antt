-- Laws of 32-bit words: what fits, and what the code's casts and shifts come to.
use Rattle.std.proofs.Common.{lit<, ◌≡◌, ℕ, zero, suc, ◌-◌, ◌*◌, ◌/◌, ◌%◌, ◌^◌, ◌<◌, ◌≤◌, ℤ, pos, ◌*ℤ◌, FitsSigned, refl, ap, ◌∙◌, arith, bit_and}
use lib.IntN.{negsuc, neg_ℤ}
use lib.Signed.{mag_shr, ◌≤ℤ◌}
use Rattle.std.specs.Prelude.{int_div, unsigned_abs, nat_lt, cond, min, Bool, true, false}
use Rattle.std.specs.Int.{Width, w32, w64, int_wrap, int_shr, cast_signed, cast_unsigned}
use Rattle.std.proofs.lemmas.Int.{ints, clamps, to_z-of_z, fits_signed_from_abs, unsigned_abs-mul, wrapping_mul-bits, int_wrap-mul_right, fits_signed_mul, SFits-int_wrap}
use Rattle.std.proofs.Math.Pow.{pow-lt}
use Rattle.std.proofs.lemmas.Nat.{and_mask, div_below}
use Rattle.word_rules.specs.declared.TheConstants.{FRACTION_UNIT, QUOTIENT_BITS, SLOPE_STEPS, MIN_SLOPE_DIVISOR, SLOPE_DIVIDEND_SHIFT, SLOPE_DIVISOR_SHIFT}
use Rattle.word_rules.specs.Words.{word, clamp_word, greater_word, lesser_word, slope_div, shl_word}

low_of_negative : (n : ℕ) → n < 2 ^ 63 → (2 ^ 64 - suc n) % 2 ^ 32 ≡ 2 ^ 32 - 1 - n % 2 ^ 32
low_of_negative n h = omega arith

-- the low 32 bits of a 64-bit word, read as a signed word
pub word_of_low_bits : (z : ℤ) → FitsSigned w64 z → cast_signed w32 (bit_and (cast_unsigned w64 z) 4294967295) ≡ word z
unfolding int_wrap
word_of_low_bits (pos n) f = ap (cast_signed w32) (and_mask n 32)
word_of_low_bits (negsuc n) f = ap (cast_signed w32) (and_mask (2 ^ 64 - suc n) 32 ∙ low_of_negative n f.sfits)

-- a 32-bit word fits 64 bits
pub widened : (z : ℤ) → FitsSigned w32 z → FitsSigned w64 z
widened z f = let signed_bounds = f.sfits in record { sfits = omega arith }

abs_bound : (z : ℤ) → FitsSigned w32 z → unsigned_abs z ≤ 2147483648
abs_bound (pos n) f = let signed_bounds = f.sfits in omega arith
abs_bound (negsuc n) f = let signed_bounds = f.sfits in omega arith

-- the product of two words fits 64 bits
pub product_fits : (a b : ℤ) → FitsSigned w32 a → FitsSigned w32 b → FitsSigned w64 (a *ℤ b)
product_fits a b f g = fits_signed_mul w64 a b 2147483648 2147483648 (abs_bound a f) (abs_bound b g) (omega arith)

-- a shift to the right keeps what fits
pub shifted_fits : (w : Width) (z : ℤ) (k : ℕ) → FitsSigned w z → FitsSigned w (int_shr z k)
shifted_fits w z k f = let signed_bounds = f.sfits in let magnitude_shrinks = mag_shr z (2 ^ k) in record { sfits = omega arith }

pub word_fits : (z : ℤ) → FitsSigned w32 (word z)
word_fits z = SFits-int_wrap w32 z

-- a word with 16 bits of fraction added fits 64 bits
pub scaled_fits : (a : ℤ) → FitsSigned w32 a → FitsSigned w64 (a *ℤ FRACTION_UNIT)
scaled_fits a f = product_fits a FRACTION_UNIT f (record { sfits = lit< tt })

-- what a signed value is after it is stored, for `grind` and `search`
pub ruleset signed_steps = (to_z-of_z, widened, product_fits, shifted_fits, word_fits, word_of_low_bits, scaled_fits)

abs_of_negated : (n : ℕ) → unsigned_abs (neg_ℤ (pos n)) ≡ n
abs_of_negated zero = refl
abs_of_negated (suc n) = refl

-- the absolute value of a quotient
pub abs_of_quotient : (a d : ℤ) → unsigned_abs (int_div a d) ≡ unsigned_abs a / unsigned_abs d
abs_of_quotient (pos a) (pos b) = refl
abs_of_quotient (pos a) (negsuc b) = abs_of_negated (a / suc b)
abs_of_quotient (negsuc a) (pos b) = abs_of_negated (suc a / b)
abs_of_quotient (negsuc a) (negsuc b) = refl

scaled_below : (m n : ℕ) → m / 2 ^ QUOTIENT_BITS < n → m * 65536 / n < 2147483648
scaled_below m n h = div_below (m * 65536) n 2147483648 (omega arith) (omega arith)

-- the quotient of `div` is a word where the dividend is not too large
pub quotient_fits : (a b : ℤ) → unsigned_abs a / 2 ^ QUOTIENT_BITS < unsigned_abs b → FitsSigned w32 (int_div (a *ℤ FRACTION_UNIT) b)
quotient_fits a b h =
    fits_signed_from_abs w32 (int_div (a *ℤ FRACTION_UNIT) b)
    (rw (abs_of_quotient (a *ℤ FRACTION_UNIT) b, unsigned_abs-mul a FRACTION_UNIT) (scaled_below (unsigned_abs a) (unsigned_abs b) h))

-- a slope has no more steps than the steepest
pub slope_div-bound : (num den : ℕ) → slope_div num den ≤ SLOPE_STEPS
unfolding slope_div
slope_div-bound num den =
    elim (nat_lt den MIN_SLOPE_DIVISOR) as (λ (b : Bool). cond b SLOPE_STEPS (min SLOPE_STEPS ((num * 2 ^ SLOPE_DIVIDEND_SHIFT) % 2 ^ 32 / (den / 2 ^ SLOPE_DIVISOR_SHIFT))) ≤ SLOPE_STEPS) [
      | true ↦ omega arith
      | false ↦ omega arith
    ]

-- what is held within limits is within them
pub clamp_word-low : (lo hi z : ℤ) → lo ≤ℤ hi → lo ≤ℤ clamp_word lo hi z
unfolding clamp_word
clamp_word-low lo hi z h = omega (arith, ints, clamps)

pub clamp_word-high : (lo hi z : ℤ) → lo ≤ℤ hi → clamp_word lo hi z ≤ℤ hi
unfolding clamp_word
clamp_word-high lo hi z h = omega (arith, ints, clamps)

bits_below : (n : ℕ) → n < 2 ^ 32 → n ≡ n % 2 ^ 32
bits_below n h = omega arith

-- bits read with a sign are the word that is congruent to them
pub signed_of_bits : (n : ℕ) → n < 2 ^ 32 → cast_signed w32 n ≡ word (pos n)
unfolding int_wrap
signed_of_bits n h = ap (cast_signed w32) (bits_below n h)

bits_of_word : (z : ℤ) → FitsSigned w32 z → cast_unsigned w32 z < 2 ^ 32
bits_of_word (pos n) f = let signed_bounds = f.sfits in omega arith
bits_of_word (negsuc n) f = let signed_bounds = f.sfits in omega arith

-- the bits of a word that is shifted to the left, read as a signed word
pub shl_of_bits : (z : ℤ) (k : ℕ) → FitsSigned w32 z → k < 32 → cast_signed w32 ((cast_unsigned w32 z * 2 ^ k) % 2 ^ 32) ≡ shl_word z k
unfolding shl_word
shl_of_bits z k f h =
    let power_small : 2 ^ k < 2 ^ 32 = pow-lt h in
    wrapping_mul-bits w32 (cast_unsigned w32 z) (2 ^ k) (bits_of_word z f) power_small
    ∙ ap (λ (y : ℤ). word (y *ℤ cast_signed w32 (2 ^ k))) (to_z-of_z w32 z f)
    ∙ ap (λ (y : ℤ). word (z *ℤ y)) (signed_of_bits (2 ^ k) power_small)
    ∙ int_wrap-mul_right w32 z (pos (2 ^ k))

-- the greater of two is at least the first, and the lesser at most
pub greater_word-first : (a b : ℤ) → a ≤ℤ greater_word a b
unfolding greater_word
greater_word-first a b = omega (arith, ints, clamps)

pub lesser_word-first : (a b : ℤ) → lesser_word a b ≤ℤ a
unfolding lesser_word
lesser_word-first a b = omega (arith, ints, clamps)

-- for `grind`: bounds of words
pub ruleset word_bounds = (slope_div-bound, clamp_word-low, clamp_word-high)
