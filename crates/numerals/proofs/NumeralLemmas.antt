-- Laws of the digits of a number, for loops over them.
use Rattle.std.proofs.Common.{◌≡◌, ℕ, ◌+◌, ◌-◌, ◌*◌, ◌^◌, ◌<◌, ◌≤◌, Bool, true, false, ◌&&◌, List, [], length, drop, get_or, refl, sym, ◌∙◌, arith}
use Rattle.std.specs.Str.{all_ascii_digits}
use Rattle.std.specs.Char.{is_ascii_digit}
use Rattle.std.proofs.lemmas.List.{at_drop_more}
use Rattle.std.proofs.Math.ListN.{drop_of_length-le}
use Rattle.std.proofs.lemmas.Grind.{pow_more}
use Rattle.std.proofs.Math.Nat.{pow-le-pow_right}
use Rattle.numerals.specs.Numerals.{digits_after}

-- one digit more
pub digits_after-step : (v : ℕ) (xs : List ℕ) (i : ℕ) → i < length xs → digits_after v (drop i xs) ≡ digits_after (v * 10 + (get_or xs i 0 - 48)) (drop (i + 1) xs)
unfolding digits_after
digits_after-step v xs i l = at_drop_more (digits_after v) xs i 0 l

pub digits_after-end : (v : ℕ) → digits_after v [] ≡ v
unfolding digits_after
digits_after-end v = refl

-- one byte more
pub all_digits-step : (xs : List ℕ) (i : ℕ) → i < length xs → all_ascii_digits (drop i xs) ≡ (is_ascii_digit (get_or xs i 0) && all_ascii_digits (drop (i + 1) xs))
all_digits-step xs i l = at_drop_more all_ascii_digits xs i 0 l

-- a number of i digits and one more
pub digit-room : (v i c : ℕ) → v < 10 ^ i → c < 10 → v * 10 + c < 10 ^ (i + 1)
digit-room v i c l d = let power_more = pow_more 10 i in rw power_more (omega (arith, l, d))

pub digits-room : (v i : ℕ) → v < 10 ^ i → i ≤ 10 → v < 10 ^ 10
digits-room v i l d = let powers_in_order : 10 ^ i ≤ 10 ^ 10 = pow-le-pow_right (omega arith) d in omega (arith, l, powers_in_order)

-- a digit is from 48 to 57
pub digit-low : (c : ℕ) → is_ascii_digit c ≡ true → (48 ≤ c) × (c - 48 < 10)
digit-low c e = grind (arith, e)

pub and-parts : (a b : Bool) → (a && b) ≡ true → (a ≡ true) × (b ≡ true)
and-parts true b e = (refl, e)
and-parts false b e = cc

-- the end of the digits
pub digits_after-done : (v : ℕ) (xs : List ℕ) (i : ℕ) → length xs ≤ i → digits_after v (drop i xs) ≡ digits_after 0 xs → v ≡ digits_after 0 xs
digits_after-done v xs i l e =
    let no_digits_left : drop i xs ≡ [] = drop_of_length-le xs l in
    sym (digits_after-end v) ∙ rw no_digits_left at e

-- for `grind`
pub ruleset digit_steps = (digits_after-step, digits_after-end, all_digits-step, digit-room, digits-room)
