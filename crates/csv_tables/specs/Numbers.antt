-- The number that a field writes: an optional minus, and 1 to 10 decimal digits.
use Rattle.std.specs.Prelude.{◌≡◌, ℕ, Bool, cond, ◌==◌, List, drop, slice_index, Option, Some, option_map, ℤ, pos, neg_ℤ, codes, refl}
use Rattle.numerals.specs.Numerals.{digits_after, is_numeral, numeral}

-- a minus stands first
unfoldable pub is_negative : List ℕ → Bool
is_negative text = slice_index text 0 == 45

-- the number of a field
unfoldable pub number : List ℕ → Option ℤ
number text = cond (is_negative text) (option_map (λ n. neg_ℤ (pos n)) (numeral (drop 1 text))) (option_map pos (numeral text))

-- leading zeros are taken
pub number_zeros : number (codes "-0123") ≡ Some (neg_ℤ (pos 123))
unfolding number is_negative numeral is_numeral digits_after
number_zeros = refl
