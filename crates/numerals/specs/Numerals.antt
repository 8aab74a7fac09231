-- Whole numbers in decimal digits.
use Rattle.std.specs.Prelude.{◌≡◌, ℕ, ◌+◌, ◌-◌, ◌*◌, Bool, cond, ◌&&◌, nat_lt, nat_le, List, [], ◌∷◌, length, Option, Some, None, codes, refl}
use Rattle.std.specs.Str.{all_ascii_digits}
use Rattle.numerals.specs.declared.TheConstants.{MAX_DIGITS}

-- the number that digits write after those of n
unfoldable pub digits_after : ℕ → List ℕ → ℕ
digits_after n [] = n
digits_after n (c ∷ cs) = digits_after (n * 10 + (c - 48)) cs

-- 1 to 10 digits and nothing else
unfoldable pub is_numeral : List ℕ → Bool
is_numeral text = nat_lt 0 (length text) && (nat_le (length text) MAX_DIGITS && all_ascii_digits text)

-- the number that the digits write
unfoldable pub numeral : List ℕ → Option ℕ
numeral text = cond (is_numeral text) (Some (digits_after 0 text)) None

-- leading zeros are taken
pub numeral_zeros : numeral (codes "0123") ≡ Some 123
unfolding numeral is_numeral digits_after
numeral_zeros = refl

-- eleven digits are no number
pub numeral_long : numeral (codes "00000000001") ≡ None
unfolding numeral is_numeral digits_after
numeral_long = refl
