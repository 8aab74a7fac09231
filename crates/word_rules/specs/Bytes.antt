-- Numbers that stand in bytes, the low byte first; a byte past the end of the bytes is 0.
use Rattle.std.specs.Prelude.{◌≡◌, ℕ, ℤ, negsuc, List, [], ◌∷◌, drop, slice_index, refl}
use Rattle.std.specs.Int.{w16, cast_signed}
use Rattle.byteorder.specs.Endian.{little_number}
use Rattle.word_rules.specs.declared.TheConstants.{HALF_SIZE, WORD_SIZE}

-- the byte at a place
unfoldable pub byte_at : List ℕ → ℕ → ℕ
byte_at bytes place = slice_index bytes place

-- the number of two bytes, the low one first
unfoldable pub half_at : List ℕ → ℕ → ℕ
half_at bytes place = little_number HALF_SIZE (drop place bytes)

-- the number of two bytes with a sign
unfoldable pub signed_half_at : List ℕ → ℕ → ℤ
signed_half_at bytes place = cast_signed w16 (half_at bytes place)

-- the number of four bytes, the low one first
unfoldable pub word_at : List ℕ → ℕ → ℕ
word_at bytes place = little_number WORD_SIZE (drop place bytes)

-- three bytes, and 0 past the end
pub word_at_row : word_at (1 ∷ 2 ∷ 3 ∷ []) 0 ≡ 197121
unfolding word_at
word_at_row = refl

pub signed_half_at_row : signed_half_at (254 ∷ 255 ∷ []) 0 ≡ negsuc 1
unfolding signed_half_at half_at
signed_half_at_row = refl
