-- Fractions (16.16) without the bits above their texel row, or above their texel of a flat, in the
-- highest bits of a word: the sum of two wraps where the texels begin again.
use Rattle.std.specs.Prelude.{◌≡◌, ℕ, ◌+◌, ◌*◌, ◌%◌, ◌^◌, ◌<◌, ◌≤◌, ℤ, negsuc, FitsSigned, refl}
use Rattle.std.specs.Int.{w32}
use Rattle.pixel_strips.specs.Rules.{Full, Packed, Spans, bits_of, pack, packed_at, step_at}
use Rattle.pixel_strips.specs.declared.places.TheConstants.{ROW_LIFT, FLAT_LIFT}

-- the bits of a word, shifted left by so many
unfoldable pub lifted : ℕ → ℤ → ℕ
lifted by z = bits_of z * 2 ^ by % 2 ^ 32

-- a fraction of a column of 128 texels
pub record IsTexelPlace (fraction : ℤ) (place : ℕ) : Type 0 where
  pub fits : FitsSigned w32 fraction
  pub is : place ≡ lifted ROW_LIFT fraction

-- two fractions of a flat: that of y in the upper half, that of x in the lower one. What is carried
-- out of the lower half goes into the upper one's lowest bits, which hold nothing else
pub record IsFlatPlace (x y : ℤ) (most place : ℕ) : Type 0 where
  pub x_fits : FitsSigned w32 x
  pub y_fits : FitsSigned w32 y
  pub carries : ℕ
  pub few : carries ≤ most
  pub is : place ≡ 2 ^ 32 * (lifted FLAT_LIFT y + carries) + lifted FLAT_LIFT x

-- a word of packed fractions in the lower half, and the part of y once more in the highest bits: there it has the texel's
-- row where the place of full fractions has it
pub record IsPackedPlace (word most place : ℕ) : Type 0 where
  pub fits : word < 2 ^ 32
  pub carries : ℕ
  pub few : carries ≤ most
  pub is : place ≡ 2 ^ 32 * (2 ^ 16 * (word % 2 ^ 16) + carries) + word

-- two fractions, or two steps, before any sum
abbrev pub IsFirstPlace : Spans → ℤ → ℤ → ℕ → Type 0
IsFirstPlace Full x y place = IsFlatPlace x y 0 place
IsFirstPlace Packed x y place = IsPackedPlace (pack x y) 0 place

-- the fractions after n steps of a span
abbrev pub IsSpanPlace : Spans → ℤ → ℤ → ℤ → ℤ → ℕ → ℕ → Type 0
IsSpanPlace Full x y x_step y_step n place = IsFlatPlace (step_at x x_step n) (step_at y y_step n) n place
IsSpanPlace Packed x y x_step y_step n place = IsPackedPlace (packed_at (pack x y) (pack x_step y_step) n) n place

-- half a texel before row 0 is in row 127
pub lifted_row : lifted ROW_LIFT (negsuc 32767) ≡ 127 * 2 ^ 25 + 2 ^ 24
unfolding lifted
lifted_row = refl
