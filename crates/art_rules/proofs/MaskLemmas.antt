-- The law of `mask_of`: 1 less than the greatest power of two that is at most the width.
use Rattle.word_rules.proofs.Common.{add-one, arith, Bool, false, if◌then◌else◌, nat_lt, nat_tests, refl, suc, true, zero, ℕ, ◌+◌, ◌-◌, ◌<◌, ◌^◌, ◌≡◌, ◌≤◌}
use Rattle.art_rules.specs.Textures.{mask_from, mask_of}

pub record IsMask (width mask : ℕ) : Type 0 where
  pub bits : ℕ
  pub is : mask ≡ 2 ^ bits - 1
  pub within : 2 ^ bits ≤ width
  pub greatest : width < 2 ^ (bits + 1)

mask_step : (n width : ℕ) (b : Bool) → nat_lt width (2 ^ n) ≡ b → width < 2 ^ (n + 1) → (width < 2 ^ n → IsMask width (mask_from n width)) → IsMask width (if b then mask_from n width else 2 ^ n - 1)
mask_step n width true e l h = h (grind (arith, nat_tests))
mask_step n width false e l h = record { bits = n; is = refl; within = grind (arith, nat_tests); greatest = l }

from_mask : (n width : ℕ) → 0 < width → width < 2 ^ n → IsMask width (mask_from n width)
unfolding mask_from
from_mask zero width some l = absurd (omega arith)
from_mask (suc n) width some l =
    let width_below_power : width < 2 ^ (n + 1) = rw add-one l in
    mask_step n width (nat_lt width (2 ^ n)) refl width_below_power (from_mask n width some)

pub mask_of-greatest : (width : ℕ) → 0 < width → width < 2 ^ 16 → IsMask width (mask_of width)
unfolding mask_of
mask_of-greatest width some l = from_mask 16 width some l
