-- The value of each constant that a clause or a definition cites, by evaluation.
use Rattle.std.specs.Prelude.{pos, refl, ◌≡◌}
use Rattle.word_rules.specs.declared.TheConstants.{ANG180, ANG270, ANG45, ANG90, FINE_ANGLES, FINE_SHIFT, FRACTION_BITS, FRACTION_UNIT, HALF_SIZE, MIN_SLOPE_DIVISOR, QUOTIENT_BITS, SLOPE_DIVIDEND_SHIFT, SLOPE_DIVISOR_SHIFT, SLOPE_STEPS, WORD_SIZE}

-- src/lib.rt
half_size_row : HALF_SIZE ≡ 2
half_size_row = refl

word_size_row : WORD_SIZE ≡ 4
word_size_row = refl

fraction_bits_row : FRACTION_BITS ≡ 16
fraction_bits_row = refl

fraction_unit_row : FRACTION_UNIT ≡ pos 65536
fraction_unit_row = refl

quotient_bits_row : QUOTIENT_BITS ≡ 14
quotient_bits_row = refl

slope_steps_row : SLOPE_STEPS ≡ 2048
slope_steps_row = refl

min_slope_divisor_row : MIN_SLOPE_DIVISOR ≡ 512
min_slope_divisor_row = refl

slope_dividend_shift_row : SLOPE_DIVIDEND_SHIFT ≡ 3
slope_dividend_shift_row = refl

slope_divisor_shift_row : SLOPE_DIVISOR_SHIFT ≡ 8
slope_divisor_shift_row = refl

fine_shift_row : FINE_SHIFT ≡ 19
fine_shift_row = refl

fine_angles_row : FINE_ANGLES ≡ 8192
fine_angles_row = refl

ang45_row : ANG45 ≡ 536870912
ang45_row = refl

ang90_row : ANG90 ≡ 1073741824
ang90_row = refl

ang180_row : ANG180 ≡ 2147483648
ang180_row = refl

ang270_row : ANG270 ≡ 3221225472
ang270_row = refl
