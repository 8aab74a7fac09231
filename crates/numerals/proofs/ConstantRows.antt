-- The value of each constant that a clause or a definition cites, by evaluation.
use Rattle.std.specs.Prelude.{refl, ◌≡◌}
use Rattle.numerals.specs.declared.TheConstants.{MAX_DIGITS}

-- src/lib.rt
max_digits_row : MAX_DIGITS ≡ 10
max_digits_row = refl
