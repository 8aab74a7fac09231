use Rattle.std.proofs.Common.{◌≡◌, ◌<◌, ◌^◌, true, drop}
use Rattle.std.specs.Str.{all_ascii_digits}
use Rattle.numerals.specs.Numerals.{digits_after}
use Rattle.numerals.proofs.value_of.Given as goal

abbrev pub invariant-loop-digit : goal.invariant-loop-digit
invariant-loop-digit l = (digits_after l.value (drop l.digit-index l.digits) ≡ digits_after 0 l.digits)
    × (l.value < 10 ^ l.digit-index)
    × (all_ascii_digits (drop l.digit-index l.digits) ≡ true)
