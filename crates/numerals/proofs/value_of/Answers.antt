use Rattle.std.proofs.Common.{◌<◌, length, get_or, sym, rules, ◌∙◌}
use Rattle.numerals.proofs.NumeralLemmas.{digits_after-step, all_digits-step, digit-room, digits_after-done, and-parts, digit-low}
use Rattle.numerals.proofs.value_of.Goals as goal

pub loop-digit-preserved : goal.loop-digit-preserved
loop-digit-preserved c =
    let so_far = c.loop-digit.invariant in
    let inside : c.loop-digit.digit-index < length c.args.digits.now = search rules in
    let digit_and_before = and-parts _ _ (sym (all_digits-step c.args.digits.now c.loop-digit.digit-index inside) ∙ so_far.2) in
    let low = digit-low (get_or c.args.digits.now c.loop-digit.digit-index 0) digit_and_before.0 in (
      sym (digits_after-step c.loop-digit.value c.args.digits.now c.loop-digit.digit-index inside) ∙ so_far.0,
      digit-room c.loop-digit.value c.loop-digit.digit-index _ so_far.1 low.1,
      digit_and_before.1,
    )

pub returns-clause-value : goal.returns-clause-value
returns-clause-value c =
    let so_far = c.loop-digit.invariant in
    digits_after-done c.loop-digit.value c.args.digits.now c.loop-digit.digit-index (search rules) so_far.0
