use Rattle.picture_rules.proofs.Common.{arith, cases_lt, inl, inr, ◌∙◌}
use Rattle.visplanes.proofs.RowLemmas.{is_in-parts, is_in-not}
use Rattle.visplanes.proofs.draw.open_rows.Goals as goal

pub returns-clause-kept : goal.returns-clause-kept
returns-clause-kept c = λ y h.
    let bounds = is_in-parts c.args.before y h in
    c.set_starts-2.ensures.below y (omega (arith, bounds.1, c.max.ensures)) ∙ c.set_starts.ensures.above y (omega (arith, bounds.0, c.min.ensures))

pub returns-clause-opened : goal.returns-clause-opened
returns-clause-opened c = λ y h n.
    let bounds = is_in-parts c.args.now y h in
    elim (is_in-not c.args.before y n) [
      | inr a ↦ c.set_starts-2.ensures.set y (omega (arith, bounds.0, c.max.ensures)) bounds.1
      | inl a ↦ elim (cases_lt y c.max.result) [
        | inl b ↦ c.set_starts-2.ensures.below y b ∙ c.set_starts.ensures.set y bounds.0 (omega (arith, bounds.1, c.min.ensures))
        | inr b ↦ c.set_starts-2.ensures.set y b bounds.1
      ]
    ]
