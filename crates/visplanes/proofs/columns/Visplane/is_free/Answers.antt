use Rattle.picture_rules.proofs.Common.{ap, arith, cases_Bool, inl, inr, sym, ◌∙◌}
use Rattle.picture_rules.specs.Words.{is_free, Plane}
use Rattle.visplanes.proofs.ColumnLemmas.{kept-free, kept-taken}
use Rattle.visplanes.proofs.columns.Visplane.is_free.Goals as goal

pub returns : goal.returns
returns c =
    let fields = c.self.inside in
    let first_column = c.args.first in
    let last_column = c.args.last in
    elim (cases_Bool c.are_unmarked.result) [
      | inl t ↦
          t ∙ sym (kept-free fields.tops fields.bottoms fields.first fields.last first_column last_column c.self.invariant c.requires.within
          (λ x l m. c.are_unmarked.ensures.free t x (omega (arith, c.max.ensures)) (omega (arith, c.min.ensures))))
          ∙ ap (λ (p : Plane). is_free p.runs first_column last_column) c.self.view_is
      | inr f ↦
          f ∙ sym (kept-taken fields.tops fields.bottoms fields.first fields.last first_column last_column c.requires.within
          (let column_taken = c.are_unmarked.ensures.taken f in record { x = column_taken.x; from = omega (arith, column_taken.from, c.max.ensures); to = omega (arith, column_taken.to, c.min.ensures); run = column_taken.run }))
          ∙ ap (λ (p : Plane). is_free p.runs first_column last_column) c.self.view_is
    ]
