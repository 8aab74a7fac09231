use Rattle.picture_rules.proofs.Common.{ap, arith, cases_eq, eq-eqb, eqb-true, inl, inr, None, sym, ◌<◌, ◌∙◌, ◌≡◌}
use Rattle.picture_rules.specs.Words.{column, FRAME_WIDTH, Plane}
use Rattle.visplanes.specs.Columns.{plane_of}
use Rattle.visplanes.proofs.ColumnLemmas.{kept-blank, kept-run}
use Rattle.visplanes.proofs.columns.Visplane.is_empty.Goals as goal

pub returns : goal.returns
returns c =
    let fields = c.self.inside in (
      λ e x. sym (ap (λ (p : Plane). column p x) c.self.view_is) ∙ kept-blank fields.key fields.tops fields.bottoms fields.first fields.last x c.self.invariant (eqb-true fields.first FRAME_WIDTH e),
      λ h. elim (cases_eq fields.first FRAME_WIDTH) [
        | inl e ↦ eq-eqb fields.first FRAME_WIDTH e
        | inr n ↦
            (let is_marked : fields.first < FRAME_WIDTH = omega (arith, n, c.self.invariant.start) in
            let first_is_held = kept-run fields.key fields.tops fields.bottoms fields.first fields.last c.self.invariant is_marked in
            let no_column : column (plane_of fields.key fields.tops fields.bottoms) fields.first ≡ None =
            ap (λ (p : Plane). column p fields.first) c.self.view_is ∙ h fields.first in
            absurd (cc))
      ],
    )
