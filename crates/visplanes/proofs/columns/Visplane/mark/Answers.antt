use Rattle.picture_rules.proofs.Common.{ap, arith, max, subst, sym, ℕ, ◌∙◌, set}
use Rattle.picture_rules.specs.Words.{Plane, with_run}
use Rattle.visplanes.specs.Columns.{IsKept}
use Rattle.visplanes.proofs.ColumnLemmas.{plane_of-marked, kept-more}
use Rattle.visplanes.proofs.columns.Visplane.mark.Goals as goal

pub invariant_of-self : goal.invariant_of-self
invariant_of-self c =
    let fields = c.self.inside in
    let tops = set fields.tops c.args.x c.args.top in
    let bottoms = set fields.bottoms c.args.x c.args.bottom in
    let rows_kept = kept-more fields.tops fields.bottoms fields.first fields.last c.args.x c.args.top c.args.bottom c.self.invariant c.requires.column c.requires.ordered c.requires.row in
    subst (λ (last : ℕ). IsKept tops bottoms c.min-self-inside.result last) (sym c.max-self-inside.ensures)
    (subst (λ (first : ℕ). IsKept tops bottoms first (max fields.last c.args.x)) (sym c.min-self-inside.ensures) rows_kept)

pub returns : goal.returns
returns c =
    let fields = c.self.inside in
    plane_of-marked fields.key fields.tops fields.bottoms c.args.x c.args.top c.args.bottom c.self.invariant.top_bytes c.self.invariant.bottom_bytes c.requires.column (λ e. absurd (omega (arith, e)))
    ∙ ap (λ (p : Plane). with_run p c.args.x (c.args.top, c.args.bottom)) c.self.view_is
