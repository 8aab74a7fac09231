use Rattle.picture_rules.proofs.Common.{ap, IsSome, length, refl, subst, sym, ◌∙◌}
use Rattle.picture_rules.specs.Words.{column, holds, Plane}
use Rattle.visplanes.proofs.ColumnLemmas.{kept-before, kept-behind, kept-last, kept-marked, kept-run, length-runs_of}
use Rattle.visplanes.proofs.columns.Visplane.marked.Goals as goal

pub returns-clause-least : goal.returns-clause-least
returns-clause-least c = λ some.
    let fields = c.self.inside in
    subst (λ (p : Plane). IsSome (column p fields.first)) c.self.view_is
    (subst IsSome (sym (kept-run fields.key fields.tops fields.bottoms fields.first fields.last c.self.invariant some)) refl)

pub returns-clause-greatest : goal.returns-clause-greatest
returns-clause-greatest c = λ some.
    let fields = c.self.inside in
    subst (λ (p : Plane). IsSome (column p fields.last)) c.self.view_is
    (subst IsSome (sym (kept-last fields.key fields.tops fields.bottoms fields.first fields.last c.self.invariant some)) refl)

pub returns-clause-before : goal.returns-clause-before
returns-clause-before c = λ x l.
    let fields = c.self.inside in
    ap (λ (p : Plane). column p x) (sym c.self.view_is) ∙ kept-before fields.key fields.tops fields.bottoms fields.first fields.last x c.self.invariant l

pub returns-clause-behind : goal.returns-clause-behind
returns-clause-behind c = λ x l.
    let fields = c.self.inside in
    ap (λ (p : Plane). column p x) (sym c.self.view_is) ∙ kept-behind fields.key fields.tops fields.bottoms fields.first fields.last x c.self.invariant l

pub returns-clause-pixels : goal.returns-clause-pixels
returns-clause-pixels c = λ x y h.
    let fields = c.self.inside in
    kept-marked fields.key fields.tops fields.bottoms fields.first fields.last x y c.self.invariant (ap (λ (p : Plane). holds p y x) c.self.view_is ∙ h)

pub returns-clause-wide : goal.returns-clause-wide
returns-clause-wide c = ap (λ (p : Plane). length p.runs) (sym c.self.view_is) ∙ length-runs_of c.self.inside.tops c.self.inside.bottoms
