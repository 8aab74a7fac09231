use Rattle.std.proofs.Common.{ap, ◌∙◌}
use Rattle.picture_rules.specs.Words.{holds, Plane}
use Rattle.visplanes.proofs.ColumnLemmas.{kept-frame}
use Rattle.visplanes.proofs.columns.Visplane.key.Goals as goal

pub returns-clause-frame : goal.returns-clause-frame
returns-clause-frame c = λ x y h.
    let fields = c.self.inside in
    kept-frame fields.key fields.tops fields.bottoms fields.first fields.last x y c.self.invariant (ap (λ (p : Plane). holds p y x) c.self.view_is ∙ h)
