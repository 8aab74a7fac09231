use Rattle.std.proofs.Common.{◌≡◌, ℕ, ◌+◌, false, Option, ap, sym, ◌∙◌, refl, arith}
use Rattle.picture_rules.specs.Words.{holds, holds_row}
use Rattle.visplanes.proofs.RunLemmas.{runs_from-off}
use Rattle.visplanes.proofs.row_runs.first_holding.Goals as goal

pub loop-x-preserved : goal.loop-x-preserved
unfolding holds
loop-x-preserved c =
    let not_held : holds c.args.plane.now c.args.row c.loop-x.x ≡ false =
    ap (λ (r : Option (ℕ × ℕ)). holds_row r c.args.row) (sym c.column.ensures.run) ∙ sym c.holds_row.ensures ∙ c.if-not-holds_row.true in
    record {
      same = runs_from-off c.args.plane.now c.args.row c.loop-x.x (c.loop-x.x + 1) refl (omega (arith, c.requires.wide)) not_held ∙ c.loop-x.invariant.same;
      within = omega arith;
    }

pub returns-else-not-holds_row-clause-holds : goal.returns-else-not-holds_row-clause-holds
unfolding holds
returns-else-not-holds_row-clause-holds c = λ l.
    ap (λ (r : Option (ℕ × ℕ)). holds_row r c.args.row) (sym c.column.ensures.run) ∙ sym c.holds_row.ensures ∙ c.if-not-holds_row.false
