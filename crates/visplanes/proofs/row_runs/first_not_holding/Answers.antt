use Rattle.picture_rules.proofs.Common.{ap, arith, cases_lt, false, inl, inr, Option, sym, true, ℕ, ◌∙◌, ◌≡◌}
use Rattle.picture_rules.specs.Words.{holds, holds_row}
use Rattle.visplanes.proofs.RunLemmas.{runs_from-run}
use Rattle.visplanes.proofs.row_runs.first_not_holding.Goals as goal

pub loop-x-preserved : goal.loop-x-preserved
unfolding holds
loop-x-preserved c =
    let plane = c.args.plane.now in
    let row = c.args.row in
    let this_x = c.loop-x.x in
    let plane_holds_here : holds plane row this_x ≡ true =
    ap (λ (r : Option (ℕ × ℕ)). holds_row r row) (sym c.column.ensures.run) ∙ sym c.holds_row.ensures ∙ c.if-holds_row.true in
    record {
      held = λ k a b. elim (cases_lt k this_x) [ inl l ↦ c.loop-x.invariant.held k a l | inr m ↦ (let is_here : k ≡ this_x = omega arith in ap (λ (i : ℕ). holds plane row i) is_here ∙ plane_holds_here) ];
      after = omega (arith, c.loop-x.invariant.after);
      within = omega arith;
    }

pub returns-else-holds_row-clause-run : goal.returns-else-holds_row-clause-run
unfolding holds
returns-else-holds_row-clause-run c =
    let not_held : holds c.args.plane.now c.args.row c.loop-x.x ≡ false =
    ap (λ (r : Option (ℕ × ℕ)). holds_row r c.args.row) (sym c.column.ensures.run) ∙ sym c.holds_row.ensures ∙ c.if-holds_row.false in
    runs_from-run c.args.plane.now c.args.row c.args.first c.loop-x.x c.loop-x.invariant.after (omega (arith, c.requires.wide, c.loop-x.invariant.within)) c.loop-x.invariant.held (inr not_held)

pub returns-after-loop-x-clause-run : goal.returns-after-loop-x-clause-run
returns-after-loop-x-clause-run c =
    runs_from-run c.args.plane.now c.args.row c.args.first c.loop-x.x c.loop-x.invariant.after (omega (arith, c.requires.wide, c.loop-x.invariant.within)) c.loop-x.invariant.held
    (inl (omega (arith, c.requires.wide, c.loop-x.invariant.within)))
