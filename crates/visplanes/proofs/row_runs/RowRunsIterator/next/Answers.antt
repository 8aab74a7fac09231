use Rattle.std.proofs.Common.{sym, ◌∙◌, arith}
use Rattle.visplanes.proofs.RunLemmas.{runs_from-past}
use Rattle.visplanes.proofs.row_runs.RowRunsIterator.next.Goals as goal

pub returns-then-first-ge-FRAME_WIDTH-clause-steps : goal.returns-then-first-ge-FRAME_WIDTH-clause-steps
returns-then-first-ge-FRAME_WIDTH-clause-steps c =
    let fields = c.self.inside in
    let no_runs = runs_from-past fields.plane.now fields.row c.first_holding-first.result (omega (arith, c.self.invariant.1, c.if-first-ge-FRAME_WIDTH.true)) in
    (sym c.self.view_is ∙ sym c.first_holding-first.ensures.same ∙ no_runs, no_runs)
