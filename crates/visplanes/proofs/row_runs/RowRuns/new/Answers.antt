use Rattle.picture_rules.proofs.Common.{arith, false_from_ne_true}
use Rattle.picture_rules.specs.Words.{holds}
use Rattle.visplanes.proofs.RunLemmas.{row_runs-skipped}
use Rattle.visplanes.proofs.row_runs.RowRuns.new.Goals as goal

pub returns : goal.returns
returns c =
    let marked_range = c.marked-at.ensures in
    row_runs-skipped c.args.plane.now c.args.row _ marked_range.wide marked_range.first
    (λ k l. false_from_ne_true (holds c.args.plane.now c.args.row k) (λ t. absurd (omega (arith, l, (marked_range.pixels k c.args.row t).0))))
