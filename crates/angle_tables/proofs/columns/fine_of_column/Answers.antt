use Rattle.std.proofs.Common.{rules, ◌≡◌, ◌<◌, arith}
use Rattle.view_rules.specs.Tables.{fine_of_column}
use Rattle.angle_tables.proofs.SweepLemmas.{fine_of_column-below}
use Rattle.angle_tables.proofs.columns.fine_of_column.Goals as goal

-- no fine angle below the found one is seen at x or further left
pub returns-clause-before : goal.returns-clause-before
returns-clause-before c =
    λ k left h l.
    let fine_angle_is : c.unwrap_or.result ≡ fine_of_column c.args.t.now c.args.shape c.args.x = unfold fine_of_column in search rules in
    let below_fine_angle : k < fine_of_column c.args.t.now c.args.shape c.args.x = omega arith in
    fine_of_column-below c.args.t.now c.args.shape c.args.x k left below_fine_angle l
