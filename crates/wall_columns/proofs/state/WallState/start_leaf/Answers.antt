-- A count past its limit is told.
use Rattle.std.proofs.Common.{◌∙◌}
use Rattle.wall_columns.proofs.OverLemmas.{over-passed_on}
use Rattle.wall_columns.proofs.state.WallState.start_leaf.Goals as goal

pub returns-in_err-enter_leaf-clause-limit : goal.returns-in_err-enter_leaf-clause-limit
returns-in_err-enter_leaf-clause-limit c = λ v walls s h.
    over-passed_on c.from_residual.result c.in_err-enter_leaf.field-0.0 c.from_residual.ensures.0 c.from_residual.ensures.1
    ∙ c.in_err-enter_leaf.ensures.limit v walls s h
