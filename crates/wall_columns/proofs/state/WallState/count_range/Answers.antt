-- A count past its limit is told.
use Rattle.std.proofs.Common.{ap, sym, ◌∙◌}
use Rattle.wall_columns.specs.Faults.{limit_of_fault, over_of_stop}
use Rattle.wall_columns.proofs.OverLemmas.{over-in, over-told}
use Rattle.wall_columns.proofs.state.WallState.count_range.Goals as goal

pub returns-in-Err-Over-clause-limit : goal.returns-in-Err-Over-clause-limit
returns-in-Err-Over-clause-limit c = λ walls s h few.
    ap limit_of_fault c.from.ensures ∙ over-told c.in-Err-Over.over
    ∙ sym (over-in c.in-Err-Over.field-0 c.in-Err-Over.over c.in-Err-Over.field-0-is) ∙ sym (ap over_of_stop c.in-Err-Over.is)
    ∙ c.draw_range.ensures.limit walls s h few
