use Rattle.word_rules.proofs.Common.{arith, ints}
use Rattle.view_frame.proofs.BearingLemmas.{column_of_angle-bound}
use Rattle.view_frame.proofs.view.View.column_at_angle.Goals as goal

-- a column of the frame fits
pub overflow_cast-result : goal.overflow_cast-result
overflow_cast-result c =
    let column_bound = column_of_angle-bound c.self.inside.tables.now.angles c.self.inside.tables.now.size c.fine_angle.result in
    omega (arith, ints, c.column_of_angle.ensures)
