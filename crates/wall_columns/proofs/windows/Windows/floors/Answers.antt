-- The clips that are lent are those of the columns.
use Rattle.std.proofs.Common.{arith}
use Rattle.wall_columns.proofs.PartLemmas.{floors-lent}
use Rattle.wall_columns.proofs.windows.Windows.floors.Goals as goal

pub returns-clause-value : goal.returns-clause-value
returns-clause-value c =
    let all_floors = c.self.invariant.floor_columns in
    floors-lent c.args.self.now c.self.inside.ceiling_clips c.self.inside.floor_clips c.self.inside.height c.args.first c.args.last c.self.view_is (omega arith)
