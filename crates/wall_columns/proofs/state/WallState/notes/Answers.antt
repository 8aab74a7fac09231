-- What the masked pass asks of the notes.
use Rattle.std.proofs.Common.{ap, arith, length}
use Rattle.wall_columns.specs.Walls.{WallsView}
use Rattle.wall_columns.proofs.NotedLemmas.{noted-view, backs-view}
use Rattle.wall_columns.proofs.state.WallState.notes.Goals as goal

pub returns-clause-noted : goal.returns-clause-noted
returns-clause-noted c = λ v walls s width height h.
    let notes = ap (λ (w : WallsView). length w.notes) c.self.view_is in
    noted-view v walls c.args.self.now.notes c.args.self.now.openings h.notes h.openings (omega arith) height h.drawn

pub returns-clause-backs : goal.returns-clause-backs
returns-clause-backs c = λ v walls s h. backs-view v walls c.args.self.now.notes h.notes h.drawn
