-- A view is started.
use Rattle.std.proofs.Common.{ap}
use Rattle.wall_columns.specs.Saved.{OpeningsView}
use Rattle.wall_columns.proofs.BuiltLemmas.{built-start}
use Rattle.wall_columns.proofs.state.WallState.start_view.Goals as goal

pub returns-clause-built : goal.returns-clause-built
returns-clause-built c = λ v e l.
    built-start v c.clear.new.self.items c.start.new.self c.args.height c.clear.ensures.items (ap (λ (o : OpeningsView). o.saved) c.start.ensures.openings)
    c.start.ensures.windows c.start.ensures.height c.start.ensures.floor c.start.ensures.ceiling e l
