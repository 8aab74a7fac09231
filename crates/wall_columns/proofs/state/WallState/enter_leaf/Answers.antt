-- A leaf is entered.
use Rattle.std.proofs.Common.{length, ◌∙◌}
use Rattle.wall_columns.proofs.BuiltLemmas.{built-inside, built-leaf, built-now}
use Rattle.wall_columns.proofs.OverLemmas.{on_ok, step_over-leaf}
use Rattle.wall_columns.proofs.state.WallState.enter_leaf.Goals as goal

pub returns-clause-built : goal.returns-clause-built
returns-clause-built c = λ v walls s h.
    let inside = built-inside v walls s c.self.inside.notes.items c.self.inside.columns c.args.planes.now c.self.view_is h in
    on_ok c.enter.result (λ found.
    built-leaf v walls s c.self.inside.notes.items c.self.inside.columns c.enter.new.self c.args.planes.now c.enter.new.planes c.args.leaf.floor c.args.leaf.ceiling inside
    found c.enter.ensures.windows c.enter.ensures.openings)
    (c.enter.ensures.ok s (built-now v walls s c.self.inside.notes.items c.self.inside.columns c.args.planes.now inside))

pub returns-clause-limit : goal.returns-clause-limit
returns-clause-limit c = λ v walls s h.
    let inside = built-inside v walls s c.self.inside.notes.items c.self.inside.columns c.args.planes.now c.self.view_is h in
    c.enter.ensures.limit s (built-now v walls s c.self.inside.notes.items c.self.inside.columns c.args.planes.now inside)
    ∙ step_over-leaf c.args.self.now c.args.planes.now s (length c.args.self.now.openings) c.args.leaf.floor c.args.leaf.ceiling
