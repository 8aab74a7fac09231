-- The bench that the view was walked in is counted.
use Rattle.picture_rules.proofs.Common.{ap, ◌∙◌}
use Rattle.frame_core.specs.Workshops.{WorkshopView}
use Rattle.frame_core.proofs.CountLemmas.{counts-view, few-notes, within-view}
use Rattle.frame_core.proofs.view.count_view.Goals as goal

pub counts-requires : goal.counts-requires
counts-requires c = few-notes c.new-view.result c.args.scene.now.scene c.count_walls.new.bench c.in_ok-count_walls.ensures.walked

pub returns-clause-counts : goal.returns-clause-counts
returns-clause-counts c =
    counts-view c.new-view.result _ c.args.scene.now.scene c.count_walls.new.bench c.counts.result c.new-view.ensures c.counts.ensures.value c.in_ok-count_walls.ensures.walked

pub returns-clause-within : goal.returns-clause-within
returns-clause-within c =
    within-view c.new-view.result _ c.args.scene.now.scene c.count_walls.new.bench _ c.new-view.ensures
    (c.in_ok-count_walls.ensures.limits ∙ c.start.ensures.limits ∙ ap (λ (w : WorkshopView). w.limits) c.shop.view_is) c.in_ok-count_walls.ensures.walked
