-- The bench and the list that the view was walked in are counted and listed.
use Rattle.picture_rules.proofs.Common.{ap, arith, length, List, subst, ◌∙◌, ◌≡◌}
use Rattle.frame_core.specs.Rules.{PlaneMaker, ViewListValue, ViewValue, view_list}
use Rattle.sound_scene.specs.Pictures.{scene_of}
use Rattle.frame_core.specs.{ViewLists.listed_planes, Workshops.WorkshopView}
use Rattle.frame_core.proofs.CountLemmas.{counts-view, few-notes, within-view}
use Rattle.frame_core.proofs.ListerLemmas.{makers-as_many, view-listed}
use Rattle.frame_core.proofs.list.list_view.Goals as goal

pub list_planes-requires-clause-makers : goal.list_planes-requires-clause-makers
list_planes-requires-clause-makers c =
    let as_many_makers = makers-as_many c.new-view.result c.args.scene.now.scene c.list_walls.new.bench c.list_walls.new.list c.in_ok-list_walls.ensures.counted.walked c.in_ok-list_walls.ensures.listed in
    omega (arith, as_many_makers, ap (λ (makers : List PlaneMaker). length makers) c.makers.ensures)

pub counts-counts-requires : goal.counts-counts-requires
counts-counts-requires c = few-notes c.new-view.result c.args.scene.now.scene c.list_walls.new.bench c.in_ok-list_walls.ensures.counted.walked

pub returns-clause-counts : goal.returns-clause-counts
returns-clause-counts c =
    counts-view c.new-view.result _ c.args.scene.now.scene c.list_walls.new.bench c.counts-counts.result c.new-view.ensures c.counts-counts.ensures.value c.in_ok-list_walls.ensures.counted.walked

pub returns-clause-within : goal.returns-clause-within
returns-clause-within c =
    within-view c.new-view.result _ c.args.scene.now.scene c.list_walls.new.bench _ c.new-view.ensures
    (c.in_ok-list_walls.ensures.counted.limits ∙ c.start.ensures.limits ∙ ap (λ (w : WorkshopView). w.limits) c.shop.view_is) c.in_ok-list_walls.ensures.counted.walked

pub returns-clause-list : goal.returns-clause-list
returns-clause-list c = λ bytes.
    let scene = c.args.scene.now.scene in
    let bench = c.list_walls.new.bench in
    let walk = c.list_walls.new.list in
    let planes = c.list_planes.new.listed.items in
    let whole_list : ViewListValue = record { fragments = walk.fragments; planes = planes; sprites = walk.sprites; all_fragments = walk.all_fragments; all_sprites = walk.all_sprites } in
    subst (λ (v : ViewValue). whole_list ≡ view_list v (scene_of bytes scene)) c.new-view.ensures
    (view-listed c.new-view.result bytes scene bench walk planes c.in_ok-list_walls.ensures.counted.walked c.in_ok-list_walls.ensures.listed
    (c.list_planes.ensures.items ∙ ap (listed_planes bench.planes.planes) c.makers.ensures))
