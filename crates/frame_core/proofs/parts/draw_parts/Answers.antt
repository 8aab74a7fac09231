-- The view is placed and the bench started; a brush over what is lent is asked for the view.
use Rattle.picture_rules.proofs.Common.{ap, None, subst, sym, ◌∙◌, ◌≡◌}
use Rattle.frame_core.specs.Rules.{IsWithinFrame, Limits, view_over}
use Rattle.brush.specs.Works.{BrushNames, brush_now}
use Rattle.texture_build.specs.Paints.{paint_state}
use Rattle.texture_build.proofs.DrawLemmas.{mapped-err, mapped-ok}
use Rattle.sound_scene.specs.Pictures.{scene_of}
use Rattle.std.specs.Prelude.{Some}
use Rattle.frame_core.specs.{Faults.from_stop}
use Rattle.frame_core.specs.Views.{tools_scene}
use Rattle.frame_core.specs.Painters.{limits_in}
use Rattle.frame_core.proofs.{CanLemmas.can_count-drawable, CountLemmas.within-walked}
use Rattle.frame_core.proofs.PartLemmas.{view-by, view-value}
use Rattle.frame_core.proofs.PaintedLemmas.{can-painted, told-stopped, tools-are, view-listed, view-names, view-painted, view-taken}
use Rattle.frame_core.proofs.ViewLemmas.{in_view-walked, paints-placed}
use Rattle.frame_core.proofs.parts.draw_parts.Goals as goal
use Rattle.frame_core.proofs.parts.draw_parts.Goals.{After-paint_view}

pub start-requires : goal.start-requires
start-requires g c = can_count-drawable c.args.tools.now.dir.now.lumps c.args.tools.now.scene.now.scene c.args.tools.now.cache.now c.requires.drawable

pub paint_view-requires-clause-scene : goal.paint_view-requires-clause-scene
paint_view-requires-clause-scene g c = can_count-drawable c.args.tools.now.dir.now.lumps c.args.tools.now.scene.now.scene c.args.tools.now.cache.now c.requires.drawable

pub paint_view-requires-clause-listed : goal.paint_view-requires-clause-listed
paint_view-requires-clause-listed g c = λ b walked.
    let tools_now = c.args.tools.now in
    let state = paint_state (g.S.Shelf.view tools_now.shelf.now) tools_now.cache.now (g.C.Canvas.view c.place.new.self) in
    let can = can-painted (tools_scene tools_now) c.shape-shape.result (g.S.Shelf.view tools_now.shelf.now) (g.C.Canvas.view tools_now.canvas.now) (g.C.Canvas.view c.place.new.self) c.requires.drawable c.shape-shape.ensures.value c.shape-shape.ensures.frame c.place.ensures c.start.ensures.sound in
    view-listed (tools_scene tools_now) state (record { cache = 0; shelf = 0; canvas = 0 }) can b walked

pub paint_view-requires-clause-takes : goal.paint_view-requires-clause-takes
paint_view-requires-clause-takes g c =
    let tools_now = c.args.tools.now in
    let state = paint_state (g.S.Shelf.view tools_now.shelf.now) tools_now.cache.now (g.C.Canvas.view c.place.new.self) in
    let can = can-painted (tools_scene tools_now) c.shape-shape.result (g.S.Shelf.view tools_now.shelf.now) (g.C.Canvas.view tools_now.canvas.now) (g.C.Canvas.view c.place.new.self) c.requires.drawable c.shape-shape.ensures.value c.shape-shape.ensures.frame c.place.ensures c.start.ensures.sound in
    view-by (brush_now g.S.Shelf.view g.C.Canvas.view) _ (view-taken (tools_scene tools_now) state _ _
    (tools-are (tools_scene tools_now) c.textures.ensures c.colormap.ensures) can)

pub shape_of-tools : goal.shape_of-tools
shape_of-tools g c =
    sym (ap (λ (n : BrushNames). n.canvas) (view-names (tools_scene c.args.tools.now) _ _ c.paint_view.new.bench c.paint_view.result (view-value (brush_now g.S.Shelf.view g.C.Canvas.view) _ _ c.paint_view.result c.paint_view.ensures.asks)))

pub shape_of-tools-2 : goal.shape_of-tools-2
shape_of-tools-2 g c =
    sym (ap (λ (n : BrushNames). n.shelf) (view-names (tools_scene c.args.tools.now) _ _ c.paint_view.new.bench c.paint_view.result (view-value (brush_now g.S.Shelf.view g.C.Canvas.view) _ _ c.paint_view.result c.paint_view.ensures.asks)))

pub shape_of-tools-3 : goal.shape_of-tools-3
shape_of-tools-3 g c =
    sym (ap (λ (n : BrushNames). n.cache) (view-names (tools_scene c.args.tools.now) _ _ c.paint_view.new.bench c.paint_view.result (view-value (brush_now g.S.Shelf.view g.C.Canvas.view) _ _ c.paint_view.result c.paint_view.ensures.asks)))

pub returns-in_err-paint_view-clause-over : goal.returns-in_err-paint_view-clause-over
returns-in_err-paint_view-clause-over g c = λ bytes.
    let view_now = c.args.tools.now.view.now in
    let scene = scene_of bytes c.args.tools.now.scene.now.scene in
    told-stopped (λ over. view_over view_now scene (limits_in c.args.bench.now) ≡ Some over) c.in_err-paint_view.field-0.0 c.from_residual.result c.from_residual.ensures.1
    (rw c.start.ensures.limits at (c.in_err-paint_view.ensures.over bytes))

pub returns-in_err-paint_view-clause-paints : goal.returns-in_err-paint_view-clause-paints
returns-in_err-paint_view-clause-paints g c =
    let tools_now = c.args.tools.now in
    let can = can-painted (tools_scene tools_now) c.shape-shape.result (g.S.Shelf.view tools_now.shelf.now) (g.C.Canvas.view tools_now.canvas.now) (g.C.Canvas.view c.place.new.self) c.requires.drawable c.shape-shape.ensures.value c.shape-shape.ensures.frame c.place.ensures c.start.ensures.sound in
    paints-placed tools_now.view.now c.shape-shape.result (g.C.Canvas.view tools_now.canvas.now) (g.C.Canvas.view c.place.new.self) c.shape-shape.ensures.value c.place.ensures
    (view-painted (tools_scene tools_now) _ _ c.paint_view.new.bench c.paint_view.result c.from_residual.result (tools-are (tools_scene tools_now) c.textures.ensures c.colormap.ensures) can
    (mapped-err from_stop c.paint_view.result c.in_err-paint_view.field-0.0 c.from_residual.result c.in_err-paint_view.was c.from_residual.ensures.1)
    (view-value (brush_now g.S.Shelf.view g.C.Canvas.view) _ _ c.paint_view.result c.paint_view.ensures.asks)).paints

pub returns-clause-within : goal.returns-clause-within
returns-clause-within g c = λ bytes.
    let view_now = c.args.tools.now.view.now in
    let scene = c.args.tools.now.scene.now.scene in
    subst (λ (limits : Limits). view_over view_now (scene_of bytes scene) limits ≡ None) (c.in_ok-paint_view.ensures.limits ∙ c.start.ensures.limits)
    (within-walked view_now bytes scene c.paint_view.new.bench c.in_ok-paint_view.ensures.walked)

pub returns-clause-paints : goal.returns-clause-paints
returns-clause-paints g c =
    let tools_now = c.args.tools.now in
    let can = can-painted (tools_scene tools_now) c.shape-shape.result (g.S.Shelf.view tools_now.shelf.now) (g.C.Canvas.view tools_now.canvas.now) (g.C.Canvas.view c.place.new.self) c.requires.drawable c.shape-shape.ensures.value c.shape-shape.ensures.frame c.place.ensures c.start.ensures.sound in
    paints-placed tools_now.view.now c.shape-shape.result (g.C.Canvas.view tools_now.canvas.now) (g.C.Canvas.view c.place.new.self) c.shape-shape.ensures.value c.place.ensures
    (view-painted (tools_scene tools_now) _ _ c.paint_view.new.bench c.paint_view.result _ (tools-are (tools_scene tools_now) c.textures.ensures c.colormap.ensures) can
    (mapped-ok from_stop c.paint_view.result c.in_ok-paint_view.field-0 c.in_ok-paint_view.was)
    (view-value (brush_now g.S.Shelf.view g.C.Canvas.view) _ _ c.paint_view.result c.paint_view.ensures.asks)).paints

pub returns-clause-in_view : goal.returns-clause-in_view
returns-clause-in_view g c = λ bytes.
    in_view-walked c.args.tools.now.view.now bytes c.args.tools.now.scene.now.scene c.paint_view.new.bench (subst IsWithinFrame c.shape-shape.ensures.value c.shape-shape.ensures.frame) c.in_ok-paint_view.ensures.walked
