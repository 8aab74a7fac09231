-- The cleared frame is the canvas.
use Rattle.std.proofs.Common.{◌≡◌, OnOk, ap, rules, subst, ◌∙◌}
use Rattle.frame_core.specs.Rules.{IsWithinFrame, ViewValue, lump_bytes, picture, view_of, view_paints}
use Rattle.pixel_strips.specs.Canvases.{CanvasView}
use Rattle.sound_scene.specs.{Sound.textures_view, Pictures.scene_of}
use Rattle.texture_build.specs.Draws.{FitBeside}
use Rattle.frame_core.specs.Workshops.{WorkshopView}
use Rattle.texture_build.proofs.DrawLemmas.{holds_art-later}
use Rattle.frame_core.proofs.EnoughLemmas.{complete-view, enough-view}
use Rattle.frame_core.proofs.ViewLemmas.{holds-back, over-at, pictured}
use Rattle.frame_core.proofs.view.draw_view.Goals as goal

pub returns-clause-picture : goal.returns-clause-picture
returns-clause-picture g c = λ contents count hold.
    let scene = scene_of (lump_bytes contents c.args.dir.now.lumps) c.args.scene.now.scene in
    let cleared = ap (λ (f : CanvasView). f.cells) c.clear.ensures in
    subst (λ (v : ViewValue). OnOk c.draw_parts.result (c.draw_parts.new.tools.canvas.now.cells ≡ picture v scene)) c.new-view.ensures
    (pictured c.new-view.result scene c.clear.new.self c.draw_parts.new.tools.canvas.now c.draw_parts.result c.draw_parts.ensures.frame cleared
    (c.draw_parts.ensures.in_view (lump_bytes contents c.args.dir.now.lumps)) (c.draw_parts.ensures.paints.painted contents count tt hold tt))

pub returns-clause-fits : goal.returns-clause-fits
returns-clause-fits g c = λ contents count hold.
    let scene_now = c.args.scene.now.scene in
    let dir = c.args.dir.now in
    subst (λ (v : ViewValue). OnOk c.draw_parts.result (FitBeside dir.lumps (textures_view scene_now) scene_now.base.colormap count c.args.cache.now.size (view_paints v (scene_of (lump_bytes contents dir.lumps) scene_now)))) c.new-view.ensures
    (c.draw_parts.ensures.paints.fits contents count tt hold tt)

pub returns-clause-over : goal.returns-clause-over
returns-clause-over g c = λ bytes.
    over-at c.draw_parts.result c.new-view.result (view_of c.args.tables.now c.args.eye) (scene_of bytes c.args.scene.now.scene) _ _ c.new-view.ensures (ap (λ (w : WorkshopView). w.limits) c.shop.view_is)
    (c.draw_parts.ensures.over bytes)

pub returns-clause-enough : goal.returns-clause-enough
returns-clause-enough g c = λ contents count hold same room.
    enough-view c.requires contents count hold same room c.draw_parts.result c.draw_parts.ensures.paints.draws

pub returns-clause-complete : goal.returns-clause-complete
returns-clause-complete g c = λ contents count hold same room.
    complete-view c.requires contents count hold same room c.draw_parts.result c.draw_parts.ensures.paints.draws

pub returns-clause-again : goal.returns-clause-again
returns-clause-again g c = λ contents count hold. holds-back g.S.Shelf.view _ c.draw_parts.new.tools.shelf.now _ c.draw_parts.new.tools.cache.now (search rules) (search rules) (holds_art-later c.draw_parts.ensures.paints.draws.keeps hold)

-- the canvas stands where the view lies in the frame
pub returns-clause-left : goal.returns-clause-left
returns-clause-left g c = c.draw_parts.ensures.paints.place.left ∙ ap (λ (v : ViewValue). v.shape.left) c.new-view.ensures

pub returns-clause-top : goal.returns-clause-top
returns-clause-top g c = c.draw_parts.ensures.paints.place.top ∙ ap (λ (v : ViewValue). v.shape.top) c.new-view.ensures

pub returns-clause-window : goal.returns-clause-window
returns-clause-window g c = subst (λ (v : ViewValue). IsWithinFrame v.shape) c.new-view.ensures c.draw_parts.ensures.frame
