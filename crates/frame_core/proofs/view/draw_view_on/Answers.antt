use Rattle.std.proofs.Common.{OnOk, ap, ◌∙◌, rules, subst}
use Rattle.picture_rules.specs.Words.{AreInView, IsWithinFrame, view_paints, ViewValue}
use Rattle.sound_scene.specs.Pictures.{scene_of}
use Rattle.frame_core.specs.Workshops.{WorkshopView}
use Rattle.texture_build.proofs.DrawLemmas.{holds_art-later}
use Rattle.frame_core.proofs.EnoughLemmas.{complete-view, enough-view}
use Rattle.frame_core.proofs.ViewLemmas.{holds-back, over-at, paints-back, within-at}
use Rattle.frame_core.proofs.view.draw_view_on.Goals as goal

pub returns : goal.returns
returns g c =
    let parts_drawn = c.draw_parts.ensures in
    let new_tools = c.draw_parts.new.tools in
    let scene = c.args.scene.now.scene in
    let limits = ap (λ (w : WorkshopView). w.limits) c.shop.view_is in
    record {
      within = λ bytes. within-at c.draw_parts.result _ _ (scene_of bytes scene) _ _ c.new-view.ensures limits (parts_drawn.within bytes);
      over = λ bytes. over-at c.draw_parts.result _ _ (scene_of bytes scene) _ _ c.new-view.ensures limits (parts_drawn.over bytes);
      paints = paints-back g.S.Shelf.view g.C.Canvas.view (g.C.Canvas.view c.args.canvas.now) _ _ scene c.args.dir.now _ new_tools.shelf.now _ new_tools.cache.now _ new_tools.canvas.now c.new-view.ensures (search rules) (search rules) (search rules) parts_drawn.paints;
      in_view = λ bytes. subst (λ (v : ViewValue). OnOk c.draw_parts.result (AreInView v.shape (view_paints v (scene_of bytes scene)))) c.new-view.ensures (parts_drawn.in_view bytes);
      window = subst (λ (v : ViewValue). IsWithinFrame v.shape) c.new-view.ensures parts_drawn.frame;
      enough = λ contents count hold same room. enough-view c.requires contents count hold same room c.draw_parts.result parts_drawn.paints.draws;
      complete = λ contents count hold same room. complete-view c.requires contents count hold same room c.draw_parts.result parts_drawn.paints.draws;
      again = λ contents count hold. holds-back g.S.Shelf.view _ new_tools.shelf.now _ new_tools.cache.now (search rules) (search rules) (holds_art-later parts_drawn.paints.draws.keeps hold);
      limits = parts_drawn.limits ∙ limits;
      frame = ap (λ (w : WorkshopView). w.frame) c.shop.view_is;
    }
