-- A strip after others, by what painting it leaves.
use Rattle.picture_rules.proofs.Common.{refl}
use Rattle.std.proofs.Common.{rules}
use Rattle.brush.specs.{Strips.Texture, Works.brush_now}
use Rattle.receiver_rules.proofs.ReceiverLemmas.{receives-by}
use Rattle.brush.proofs.WorkLemmas.{strip-received}
use Rattle.brush.proofs.live.LiveBrushBrush.texture.Goals as goal

pub returns : goal.returns
returns g c =
    let same = c.paint_texture.ensures.same in
    receives-by (brush_now g.S.Shelf.view g.C.Canvas.view) _ _ c.paint_texture.result
    (strip-received _ _ (Texture c.args.strip.now) c.paint_texture.result refl (search rules) c.paint_texture.ensures.paints)
