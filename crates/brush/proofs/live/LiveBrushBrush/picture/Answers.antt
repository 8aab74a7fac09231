-- A picture after others, by what painting it leaves.
use Rattle.picture_rules.proofs.Common.{refl}
use Rattle.std.proofs.Common.{rules}
use Rattle.brush.specs.{Strips.Picture, Values.picture_value, Works.brush_now}
use Rattle.receiver_rules.proofs.ReceiverLemmas.{receives-by}
use Rattle.brush.proofs.WorkLemmas.{strip-received}
use Rattle.brush.proofs.live.LiveBrushBrush.picture.Goals as goal

pub returns : goal.returns
returns g c =
    receives-by (brush_now g.S.Shelf.view g.C.Canvas.view) _ _ c.paint_picture.result
    (strip-received _ _ (Picture (picture_value c.args.strip.now)) c.paint_picture.result refl (search rules) (c.paint_picture.ensures _ refl refl))
