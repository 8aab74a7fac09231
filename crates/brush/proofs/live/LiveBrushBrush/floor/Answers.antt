-- A plane after others, by what painting it leaves.
use Rattle.picture_rules.proofs.Common.{refl}
use Rattle.std.proofs.Common.{rules}
use Rattle.brush.specs.{Strips.Floor, Values.floor_value, Works.brush_now}
use Rattle.receiver_rules.proofs.ReceiverLemmas.{receives-by}
use Rattle.brush.proofs.WorkLemmas.{strip-received}
use Rattle.brush.proofs.live.LiveBrushBrush.floor.Goals as goal

pub returns : goal.returns
returns g c =
    let same = c.paint_floor.ensures.same in
    receives-by (brush_now g.S.Shelf.view g.C.Canvas.view) _ _ c.paint_floor.result
    (strip-received _ _ (Floor (floor_value c.args.strip.now)) c.paint_floor.result refl (search rules) c.paint_floor.ensures.paints)
