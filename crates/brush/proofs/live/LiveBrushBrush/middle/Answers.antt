-- A masked column after others, by what painting it leaves.
use Rattle.picture_rules.proofs.Common.{refl}
use Rattle.std.proofs.Common.{rules}
use Rattle.brush.specs.{Strips.Middle, Works.brush_now}
use Rattle.receiver_rules.proofs.ReceiverLemmas.{receives-by}
use Rattle.brush.proofs.WorkLemmas.{strip-received}
use Rattle.brush.proofs.live.LiveBrushBrush.middle.Goals as goal

pub returns : goal.returns
returns g c =
    let same = c.paint_middle.ensures.same in
    receives-by (brush_now g.S.Shelf.view g.C.Canvas.view) _ _ c.paint_middle.result
    (strip-received _ _ (Middle c.args.strip.now) c.paint_middle.result refl (search rules) c.paint_middle.ensures.paints)
