-- The planes of the bench are those of the view.
use Rattle.picture_rules.proofs.Common.{List, subst, sym}
use Rattle.brush.specs.Strips.{Strip}
use Rattle.receiver_rules.specs.Receivers.{Receives, TakesEach}
use Rattle.frame_core.proofs.FloorLemmas.{floors-same}
use Rattle.frame_core.proofs.floors.paint_floors.Goals as goal

pub paint_planes-requires : goal.paint_planes-requires
paint_planes-requires g c =
    subst (TakesEach g.B.Brush.takes c.args.brush.now) (sym (floors-same c.args.view.now c.args.scene.now.scene c.args.bench.now c.sky.result c.requires.walked c.sky.ensures)) c.requires.takes

pub returns : goal.returns
returns g c =
    subst (λ (strips : List Strip). Receives g.B.Brush.takes g.B.Brush.stands g.B.Brush.stopped c.args.brush.now c.paint_planes.new.brush strips c.paint_planes.result)
    (floors-same c.args.view.now c.args.scene.now.scene c.args.bench.now c.sky.result c.requires.walked c.sky.ensures) c.paint_planes.ensures
