-- A plane without a run has no strip, and one with a run is one.
use Rattle.std.proofs.Common.{sym}
use Rattle.receiver_rules.proofs.ReceiverLemmas.{receives-none, receives-same}
use Rattle.visplanes.specs.Planes.{plane_at}
use Rattle.plane_draw.proofs.{MarkLemmas.empty-unmarked, MarkLemmas.filled-marked}
use Rattle.plane_draw.proofs.StripLemmas.{contains-one, floor-none, floor-one}
use Rattle.plane_draw.proofs.planes.paint_floor.Goals as goal

pub returns-then-is_empty : goal.returns-then-is_empty
returns-then-is_empty g c =
    let scene = c.args.scene.now in
    let plane = plane_at scene.planes.now.planes c.args.plane.0 in
    receives-same _ (sym (floor-none scene.view.now scene.sky c.args.plane.0 c.args.lump.0 plane c.requires.flat
    (empty-unmarked plane c.is_empty.result c.is_empty.ensures c.if-is_empty.true))) (receives-none _)

pub floor-requires-clause-takes : goal.floor-requires-clause-takes
floor-requires-clause-takes g c =
    let scene = c.args.scene.now in
    let plane = plane_at scene.planes.now.planes c.args.plane.0 in
    c.requires.takes.each _ (contains-one (floor-one scene.view.now scene.sky c.args.plane.0 c.args.lump.0 plane c.requires.flat
    (filled-marked plane c.is_empty.result c.is_empty.ensures c.if-is_empty.false)))

pub returns : goal.returns
returns g c =
    let scene = c.args.scene.now in
    let plane = plane_at scene.planes.now.planes c.args.plane.0 in
    receives-same _ (sym (floor-one scene.view.now scene.sky c.args.plane.0 c.args.lump.0 plane c.requires.flat
    (filled-marked plane c.is_empty.result c.is_empty.ensures c.if-is_empty.false))) c.floor.ensures
