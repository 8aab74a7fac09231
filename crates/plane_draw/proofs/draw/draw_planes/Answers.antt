-- A brush over what is lent is asked for the strips of the planes, and what came back of it.
use Rattle.std.proofs.Common.{ap, rules, sym}
use Rattle.receiver_rules.proofs.ReceiverLemmas.{receives-value}
use Rattle.brush.specs.Works.{BrushNames, brush_now}
use Rattle.brush.proofs.WorkLemmas.{received-worked}
use Rattle.plane_draw.proofs.DrawLemmas.{planes-drawn, planes-taken}
use Rattle.plane_draw.proofs.draw.draw_planes.Goals as goal

pub paint_planes-requires : goal.paint_planes-requires
paint_planes-requires g c = record { each = planes-taken c.args.scene.now _ _ c.requires }

pub shape_of-hands : goal.shape_of-hands
shape_of-hands g c = sym (ap (λ (n : BrushNames). n.canvas) (received-worked _ _ _ c.paint_planes.result (receives-value (brush_now g.S.Shelf.view g.C.Canvas.view) _ _ c.paint_planes.result c.paint_planes.ensures)).names)

pub shape_of-hands-2 : goal.shape_of-hands-2
shape_of-hands-2 g c = sym (ap (λ (n : BrushNames). n.shelf) (received-worked _ _ _ c.paint_planes.result (receives-value (brush_now g.S.Shelf.view g.C.Canvas.view) _ _ c.paint_planes.result c.paint_planes.ensures)).names)

pub shape_of-hands-3 : goal.shape_of-hands-3
shape_of-hands-3 g c = sym (ap (λ (n : BrushNames). n.cache) (received-worked _ _ _ c.paint_planes.result (receives-value (brush_now g.S.Shelf.view g.C.Canvas.view) _ _ c.paint_planes.result c.paint_planes.ensures)).names)

pub returns : goal.returns
returns g c =
    let worked = received-worked _ _ _ c.paint_planes.result (receives-value (brush_now g.S.Shelf.view g.C.Canvas.view) _ _ c.paint_planes.result c.paint_planes.ensures) in
    let names = worked.names in
    record {
      same = search rules;
      paints = planes-drawn c.args.scene.now _ c.requires worked.works;
    }
