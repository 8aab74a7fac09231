-- A brush over what is lent is asked for the strips of the pass, and what came back of it.
use Rattle.std.proofs.Common.{ap, arith, refl, sym}
use Rattle.receiver_rules.proofs.ReceiverLemmas.{receives-value}
use Rattle.brush.specs.Works.{BrushNames, brush_now}
use Rattle.brush.proofs.WorkLemmas.{received-worked}
use Rattle.masked_draw.specs.declared.scene.MaskScene.{MaskScene}
use Rattle.masked_draw.proofs.PaintedLemmas.{pass-painted, pass-taken}
use Rattle.masked_draw.proofs.SceneLemmas.{listed-in, scene-whole, taken-by}
use Rattle.masked_draw.proofs.pass.draw_masked.Goals as goal

pub paint_masked-requires-clause-ready : goal.paint_masked-requires-clause-ready
paint_masked-requires-clause-ready g c = record {
  width = omega (arith, c.requires.placed.columns);
  noted = c.requires.noted;
  listed = λ k d l. listed-in (c.requires.listed k d l);
  room = c.requires.marks;
}

pub paint_masked-requires-clause-takes : goal.paint_masked-requires-clause-takes
paint_masked-requires-clause-takes g c =
    let tools = c.args.tools.now in
    let scene : MaskScene = record { view = tools.view; textures = tools.textures; openings = tools.openings; segs = tools.segs; sides = tools.sides; sectors = tools.sectors; middles = tools.middles } in
    taken-by (brush_now g.S.Shelf.view g.C.Canvas.view) _ (pass-taken scene c.args.notes.now c.args.sprites.now _ (record {
      slots = record { lumps = c.requires.slots; colormap = c.requires.colormap };
      placed = c.requires.placed;
      textures = refl;
      whole = λ k note e. scene-whole k note c.requires.noted e;
      listed = c.requires.listed;
      columns = c.requires.columns;
      lumps = c.requires.lumps;
    }))

pub shape_of-tools : goal.shape_of-tools
shape_of-tools g c = sym (ap (λ (n : BrushNames). n.canvas) (received-worked _ _ _ c.paint_masked.result (receives-value (brush_now g.S.Shelf.view g.C.Canvas.view) _ _ c.paint_masked.result c.paint_masked.ensures.asks)).names)

pub shape_of-tools-2 : goal.shape_of-tools-2
shape_of-tools-2 g c = sym (ap (λ (n : BrushNames). n.shelf) (received-worked _ _ _ c.paint_masked.result (receives-value (brush_now g.S.Shelf.view g.C.Canvas.view) _ _ c.paint_masked.result c.paint_masked.ensures.asks)).names)

pub shape_of-tools-3 : goal.shape_of-tools-3
shape_of-tools-3 g c = sym (ap (λ (n : BrushNames). n.cache) (received-worked _ _ _ c.paint_masked.result (receives-value (brush_now g.S.Shelf.view g.C.Canvas.view) _ _ c.paint_masked.result c.paint_masked.ensures.asks)).names)

pub returns-clause-paints : goal.returns-clause-paints
returns-clause-paints g c =
    let tools = c.args.tools.now in
    let scene : MaskScene = record { view = tools.view; textures = tools.textures; openings = tools.openings; segs = tools.segs; sides = tools.sides; sectors = tools.sectors; middles = tools.middles } in
    let worked = received-worked _ _ _ c.paint_masked.result (receives-value (brush_now g.S.Shelf.view g.C.Canvas.view) _ _ c.paint_masked.result c.paint_masked.ensures.asks) in
    pass-painted scene c.args.notes.now c.args.sprites.now _ worked.works
