-- The layers of the rows before are drawn.
use Rattle.picture_rules.proofs.Common.{Ok, take}
use Rattle.texture_build.specs.Paints.{paint_state}
use Rattle.weapon_overlay.specs.{Layers.PaintsLayer, Seen.IsLayerPicture}
use Rattle.doom_run.specs.Layers.{layers_from}
use Rattle.doom_run.proofs.RowLemmas.{rows_dots}
use Rattle.doom_run.proofs.layers.draw_rows.Given as goal

abbrev pub invariant-loop-i : goal.invariant-loop-i
invariant-loop-i g l =
    PaintsLayer {A = Unit {0}} g.C.Canvas.mark l.scene.dir.now l.scene.colormap.0 (IsLayerPicture l.scene.view.now (layers_from l.scene.book.now l.light l.scene.number 1 l.rows)) (rows_dots l.scene.view.now l.scene.book.now l.light l.scene.number 1 (take l.i l.rows))
    (paint_state (g.S.Shelf.view l.fn.shelf) l.fn.cache (g.C.Canvas.view l.fn.canvas)) (paint_state (g.S.Shelf.view l.shelf) l.cache (g.C.Canvas.view l.canvas)) (Ok tt)
