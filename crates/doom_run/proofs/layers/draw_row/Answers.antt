-- A row of another view, one whose frame has no picture, and one of this view.
use Rattle.picture_rules.proofs.Common.{rules, Some, sym, w16, to_z-of_z}
use Rattle.texture_build.proofs.PaintLemmas.{paints-none, paints-same, paints-wider}
use Rattle.weapon_overlay.specs.Layers.{layer_value}
use Rattle.doom_run.proofs.PictureLemmas.{layer_there}
use Rattle.doom_run.proofs.RowLemmas.{layer_among, row_layer-own, row_dots-bare, row_dots-other, row_dots-own}
use Rattle.doom_run.proofs.layers.draw_row.Goals as goal

pub returns-then-row-scene : goal.returns-then-row-scene
returns-then-row-scene g c = record {
  paints = λ textures. paints-same _ (λ contents q is. sym (row_dots-other c.args.scene.now.view.now c.args.scene.now.book.now c.args.light c.args.scene.now.number c.args.place c.args.row.now _ c.if-row-scene.true)) (paints-none _ tt);
}

pub returns-in_default : goal.returns-in_default
returns-in_default g c = record {
  paints = λ textures.
      paints-same _ (λ contents q is. sym (row_dots-bare c.args.scene.now.view.now c.args.scene.now.book.now c.args.light _ c.args.scene.now.number c.args.place c.args.row.now _ (to_z-of_z w16 c.args.light (search rules)) c.in_default.ensures)) (paints-none _ tt);
}

pub overlay-requires-clause-picture : goal.overlay-requires-clause-picture
overlay-requires-clause-picture g c =
    layer_there c.args.scene.now.dir.now.lumps (Some c.args.scene.now.book.now) c.in-Some.layer.shape.lump.0 c.requires.pictures
    (layer_among c.args.scene.now.book.now _ c.args.place c.args.row.now (layer_value c.in-Some.layer) c.in-Some.ensures)

pub returns : goal.returns
returns g c =
    let light_same = to_z-of_z w16 c.args.light (search rules) in
    let layer_is_own = row_layer-own c.args.scene.now.book.now c.args.light _ c.args.scene.now.number c.args.place c.args.row.now (layer_value c.in-Some.layer) light_same c.if-row-scene.false c.in-Some.ensures in
    record {
      paints = λ textures. paints-wider (λ number own none. none)
          (λ lump asked. record { layer = layer_value c.in-Some.layer; among = layer_is_own; is = asked })
          (paints-same _ (λ contents q is. row_dots-own c.args.scene.now.view.now c.args.scene.now.book.now c.args.light _ c.args.scene.now.number c.args.place c.args.row.now (layer_value c.in-Some.layer) _ light_same c.if-row-scene.false c.in-Some.ensures) (c.overlay.ensures.paints textures));
    }
