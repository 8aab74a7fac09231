-- No file of layers, no pictures of them, and the rows one after the other.
use Rattle.picture_rules.proofs.Common.{w16, rules, refl, to_z-of_z}
use Rattle.doom_run.proofs.OverlayLemmas.{no_book-drawn, no_table-drawn, rows-drawn}
use Rattle.doom_run.proofs.layers.draw_layers.Goals as goal

pub returns-in_default : goal.returns-in_default
returns-in_default g c = record {
  paints = no_table-drawn c.args.number c.args.eye c.args.loaded.now (g.S.Shelf.view c.args.shelf.now) (g.C.Canvas.view c.args.canvas.now) c.in_default.is;
}

pub returns-in_default-weapons : goal.returns-in_default-weapons
returns-in_default-weapons g c = record {
  paints = no_book-drawn c.args.number c.args.eye c.args.loaded.now (g.S.Shelf.view c.args.shelf.now) (g.C.Canvas.view c.args.canvas.now) c.in_default-weapons.is;
}

pub returns : goal.returns
returns g c =
    let old = c.args.loaded.now in
    let light_same = to_z-of_z w16 c.layer_light-light.result (search rules) in
    record {
      paints = rows-drawn c.args.number c.args.eye old (record old { cache = c.draw_rows.new.cache }) c.rows.result.now c.in-Some.table c.in-Some-weapons.book c.new-view.result c.layer_light-light.result _ c.colormap.result.0
          c.rows.ensures.value c.in-Some.is c.in-Some-weapons.is c.new-view.ensures light_same c.layer_light-light.ensures c.colormap.ensures (record { files = refl; scene = refl; weapons = refl }) c.draw_rows.ensures.paints;
    }
