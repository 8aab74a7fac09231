-- One row after the other.
use Rattle.picture_rules.proofs.Common.{◌≡◌, ◌<◌, ◌+◌, ◌∷◌, [], ℕ, ℤ, List, get_or, length, w16, refl, subst, sym, arith, rules, to_z-of_z}
use Rattle.art_rules.specs.declared.shapes.Frame.{Frame}
use Rattle.csv_tables.specs.declared.weapons.WeaponRow.{WeaponRow}
use Rattle.picture_rules.specs.Words.{ViewValue}
use Rattle.doom_run.specs.Layers.{layers_from}
use Rattle.weapon_overlay.specs.Seen.{IsLayerPicture}
use Rattle.texture_build.specs.Views.{TexturesView}
use Rattle.texture_build.proofs.PaintLemmas.{paints-none, paints-same, paints-then, paints-then_stop, paints-wider, slots-later}
use Rattle.weapon_overlay.proofs.LayerLemmas.{stands-later}
use Rattle.doom_run.proofs.RowLemmas.{row_layers-first, rows_dots-all, rows_dots-more, rows_dots-none}
use Rattle.doom_run.proofs.layers.draw_rows.Goals as goal

-- a layer is the same beside any textures
no_textures : TexturesView
no_textures = record { lists = record { names = []; textures = [] }; prepared = [] }

-- the pictures of a row's layers are of the table's
row_pictures : (v : ViewValue) (book : List Frame) (light : ℤ) (k i : ℕ) (rows : List WeaponRow) (row : WeaponRow) → i < length rows → (lump : ℕ) →
    IsLayerPicture v (layers_from book light k (i + 1) (get_or rows i row ∷ [])) lump → IsLayerPicture v (layers_from book light k 1 rows) lump
row_pictures v book light k i rows row there lump asked = record { layer = asked.layer; among = row_layers-first book light k i rows row asked.layer there asked.among; is = asked.is }

pub loop-i-init : goal.loop-i-init
loop-i-init g c = λ textures. paints-same _ (λ contents q is. sym (rows_dots-none c.args.scene.now.view.now c.args.scene.now.book.now _ c.args.scene.now.number _)) (paints-none _ tt)

pub draw_row-requires-clause-slots : goal.draw_row-requires-clause-slots
draw_row-requires-clause-slots g c = slots-later (c.loop-i.invariant no_textures) c.requires.slots

pub draw_row-requires-clause-placed : goal.draw_row-requires-clause-placed
draw_row-requires-clause-placed g c = stands-later c.args.scene.now.view.now.shape (c.loop-i.invariant no_textures).place c.requires.placed

pub returns-in_err-draw_row : goal.returns-in_err-draw_row
returns-in_err-draw_row g c =
    let light_same = to_z-of_z w16 c.args.light (search rules) in record {
      paints = λ textures. paints-wider (λ number own none. none)
          (λ lump asked. subst (λ (z : ℤ). IsLayerPicture c.args.scene.now.view.now (layers_from c.args.scene.now.book.now z c.args.scene.now.number 1 c.args.rows.now) lump) light_same asked)
          (paints-then_stop c.in_err-draw_row.was c.from_residual.ensures.1 (c.loop-i.invariant textures)
          (paints-wider (λ number own none. none) (row_pictures c.args.scene.now.view.now c.args.scene.now.book.now _ c.args.scene.now.number c.loop-i.i c.args.rows.now _ c.loop-i-test.true) (c.draw_row.ensures.paints textures)));
    }

pub loop-i-preserved : goal.loop-i-preserved
loop-i-preserved g c = λ textures.
    paints-same _ (λ contents q is. rows_dots-more c.args.scene.now.view.now c.args.scene.now.book.now _ _ c.args.scene.now.number c.loop-i.i c.args.rows.now _ _ refl c.loop-i-test.true)
    (paints-then (c.loop-i.invariant textures)
    (paints-wider (λ number own none. none) (row_pictures c.args.scene.now.view.now c.args.scene.now.book.now _ c.args.scene.now.number c.loop-i.i c.args.rows.now _ c.loop-i-test.true) (c.in_ok-draw_row.ensures.paints textures)))

pub returns : goal.returns
returns g c =
    let end : c.loop-i.i ≡ length c.args.rows.now = omega (arith, c.loop-i.auto.i-end, c.loop-i-test.false) in
    let light_same = to_z-of_z w16 c.args.light (search rules) in
    record {
      paints = λ textures. paints-wider (λ number own none. none)
          (λ lump asked. subst (λ (z : ℤ). IsLayerPicture c.args.scene.now.view.now (layers_from c.args.scene.now.book.now z c.args.scene.now.number 1 c.args.rows.now) lump) light_same asked)
          (paints-same _ (λ contents q is. rows_dots-all c.args.scene.now.view.now c.args.scene.now.book.now c.args.light _ c.args.scene.now.number c.loop-i.i c.args.rows.now _ light_same end) (c.loop-i.invariant textures));
    }
