-- A column that the picture has, and one that it has not.
use Rattle.picture_rules.proofs.Common.{false, int_le, int_lt, pos, rules, subst, sym, true, w32, ℤ, ◌&&◌, ◌∙◌, ◌≡◌, to_z-of_z}
use Rattle.brush.specs.Rules.{half_at, shade}
use Rattle.brush.proofs.PictureLemmas.{own-inside, own-outside}
use Rattle.brush.proofs.pictures.paint_own.Goals as goal

pub returns-then-is_in_picture : goal.returns-then-is_in_picture
returns-then-is_in_picture g c =
    let own_column_is = to_z-of_z w32 c.args.own (search rules) in
    own-inside g.C.Canvas.mark c.args.shape c.args.x c.args.column.now c.args.art.now.bytes.now (shade c.args.art.now.colormap.now c.args.art.now.map) c.column_place-place.result c.column_of.result c.args.own
    (g.C.Canvas.view c.args.canvas.now) (g.C.Canvas.view c.paint_posts.new.canvas)
    (subst (λ (z : ℤ). (int_le (pos 0) z && int_lt z (pos (half_at c.args.art.now.bytes.now 0))) ≡ true) own_column_is (sym c.is_in_picture.ensures.value ∙ c.if-is_in_picture.true))
    (sym own_column_is ∙ c.column_of.ensures) c.column_place-place.ensures c.paint_posts.ensures

pub returns-else-is_in_picture : goal.returns-else-is_in_picture
returns-else-is_in_picture g c =
    let own_column_is = to_z-of_z w32 c.args.own (search rules) in
    own-outside g.C.Canvas.mark c.args.shape c.args.x c.args.column.now c.args.art.now.bytes.now (shade c.args.art.now.colormap.now c.args.art.now.map) c.args.own
    (g.C.Canvas.view c.args.canvas.now)
    (subst (λ (z : ℤ). (int_le (pos 0) z && int_lt z (pos (half_at c.args.art.now.bytes.now 0))) ≡ false) own_column_is (sym c.is_in_picture.ensures.value ∙ c.if-is_in_picture.false))
