-- One column after the other.
use Rattle.picture_rules.proofs.Common.{arith, rules, subst, sym, to_z-of_z, w32, ◌∙◌}
use Rattle.brush.specs.Rules.{picture_column}
use Rattle.brush.specs.{Posts.HasClipsIn, Values.picture_value}
use Rattle.brush.proofs.LayerLemmas.{column-read, columns-more, columns-none}
use Rattle.brush.proofs.PictureLemmas.{same_words}
use Rattle.brush.proofs.layers.fill_columns.Goals as goal

pub loop-x-init : goal.loop-x-init
loop-x-init g c = columns-none g.C.Canvas.mark (picture_value c.args.strip.now) c.args.art.now.bytes.now c.args.art.now.colormap.now (g.C.Canvas.view c.args.canvas.now)

pub paint_own-requires-clause-clips : goal.paint_own-requires-clause-clips
paint_own-requires-clause-clips g c =
    subst (HasClipsIn c.args.strip.now.shape.height) (sym c.picture_masked-column.ensures) (c.requires.columns.clips c.loop-x.x c.loop-x.auto.x (omega arith))

pub loop-x-preserved : goal.loop-x-preserved
loop-x-preserved g c =
    let strip = c.args.strip.now in
    let own_column_is = to_z-of_z w32 c.picture_column-own.result (search rules) in
    columns-more g.C.Canvas.mark (picture_value strip) c.args.art.now.bytes.now c.args.art.now.colormap.now c.loop-x.x (g.C.Canvas.view c.args.canvas.now) (g.C.Canvas.view c.loop-x.canvas) (g.C.Canvas.view c.paint_own.new.canvas)
    c.loop-x.auto.x c.loop-x.invariant
    (column-read g.C.Canvas.mark (picture_value strip) c.args.art.now.bytes.now c.args.art.now.colormap.now c.args.art.now.map c.picture_masked-column.result c.loop-x.x _
    (g.C.Canvas.view c.loop-x.canvas) (g.C.Canvas.view c.paint_own.new.canvas)
    (own_column_is ∙ c.picture_column-own.ensures
    ∙ same_words (λ z w. picture_column strip.flip strip.width z w c.loop-x.x) _ _ _ _ (to_z-of_z w32 strip.left (search rules))
    (to_z-of_z w32 strip.masked.iscale (search rules)))
    c.picture_masked-column.ensures c.requires.map c.paint_own.ensures)
