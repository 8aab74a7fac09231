use Rattle.std.proofs.Common.{ℕ, rules}
use Rattle.pixel_strips.specs.Strips.{column_strip_dots}
use Rattle.pixel_strips.proofs.{CanvasLemmas.recoloured, CutLemmas.cut_strip_words}
use Rattle.pixel_strips.proofs.column.paint_column.Goals as goal

pub returns-in-Some-shades_of : goal.returns-in-Some-shades_of
returns-in-Some-shades_of g c =
    let strip = c.args.strip.now in recoloured _ _ _
    (λ (colour : ℕ → ℕ). column_strip_dots (g.C.Canvas.view c.args.canvas.now).painter strip.x colour strip.first strip.last) _ _ c.column.ensures
    (cut_strip_words strip.source.now strip.colormap.now c.in-Some.texels.now c.in-Some-shades_of.shades.now strip.base strip.map strip.fraction strip.step
    strip.first (search rules) (search rules) c.in-Some.ensures.some c.in-Some-shades_of.ensures.some c.in-Some.ensures.within)
