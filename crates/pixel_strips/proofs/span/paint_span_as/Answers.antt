use Rattle.std.proofs.Common.{ℕ, rules}
use Rattle.pixel_rules.specs.Strips.{span_dots}
use Rattle.pixel_strips.proofs.{CanvasLemmas.recoloured, CutLemmas.cut_row_words}
use Rattle.pixel_strips.proofs.span.paint_span_as.Goals as goal

pub returns-in-Some-shades_of : goal.returns-in-Some-shades_of
returns-in-Some-shades_of g c =
    let strip = c.args.strip.now in
    recoloured _ _ _ (λ (colour : ℕ → ℕ). span_dots (g.C.Canvas.view c.args.canvas.now).painter strip.y colour strip.first strip.last) _ _ c.span.ensures
    (cut_row_words c.args.spans strip.flat.now strip.colormap.now c.in-Some.texels.now c.in-Some-shades_of.shades.now strip.map strip.x_fraction strip.y_fraction strip.x_step strip.y_step strip.first
    (search rules) (search rules) (search rules) (search rules) c.in-Some.ensures.some c.in-Some-shades_of.ensures.some c.in-Some.ensures.within)
