-- Laws of a strip of a texture that was painted with a column's texels and the colormap.
use Rattle.art_rules.proofs.Common.{ap, List, subst, sym, ℕ, ℤ, ◌+◌, ◌∙◌, ◌≡◌}
use Rattle.texture_build.specs.Rules.{ColumnLookup, Painter, byte_at, column_dots, listed_from, painter_of, row_fraction, shade, texel_row}
use Rattle.pixel_strips.specs.Canvases.{CanvasView, with_dots, with_painter}
use Rattle.pixel_strips.specs.{Dotted.HasDots, Strips.column_strip_dots, Strips.strip_colour}
use Rattle.pixel_strips.proofs.DottedLemmas.{has_dots-as, has_dots-painted}
use Rattle.pixel_strips.proofs.RowLemmas.{row_shade, strip-rows}
use Rattle.texture_build.specs.Arts.{column_texel, lookup_source, view_art}
use Rattle.texture_build.specs.{Draws.FitsBeside, Paints.FitIn, Paints.PaintTools}
use Rattle.texture_build.specs.{Sources.column_in, Strips.texture_colour, Strips.texture_dots}
use Rattle.texture_build.specs.Views.{TexturesView, prepared_texture}
use Rattle.texture_build.specs.declared.strip.TextureStrip.{TextureStrip}
use Rattle.texture_build.proofs.BesideLemmas.{fit_beside-column_dots}

-- a canvas on which a strip's painter began, and that was given the texels of its column through the colormap, has its dots
pub texture-painted : (bytes : ℕ → List ℕ) (textures : TexturesView) (colormap : ℕ) (s : TextureStrip) {mark : Painter → ℕ → ℕ} {a b c : CanvasView}
    {painter : Painter} {lookup : ColumnLookup} (source shades : List ℕ) (base : ℕ) (fraction step : ℤ) → b ≡ with_painter painter a →
    c ≡ with_dots mark (column_strip_dots b.painter s.x (strip_colour source base shades s.map fraction step s.first) s.first s.last) b →
    painter ≡ painter_of s.kind s.number (lookup_source s.tex.0 lookup) → lookup ≡ column_in (prepared_texture textures s.tex.0) s.column →
    step ≡ s.step → fraction ≡ row_fraction s.centre s.mid s.step s.first → shades ≡ bytes colormap →
    ((r : ℕ) → byte_at source (base + r) ≡ column_texel bytes (prepared_texture textures s.tex.0) s.column r) →
    HasDots mark (texture_dots (view_art bytes textures colormap) s) a c
unfolding texture_dots texture_colour view_art byte_at
texture-painted bytes textures colormap s {b = b} source shades base fraction step began painted is_painter is_lookup is_step is_fraction is_shades texels =
    let painter_by_lookup : ColumnLookup → Painter = λ l. painter_of s.kind s.number (lookup_source s.tex.0 l) in
    let painter : b.painter ≡ painter_by_lookup (column_in (prepared_texture textures s.tex.0) s.column) =
    ap (λ (canvas : CanvasView). canvas.painter) began ∙ is_painter ∙ ap painter_by_lookup is_lookup in
    let start_is : fraction ≡ row_fraction s.centre s.mid step s.first = is_fraction ∙ sym (ap (λ (z : ℤ). row_fraction s.centre s.mid z s.first) is_step) in
    let dots : column_dots b.painter s.x (row_shade source base shades s.map s.centre s.mid step) (listed_from (λ y. y) s.first s.last)
    ≡ texture_dots (view_art bytes textures colormap) s =
    λ i. column_dots (painter i) s.x (λ y. shade (is_shades i) s.map (texels (texel_row (row_fraction s.centre s.mid (is_step i) y)) i))
    (listed_from (λ y. y) s.first s.last) in
    has_dots-as (strip-rows b.painter s.x source base shades s.map s.centre s.mid step fraction s.first s.last start_is ∙ dots) (has_dots-painted began painted)

-- and what its painter reads fits beside the colormap
pub texture-fits : (t : PaintTools) (count zone : ℕ) (bytes : ℕ → List ℕ) (s : TextureStrip) (lookup : ColumnLookup) →
    lookup ≡ column_in (prepared_texture t.textures s.tex.0) s.column →
    FitsBeside t.dir.lumps t.textures t.colormap count zone (painter_of s.kind s.number (lookup_source s.tex.0 lookup)) →
    FitIn t count zone (texture_dots (view_art bytes t.textures t.colormap) s)
unfolding texture_dots view_art
texture-fits t count zone bytes s lookup is fits =
    fit_beside-column_dots t.dir.lumps t.textures t.colormap count zone _ s.x
    (texture_colour (view_art bytes t.textures t.colormap) s) (listed_from (λ y. y) s.first s.last)
    (subst (λ (l : ColumnLookup). FitsBeside t.dir.lumps t.textures t.colormap count zone (painter_of s.kind s.number (lookup_source s.tex.0 l))) is fits)
