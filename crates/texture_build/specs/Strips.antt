-- A strip of a texture, and what a call that paints it leaves.
use Rattle.std.specs.Prelude.{◌≡◌, ◌+◌, ◌<◌, ◌≤◌, ℕ, List, Result}
use Rattle.texture_build.specs.Rules.{Art, Dot, FRAME_HEIGHT, FRAME_WIDTH, Painter, column_dots, listed_from, painter_of, row_fraction, texel_row}
use Rattle.lump_cache.specs.{declared.fault.CacheFault.CacheFault, Caches.cache_fault}
use Rattle.pixel_strips.specs.Canvases.{CanvasView}
use Rattle.texture_build.specs.Paints.{PaintState, PaintTools, Paints, paint_tools, painted_art}
use Rattle.texture_build.specs.declared.strip.TextureArt.{TextureArt}
use Rattle.texture_build.specs.declared.strip.TextureStrip.{TextureStrip}

-- what strips are painted with
abbrev pub art_tools : TextureArt → PaintTools
art_tools art = paint_tools art.dir.now art.textures.now art.colormap.0

-- its rows are in order, and lie in the frame
abbrev pub IsTextureIn : TextureStrip → CanvasView → Type 0
IsTextureIn s canvas = (s.first ≤ s.last)
    × ((s.x + canvas.left < FRAME_WIDTH) × (s.last + canvas.top < FRAME_HEIGHT))

-- the colour at row y
unfoldable pub texture_colour : Art → TextureStrip → ℕ → ℕ
texture_colour art s y =
    art.shade s.map (art.texel s.tex.0 s.column (texel_row (row_fraction s.centre s.mid s.step y)))

-- the dots from the first row to the last
unfoldable pub texture_dots : Art → TextureStrip → List Dot
texture_dots art s = column_dots (painter_of s.kind s.number (art.texture_source s.tex.0 s.column))
    s.x (texture_colour art s) (listed_from (λ y. y) s.first s.last)

-- A call that paints the strip. It shows its column of its texture, and no lump by itself.
abbrev pub PaintsTexture : (Painter → ℕ → ℕ) → PaintTools → TextureStrip → PaintState → PaintState →
    Result (Unit {0}) CacheFault → Type 0
PaintsTexture mark t s old new result = Paints cache_fault mark t
    (λ number column. (number ≡ s.tex.0) × (column ≡ s.column)) (λ lump. ⊥)
    (λ (q : Unit {0}). Unit {0}) (λ contents q. texture_dots (painted_art contents t) s)
    old new result
