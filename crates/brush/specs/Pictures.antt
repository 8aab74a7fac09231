-- A call that paints columns of a view with a picture.
use Rattle.std.specs.Prelude.{◌≡◌, ◌<◌, ◌≤◌, ◌-◌, ℕ, List, length, map, Result}
use Rattle.std.specs.List.{range_with_len}
use Rattle.brush.specs.Rules.{Art, Dot, Painter, ShelfView, byte_at, joined_lists, picture_column, posts_dots, shade}
use Rattle.pixel_strips.specs.{Canvases.CanvasView, Dotted.HasDots}
use Rattle.texture_build.specs.{Arts.own_posts, CacheFault.CacheFault, Caches.cache_fault, Zones.Heap}
use Rattle.texture_build.specs.Paints.{FitIn, HoldsLumps, PaintState, PaintTools, Paints, painted_art}
use Rattle.brush.specs.{Posts.HasClipsIn, Posts.IsColumnInFrame}
use Rattle.brush.specs.Strips.{PictureStripValue, picture_dots, picture_masked}

-- It shows its lump, and no texture.
abbrev pub PaintsPicture : (Painter → ℕ → ℕ) → PaintTools → PictureStripValue → PaintState → PaintState →
    Result (Unit {0}) CacheFault → Type 0
PaintsPicture mark t s old new result = Paints cache_fault mark t
    (λ number column. ⊥) (λ lump. lump ≡ s.lump)
    (λ (q : Unit {0}). Unit {0}) (λ contents q. picture_dots (painted_art contents t) s)
    old new result

-- its columns are in order and in the frame, and each is clipped to the view
pub record ArePictureColumns (canvas : CanvasView) (s : PictureStripValue) : Type 0 where
  pub ordered : s.first ≤ s.last
  pub last : IsColumnInFrame canvas s.shape s.last
  pub clips : (x : ℕ) → s.first ≤ x → x ≤ s.last → HasClipsIn s.shape.height (picture_masked s x)

-- a column by the bytes of the picture and of the colormap, and those from the first on, before `end`
unfoldable pub read_column : PictureStripValue → List ℕ → List ℕ → Painter → ℕ → List Dot
read_column s bytes colormap painter x =
    posts_dots s.shape painter x (picture_masked s x) (byte_at bytes) (shade colormap s.map)
    (own_posts bytes (picture_column s.flip s.width s.left s.masked.iscale x))

unfoldable pub read_columns : PictureStripValue → List ℕ → List ℕ → Painter → ℕ → List Dot
read_columns s bytes colormap painter end =
    joined_lists (read_column s bytes colormap painter) (map (λ x. x) (range_with_len s.first (end - s.first)))

-- The dots of art that a cache holds, whatever its files: a canvas is given them, and each source fits beside the colormap.
abbrev pub GivesDots : (Painter → ℕ → ℕ) → ℕ → ℕ → Heap → (Art → List Dot) → CanvasView → CanvasView → Type 0
GivesDots mark colormap lump cache dots old new =
    (view : ShelfView) (t : PaintTools) (contents : List (List ℕ)) (count : ℕ) →
    t.colormap ≡ colormap → colormap < length t.dir.lumps → lump < length t.dir.lumps →
    HoldsLumps view t.dir contents t.colormap count cache →
    HasDots mark (dots (painted_art contents t)) old new

abbrev pub FitsDots : ℕ → ℕ → Heap → (Art → List Dot) → Type 0
FitsDots colormap lump cache dots =
    (view : ShelfView) (t : PaintTools) (contents : List (List ℕ)) (count : ℕ) →
    t.colormap ≡ colormap → colormap < length t.dir.lumps → lump < length t.dir.lumps →
    HoldsLumps view t.dir contents t.colormap count cache →
    FitIn t count cache.size (dots (painted_art contents t))
