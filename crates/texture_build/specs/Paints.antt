-- A call that paints, by the dots that it gives the canvas.
use Rattle.std.specs.Prelude.{ℕ, ℤ, Bool, true, false, List, OnOk, Result}
use Rattle.art_rules.specs.Words.{Art, Dot, Fault, lump_bytes, Painter, ShelfView}
use Rattle.lump_cache.specs.{Zones.Heap, DirectoryView.DirectoryView, Caches.IsAtRest}
use Rattle.lump_cache.specs.Calls.{HoldContents}
use Rattle.pixel_strips.specs.{Canvases.CanvasView, Dotted.HasDots, Dotted.PlacedAlike}
use Rattle.texture_build.specs.{Arts.view_art, Draws.DrawsWith, Draws.FitBeside, Draws.HoldsArt}
use Rattle.texture_build.specs.Views.{TexturesView}

-- What a call paints with: a directory, textures, and the lump COLORMAP. One that shows no texture asks for lumps alone.
pub record PaintTools : Type 0 where
  pub dir : DirectoryView
  pub textures : TexturesView
  pub colormap : ℕ
  pub textured : Bool

-- tools of a call that shows textures
abbrev pub paint_tools : DirectoryView → TexturesView → ℕ → PaintTools
paint_tools dir textures colormap = record { dir = dir; textures = textures; colormap = colormap; textured = true }

-- what is written: the cache by its shelf, and the canvas
pub record PaintState : Type 0 where
  pub shelf : ShelfView
  pub cache : Heap
  pub canvas : CanvasView

abbrev pub paint_state : ShelfView → Heap → CanvasView → PaintState
paint_state shelf cache canvas = record { shelf = shelf; cache = cache; canvas = canvas }

-- the art where the files have these contents
abbrev pub painted_art : List (List ℕ) → PaintTools → Art
painted_art contents t = view_art (lump_bytes contents t.dir.lumps) t.textures t.colormap

-- the cache is at rest with the colormap of `count` bytes, and has in each live lump the bytes of its file
pub record HoldsLumps (view : ShelfView) (dir : DirectoryView) (contents : List (List ℕ)) (colormap count : ℕ)
    (z : Heap) : Type 0 where
  pub rest : IsAtRest colormap count z
  pub files : HoldContents view dir z contents

-- The cache holds what a call paints with, where the files have these contents.
abbrev pub HoldsIf : Bool → PaintTools → List (List ℕ) → ℕ → ShelfView → Heap → Type 0
HoldsIf true t contents count view z = HoldsArt view t.dir t.textures contents t.colormap count z
HoldsIf false t contents count view z = HoldsLumps view t.dir contents t.colormap count z

abbrev pub Holds : PaintTools → List (List ℕ) → ℕ → ShelfView → Heap → Type 0
Holds t contents count view z = HoldsIf t.textured t contents count view z

-- what a painter of each of these dots reads fits beside the colormap in a zone of that size
abbrev pub FitIn : PaintTools → ℕ → ℕ → List Dot → Type 0
FitIn t count zone dots = FitBeside t.dir.lumps t.textures t.colormap count zone dots

-- A call by the dots that it gives the canvas, which are those of the files' contents and of what is asked (a sky, a
-- fragment's facts), and by what it shows: the columns of textures, each by its texture's number, and the lumps. It asks
-- the cache for no other. What it paints is said by an Ok alone.
pub record Paints {A R E Q : Type 0} (fault_of : E → Fault R) (mark : Painter → ℕ → ℕ) (t : PaintTools)
    (among : ℕ → ℤ → Type 0) (pictures : ℕ → Type 0) (asked : Q → Type 0) (dots : List (List ℕ) → Q → List Dot) (old new : PaintState)
    (result : Result A E) : Type 0 where
  pub painted : (contents : List (List ℕ)) (count : ℕ) (q : Q) → Holds t contents count old.shelf old.cache →
      asked q → OnOk result (HasDots mark (dots contents q) old.canvas new.canvas)
  pub fits : (contents : List (List ℕ)) (count : ℕ) (q : Q) → Holds t contents count old.shelf old.cache →
      asked q → OnOk result (FitIn t count old.cache.size (dots contents q))
  pub draws : DrawsWith fault_of among pictures old.shelf new.shelf t.dir t.textures old.cache new.cache result
  pub place : PlacedAlike old.canvas new.canvas
