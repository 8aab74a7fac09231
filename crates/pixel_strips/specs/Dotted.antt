-- A canvas that was given dots, by whatever painters.
use Rattle.std.specs.Prelude.{◌≡◌, ℕ, List}
use Rattle.pixel_strips.specs.{Rules.Dot, Rules.Painter, Rules.put_dots, Canvases.CanvasView}

-- it has these dots in order, and stands where it stood; the painter is not told
pub record HasDots (mark : Painter → ℕ → ℕ) (dots : List Dot) (old new : CanvasView) : Type 0 where
  pub cells : new.cells ≡ put_dots mark old.left old.top dots old.cells
  pub left : new.left ≡ old.left
  pub top : new.top ≡ old.top

-- it stands where it stood
pub record PlacedAlike (old new : CanvasView) : Type 0 where
  pub left : new.left ≡ old.left
  pub top : new.top ≡ old.top
