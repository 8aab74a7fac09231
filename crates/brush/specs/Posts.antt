-- What painting the posts of a column asks of its clips and its place, and what it leaves.
use Rattle.std.specs.Prelude.{◌≡◌, ◌<◌, ◌≤◌, ◌+◌, ◌≤ℤ◌, ℕ, pos, List}
use Rattle.brush.specs.Rules.{FRAME_HEIGHT, FRAME_WIDTH, MaskedColumn, Painter, Post, ViewShape, byte_at, greatest_clip, least_clip, minus_one, posts_dots, shade}
use Rattle.pixel_strips.specs.Canvases.{CanvasView, with_dots}
use Rattle.brush.specs.declared.posts.ColumnArt.{ColumnArt}

-- the clips of a masked column keep to a view of that height
pub record HasClipsIn (height : ℕ) (c : MaskedColumn) : Type 0 where
  pub least_top : minus_one ≤ℤ c.top_clip
  pub greatest_top : c.top_clip ≤ℤ greatest_clip
  pub least_bottom : least_clip ≤ℤ c.bottom_clip
  pub greatest_bottom : c.bottom_clip ≤ℤ pos height

-- column x of a view of that shape lies in the frame where the canvas has it
abbrev pub IsColumnInFrame : CanvasView → ViewShape → ℕ → Type 0
IsColumnInFrame canvas shape x = (x + canvas.left < FRAME_WIDTH) × (canvas.top + shape.height ≤ FRAME_HEIGHT)

-- a canvas is given the pixels of these posts in column x, by that art
abbrev pub PaintsPosts : (Painter → ℕ → ℕ) → ViewShape → ℕ → MaskedColumn → ColumnArt → List Post → CanvasView →
    CanvasView → Type 0
PaintsPosts mark shape x c art posts old new = new ≡ with_dots mark
    (posts_dots shape old.painter x c (byte_at art.bytes.now) (shade art.colormap.now art.map) posts) old
