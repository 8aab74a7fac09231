-- The art of a scene, as functions that give its bytes.
use Rattle.std.specs.Prelude.{ℕ, ℤ, List}
use Rattle.pixel_rules.specs.{declared.Painter.Painter, declared.Post.Post, declared.Source.Source}
use Rattle.pixel_rules.specs.declared.TheConstants.{LUMP}

pub record Art : Type 0 where
  -- the texel of a texture at a texture column (before the mask) and a row
  pub texel : ℕ → ℤ → ℕ → ℕ
  -- whose bytes that texture column has
  pub texture_source : ℕ → ℤ → Source
  -- the posts of that texture column, where one patch stands in it
  pub texture_posts : ℕ → ℤ → List Post
  -- the posts of a sprite lump's column, none outside the picture
  pub picture_posts : ℕ → ℤ → List Post
  -- a byte of a lump, 0 past its end
  pub byte : ℕ → ℕ → ℕ
  -- a colour through a colormap
  pub shade : ℕ → ℕ → ℕ

unfoldable pub lump_source : ℕ → Source
lump_source lump = record { kind = LUMP; number = lump }

unfoldable pub painter_of : ℕ → ℕ → Source → Painter
painter_of kind number source = record { kind = kind; number = number; source_kind = source.kind; source = source.number }
