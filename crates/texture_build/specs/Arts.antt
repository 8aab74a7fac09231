-- The art of a view: what prepared textures and the bytes of lumps give (R_GetColumn, r_data.c).
use Rattle.std.specs.Prelude.{ℕ, ◌&&◌, ℤ, pos, int_le, int_lt, cond, List, [], length}
use Rattle.texture_build.specs.Rules.{Art, COMPOSITE, ColumnLookup, Composed, Empty, LUMP, NO_SOURCE, Post, PreparedTexture, Single, Source, byte_at, column_place, half_at, natural, posts, shade, texel}
use Rattle.texture_build.specs.Views.{TexturesView, prepared_texture}
use Rattle.texture_build.specs.Sources.{column_in, column_index}

-- texel r of the column that a texture column stands for
abbrev pub column_texel : (ℕ → List ℕ) → PreparedTexture → ℤ → ℕ → ℕ
column_texel bytes t column r =
    texel bytes t.patches (length t.columns) t.height (column_index t column) r

-- whose bytes a column of the texture of that number has
abbrev pub lookup_source : ℕ → ColumnLookup → Source
lookup_source number Empty = record { kind = NO_SOURCE; number = 0 }
lookup_source number (Single lump place) = record { kind = LUMP; number = lump }
lookup_source number (Composed place) = record { kind = COMPOSITE; number = number }

-- the posts of a column, where it is read from one lump
abbrev pub lookup_posts : (ℕ → List ℕ) → ColumnLookup → List Post
lookup_posts bytes Empty = []
lookup_posts bytes (Single lump place) = posts (bytes lump) place
lookup_posts bytes (Composed place) = []

-- the posts of a column of a picture, none outside it
abbrev pub own_posts : List ℕ → ℤ → List Post
own_posts bytes column =
    cond (int_le (pos 0) column && int_lt column (pos (half_at bytes 0)))
    (posts bytes (column_place bytes (natural column))) []

-- the art of these textures and these lumps, seen through the colormaps of that lump
unfoldable pub view_art : (ℕ → List ℕ) → TexturesView → ℕ → Art
view_art bytes textures colormap = record {
  texel = λ number column r. column_texel bytes (prepared_texture textures number) column r;
  texture_source = λ number column. lookup_source number (column_in (prepared_texture textures number) column);
  texture_posts = λ number column. lookup_posts bytes (column_in (prepared_texture textures number) column);
  picture_posts = λ lump column. own_posts (bytes lump) column;
  byte = λ lump place. byte_at (bytes lump) place;
  shade = λ m index. shade (bytes colormap) m index;
}
