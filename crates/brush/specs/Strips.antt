-- What a view shows, strip by strip: what each is painted from, and its dots.
use Rattle.std.specs.Prelude.{◌≡◌, ◌-◌, ℕ, ℤ, Bool, List, Contains, None, Option, slice_index_or, unwrap_or}
use Rattle.picture_rules.specs.Words.{Art, Dot, MIDDLE, MaskedColumn, Plane, ViewShape, ViewValue, floor_dots, joined_lists, listed_from, lump_source, painter_of, picture_column, posts_dots}
use Rattle.texture_build.specs.Strips.{texture_dots}
use Rattle.texture_build.specs.declared.strip.TextureStrip.{TextureStrip}
use Rattle.brush.specs.declared.brush.MiddleStrip.{MiddleStrip}

-- plane `number` of a view, with the flat of a lump
pub record FloorValue : Type 0 where
  pub view : ViewValue
  pub plane : Plane
  pub number : ℕ
  pub lump : ℕ

-- Columns `first` to `last` of a view, with the picture of a lump whose left edge is at column `left`. Each column is drawn as
-- `masked` says, but for the clips that were taken in it.
pub record PictureStripValue : Type 0 where
  pub kind : ℕ
  pub number : ℕ
  pub lump : ℕ
  pub flip : Bool
  pub width : ℕ
  pub left : ℤ
  pub shape : ViewShape
  pub first : ℕ
  pub last : ℕ
  pub masked : MaskedColumn
  pub map : ℕ
  pub tops : List (Option ℤ)
  pub bottoms : List (Option ℤ)

-- a strip, by its description
pub data Strip : Type 0 where
  -- rows of a column, with a column of a texture
  Texture : TextureStrip → Strip
  -- a plane that is not sky, with its flat
  Floor : FloorValue → Strip
  -- a masked column of a texture
  Middle : MiddleStrip → Strip
  -- columns of the view, with a picture
  Picture : PictureStripValue → Strip

unfoldable pub floor_strip_dots : Art → FloorValue → List Dot
floor_strip_dots art s = floor_dots s.view art s.number s.lump s.plane

unfoldable pub middle_dots : Art → MiddleStrip → List Dot
middle_dots art s =
    let source = art.texture_source s.tex.0 s.column in
    posts_dots s.shape (painter_of MIDDLE s.number source) s.x s.masked (art.byte source.number) (art.shade s.map)
    (art.texture_posts s.tex.0 s.column)

-- how column x of a picture is drawn
unfoldable pub picture_masked : PictureStripValue → ℕ → MaskedColumn
picture_masked s x = record s.masked {
  top_clip = unwrap_or (slice_index_or s.tops (x - s.first) None) s.masked.top_clip;
  bottom_clip = unwrap_or (slice_index_or s.bottoms (x - s.first) None) s.masked.bottom_clip;
}

unfoldable pub column_of_picture : Art → PictureStripValue → ℕ → List Dot
column_of_picture art s x =
    posts_dots s.shape (painter_of s.kind s.number (lump_source s.lump)) x (picture_masked s x) (art.byte s.lump) (art.shade s.map)
    (art.picture_posts s.lump (picture_column s.flip s.width s.left s.masked.iscale x))

unfoldable pub picture_dots : Art → PictureStripValue → List Dot
picture_dots art s = joined_lists (column_of_picture art s) (listed_from (λ x. x) s.first s.last)

-- the dots of a strip, and of some strips in order
abbrev pub dots_of_strip : Art → Strip → List Dot
dots_of_strip art (Texture s) = texture_dots art s
dots_of_strip art (Floor s) = floor_strip_dots art s
dots_of_strip art (Middle s) = middle_dots art s
dots_of_strip art (Picture s) = picture_dots art s

unfoldable pub strips_dots : Art → List Strip → List Dot
strips_dots art strips = joined_lists (dots_of_strip art) strips

-- a strip shows that column of the texture of that number
abbrev pub IsStripColumn : Strip → ℕ → ℤ → Type 0
IsStripColumn (Texture s) number column = (number ≡ s.tex.0) × (column ≡ s.column)
IsStripColumn (Floor s) number column = ⊥
IsStripColumn (Middle s) number column = (number ≡ s.tex.0) × (column ≡ s.column)
IsStripColumn (Picture s) number column = ⊥

-- a strip shows that lump
abbrev pub IsStripLump : Strip → ℕ → Type 0
IsStripLump (Texture s) lump = ⊥
IsStripLump (Floor s) lump = lump ≡ s.lump
IsStripLump (Middle s) lump = ⊥
IsStripLump (Picture s) lump = lump ≡ s.lump

-- one of these strips does
pub record ShowsColumn (strips : List Strip) (number : ℕ) (column : ℤ) : Type 0 where
  pub strip : Strip
  pub among : Contains strips strip
  pub is : IsStripColumn strip number column

pub record ShowsLump (strips : List Strip) (lump : ℕ) : Type 0 where
  pub strip : Strip
  pub among : Contains strips strip
  pub is : IsStripLump strip lump
