-- What the masked pass asks of the lists, the textures and the sprites, and which bytes it paints with.
use Rattle.std.specs.Prelude.{◌≡◌, ◌<◌, ◌≤◌, ◌≤ℤ◌, ℕ, ℤ, List, Contains, length, IfSome, IsSome}
use Rattle.masked_draw.specs.Rules.{FragmentNote, Lump, SpriteEntry}
use Rattle.texture_build.specs.{Zones.Heap, Views.TexturesView, Views.prepared_texture}
use Rattle.texture_build.specs.Draws.{CanDraw}
use Rattle.brush.specs.Middles.{IsSingle}
use Rattle.masked_draw.specs.Lists.{MaskedLists, note_seg, middle_by, saved_column}

-- the middle texture of a masked note may be drawn
pub record CanDrawMiddle (lumps : List Lump) (textures : TexturesView) (z : Heap) (lists : MaskedLists)
    (d : FragmentNote) : Type 0 where
  pub back : IfSome (note_seg lists d).back (λ back. back < length lists.sectors)
  pub some : IsSome (note_seg lists d).back
  pub texture : CanDraw lumps textures z (middle_by lists d)
  pub among : middle_by lists d < length textures.lists.textures
  pub single : IsSingle (prepared_texture textures (middle_by lists d))

-- the seg of a note, with its side and its sectors, is among the lists
pub record IsListed (lumps : List Lump) (textures : TexturesView) (z : Heap) (lists : MaskedLists)
    (d : FragmentNote) : Type 0 where
  pub seg : d.seg_no < length lists.segs
  pub front : (note_seg lists d).front < length lists.sectors
  pub side : (note_seg lists d).side < length lists.sides
  pub middle : (note_seg lists d).side < length lists.middles
  pub masked : IsSome d.masked → CanDrawMiddle lumps textures z lists d

-- what the strips of a masked note are made of: the sector behind its seg, and the number of its middle texture
pub record HasMiddle (textures : ℕ) (lists : MaskedLists) (d : FragmentNote) : Type 0 where
  pub back : IfSome (note_seg lists d).back (λ back. back < length lists.sectors)
  pub some : IsSome (note_seg lists d).back
  pub among : middle_by lists d < textures

-- the seg of a note, with its side and its sectors, is among the lists, and what its strips are made of
pub record IsInLists (textures : ℕ) (lists : MaskedLists) (d : FragmentNote) : Type 0 where
  pub seg : d.seg_no < length lists.segs
  pub front : (note_seg lists d).front < length lists.sectors
  pub side : (note_seg lists d).side < length lists.sides
  pub middle : (note_seg lists d).side < length lists.middles
  pub masked : IsSome d.masked → HasMiddle textures lists d

-- column `own` of a texture is one of the middle texture that a masked note saved for a column of the view
pub record IsMiddleColumn (lists : MaskedLists) (openings : List ℤ) (d : FragmentNote) (number : ℕ) (own : ℤ) : Type 0 where
  pub masked : IsSome d.masked
  pub texture : number ≡ middle_by lists d
  pub x : ℕ
  pub first : d.first ≤ x
  pub last : x ≤ d.last
  pub is : own ≡ saved_column openings d.first d.masked x

-- the seg of a masked note, with its side and both its sectors, is among the lists
pub record IsSeenNote (lists : MaskedLists) (d : FragmentNote) : Type 0 where
  pub seg : d.seg_no < length lists.segs
  pub front : (note_seg lists d).front < length lists.sectors
  pub side : (note_seg lists d).side < length lists.sides
  pub middle : (note_seg lists d).side < length lists.middles
  pub some : IsSome (note_seg lists d).back
  pub back : IfSome (note_seg lists d).back (λ back. back < length lists.sectors)

-- it is one of the notes'
pub record IsNotedMiddle (lists : MaskedLists) (openings : List ℤ) (notes : List FragmentNote) (number : ℕ) (own : ℤ) : Type 0 where
  pub note : FragmentNote
  pub among : Contains notes note
  pub is : IsMiddleColumn lists openings note number own

-- a lump is the picture of a sprite that has a column in the view
abbrev pub IsPictureOf : SpriteEntry → ℕ → Type 0
IsPictureOf e lump = (lump ≡ e.lump) × (e.first ≤ℤ e.last)

-- it is that of one of the sprites
pub record IsSpriteLump (sprites : List SpriteEntry) (lump : ℕ) : Type 0 where
  pub sprite : SpriteEntry
  pub among : Contains sprites sprite
  pub is : IsPictureOf sprite lump
