-- What may be asked of the zone, and how small a zone is that had no room.
use Rattle.std.specs.Prelude.{◌≡◌, ℕ, ◌+◌, ◌<◌, Bool, true, List, Contains, Option, Some, length, option_and_then, slice_get, ◌⊎◌}
use Rattle.texture_build.specs.Rules.{ColumnLookup, Composed, Empty, Lump, PlacedPatch, PreparedTexture, Single, Texture, TextureEntry, TextureLists, composite_size, last_of, lump_at}
use Rattle.lump_cache.specs.Zones.{Owner, Heap, block_size}
use Rattle.lump_cache.specs.Orders.{Item, has_item}
use Rattle.lump_cache.specs.Caches.{IsAtRest, lump_owner, composite_owner}
use Rattle.lump_cache.specs.Sizes.{IsGapBeside, IsGapBesideTwo}
use Rattle.texture_build.specs.Sources.{IsComposedColumn}

-- the lump of a patch's name
abbrev pub patch_lump : List Lump → List (List ℕ) → TextureEntry → Option ℕ
patch_lump lumps names entry = option_and_then (last_of lumps) (slice_get names entry.number)

-- a patch of a wanted texture
pub record IsWantedPatch (lumps : List Lump) (lists : TextureLists) (wanted : ℕ → Bool)
    (lump : ℕ) : Type 0 where
  pub number : ℕ
  pub texture : Texture
  pub at : slice_get lists.textures number ≡ Some texture
  pub chosen : wanted number ≡ true
  pub entry : TextureEntry
  pub among : Contains texture.patches entry
  pub is : patch_lump lumps lists.names entry ≡ Some lump

-- the bytes of a prepared texture's composite
abbrev pub size_of : PreparedTexture → ℕ
size_of t = composite_size t.patches (length t.columns) t.height

-- for whom, and how many bytes: the composite of the texture of that number, or one of its patches
abbrev pub IsComposite : ℕ → PreparedTexture → Owner → ℕ → Type 0
IsComposite number t o size = (o ≡ composite_owner number) × (size ≡ size_of t)

abbrev pub IsPatch : List Lump → PreparedTexture → Owner → ℕ → Type 0
IsPatch lumps t o size = (patch : PlacedPatch) × Contains t.patches patch ×
    (o ≡ lump_owner patch.lump) × (size ≡ (lump_at lumps patch.lump).size)

-- what a column asks for, by what it is read from
abbrev pub IsAskedByColumn : List Lump → ℕ → PreparedTexture → ColumnLookup → Owner → ℕ → Type 0
IsAskedByColumn lumps number t Empty o size = ⊥
IsAskedByColumn lumps number t (Single lump place) o size = (o ≡ lump_owner lump) ×
    (size ≡ (lump_at lumps lump).size)
IsAskedByColumn lumps number t (Composed place) o size = IsComposite number t o size ⊎
    IsPatch lumps t o size

-- the widest gap of a zone in which the colormap and a composite are pinned
abbrev pub IsGapBesideComposite : ℕ → ℕ → ℕ → ℕ → Type 0
IsGapBesideComposite zone colormap composite widest' =
    IsGapBesideTwo zone (block_size colormap + block_size composite) widest'

-- No gap held what a column asked for. Where the cache was at rest, the widest gap is all that is left
-- beside the colormap; a patch of a composed column has to stand beside the composite too.
pub record IsFullForColumn (lumps : List Lump) (number : ℕ) (t : PreparedTexture)
    (lookup : ColumnLookup) (z : Heap) (wanted widest' : ℕ) : Type 0 where
  pub owner : Owner
  pub size : ℕ
  pub asked : IsAskedByColumn lumps number t lookup owner size
  pub wanted_is : wanted ≡ block_size size
  pub narrow : widest' < wanted
  pub gap : (colormap count : ℕ) → IsAtRest colormap count z →
      IsGapBeside z.size (block_size count) widest' ⊎
      (IsComposedColumn lookup × IsPatch lumps t owner size
      × IsGapBesideComposite z.size count (size_of t) widest')

-- a list has all that a column asks for
abbrev pub HasColumnAsked : List Item → List Lump → ℕ → PreparedTexture → ColumnLookup → Type 0
HasColumnAsked items lumps number t lookup = (o : Owner) (size : ℕ) →
    IsAskedByColumn lumps number t lookup o size → has_item items o size ≡ true
