-- What a contract sees of textures: the lists, and by number those that are prepared.
use Rattle.std.specs.Prelude.{◌≡◌, ℕ, ◌<◌, ◌==◌, Bool, false, List, [], length, All, Option, None, IsSome, IfSome, unwrap_or, slice_index_or, Ok}
use Rattle.std.specs.List.{list_any}
use Rattle.texture_build.specs.Rules.{Lump, PNAMES, PlacedPatch, PreparedTexture, TEXTURE1, TEXTURE2, Texture, TextureLists, last_of, lump_bytes, named_bytes, prepared_textures, texture_at, texture_lists}
use Rattle.texture_lists.specs.declared.number.TexNo.{TexNo}

pub record TexturesView : Type 0 where
  pub lists : TextureLists
  -- none before the first `prepare` and after one that fails
  pub prepared : List (Option PreparedTexture)

-- what is prepared of a texture
abbrev pub prepared_at : List (Option PreparedTexture) → ℕ → Option PreparedTexture
prepared_at prepared number = slice_index_or prepared number None

abbrev pub IsPrepared : TexturesView → ℕ → Type 0
IsPrepared textures number = IsSome (prepared_at textures.prepared number)

-- a texture for numbers that are not prepared, and the prepared texture of a number
abbrev pub unprepared : PreparedTexture
unprepared = record { patches = []; height = 0; columns = [] }

abbrev pub prepared_texture : TexturesView → ℕ → PreparedTexture
prepared_texture textures number = unwrap_or (prepared_at textures.prepared number) unprepared

-- a mark is set
abbrev pub is_marked : List Bool → ℕ → Bool
is_marked marks number = slice_index_or marks number false

-- the numbers that are wanted
abbrev pub is_wanted : List TexNo → ℕ → Bool
is_wanted wanted number = list_any (λ (tex : TexNo). tex.0 == number) wanted

-- these textures are those of a directory whose files have these contents
pub record AreTexturesOf (contents : List (List ℕ)) (lumps : List Lump)
    (textures : TexturesView) : Type 0 where
  pub wanted : ℕ → Bool
  pub lists : texture_lists (named_bytes (lump_bytes contents lumps) lumps PNAMES)
      (named_bytes (lump_bytes contents lumps) lumps TEXTURE1)
      (named_bytes (lump_bytes contents lumps) lumps TEXTURE2) ≡ Ok textures.lists
  pub prepared : prepared_textures (last_of lumps) (lump_bytes contents lumps) textures.lists wanted
      ≡ Ok textures.prepared

-- the lumps of a texture's patches are of the directory
abbrev pub ArePatchesThere : List Lump → PreparedTexture → Type 0
ArePatchesThere lumps t = All (λ (patch : PlacedPatch). patch.lump < length lumps) t.patches

abbrev pub AllThere : List Lump → TexturesView → Type 0
AllThere lumps textures =
    All (λ (t : Option PreparedTexture). IfSome t (ArePatchesThere lumps)) textures.prepared

-- a prepared texture has as many columns and rows as its record says
abbrev pub IsListedAs : Texture → PreparedTexture → Type 0
IsListedAs listed t = (length t.columns ≡ listed.width) × (t.height ≡ listed.height)

abbrev pub AllTexturesListed : TexturesView → Type 0
AllTexturesListed textures = (number : ℕ) →
    IfSome (prepared_at textures.prepared number)
    (IsListedAs (texture_at textures.lists.textures number))
