-- The textures that a level wants: their patches as lumps and their columns, or the first refusal
-- (R_GenerateLookup, r_data.c).
use Rattle.std.specs.Prelude.{ℕ, suc, ◌==◌, Bool, false, true, cond, nat_lt, List, [], ◌∷◌, filter, Option, Some, None, Result, Ok, Err, slice_get, option_and_then, option_map}
use Rattle.std.specs.List.{range_with_len, list_any}
use Rattle.outside.specs.Faults.{and_then}
use Rattle.art_rules.specs.{declared.patch.Patch.Patch, declared.PlacedPatch.PlacedPatch}
use Rattle.art_rules.specs.{declared.ColumnLookup.ColumnLookup, declared.TextureEntry.TextureEntry}
use Rattle.art_rules.specs.declared.refusal.TexRefusal.{TexRefusal}
use Rattle.art_rules.specs.declared.refusal.TexRefusal.TheVariants.{MissingPatch, TooBig}
use Rattle.art_rules.specs.{declared.TheConstants.MAX_COMPOSITE, Patches.patch_of}
use Rattle.art_rules.specs.{Textures.Texture, Textures.TextureLists, Columns.composite_size}
use Rattle.art_rules.specs.Lookups.{column_lookups}

-- what a patch's number means: the last lump of its name, where that is a patch
unfoldable pub place_patch : TextureEntry → ℕ → Patch → PlacedPatch
place_patch entry lump patch = record { lump = lump; x = entry.x; y = entry.y; width = patch.width }

unfoldable pub place_lump : (ℕ → List ℕ) → TextureEntry → ℕ → Option PlacedPatch
place_lump bytes entry lump = option_map (place_patch entry lump) (patch_of (bytes lump))

-- last gives the last lump of a name
unfoldable pub placed_patch : (List ℕ → Option ℕ) → (ℕ → List ℕ) → List (List ℕ) → TextureEntry →
    Option PlacedPatch
placed_patch last bytes names entry =
    option_and_then (place_lump bytes entry) (option_and_then last (slice_get names entry.number))

-- all of them, None where one is missing
unfoldable pub placed_patches : (List ℕ → Option ℕ) → (ℕ → List ℕ) → List (List ℕ) →
    List TextureEntry → Option (List PlacedPatch)
placed_patches last bytes names [] = Some []
placed_patches last bytes names (entry ∷ rest) =
    option_and_then
    (λ patch. option_map (λ patches. patch ∷ patches) (placed_patches last bytes names rest))
    (placed_patch last bytes names entry)

-- what is kept of a wanted texture: its patches in order, its rows, and what each of its columns is
-- read from
pub record PreparedTexture : Type 0 where
  pub patches : List PlacedPatch
  pub height : ℕ
  pub columns : List ColumnLookup

unfoldable pub texture_of : (ℕ → List ℕ) → Texture → List PlacedPatch → PreparedTexture
texture_of bytes t patches =
    record {
      patches = patches;
      height = t.height;
      columns = column_lookups bytes patches t.width t.height;
    }

-- texture t, refused where a patch is missing or the composite is too big
unfoldable pub unless_too_big : (ℕ → List ℕ) → ℕ → Texture → List PlacedPatch →
    Result PreparedTexture TexRefusal
unless_too_big bytes number t patches =
    cond (nat_lt MAX_COMPOSITE (composite_size patches t.width t.height)) (Err (TooBig number))
    (Ok (texture_of bytes t patches))

unfoldable pub unless_missing : (ℕ → List ℕ) → ℕ → Texture → Option (List PlacedPatch) →
    Result PreparedTexture TexRefusal
unless_missing bytes number t None = Err (MissingPatch number)
unless_missing bytes number t (Some patches) = unless_too_big bytes number t patches

unfoldable pub prepared : (List ℕ → Option ℕ) → (ℕ → List ℕ) → List (List ℕ) → ℕ → Texture →
    Result PreparedTexture TexRefusal
prepared last bytes names number t =
    unless_missing bytes number t (placed_patches last bytes names t.patches)

-- a texture that is not wanted is not looked at
unfoldable pub prepared_if : Bool → Result PreparedTexture TexRefusal →
    Result (Option PreparedTexture) TexRefusal
prepared_if false texture = Ok None
prepared_if true texture = and_then texture (λ t. Ok (Some t))

-- all textures from a number on, the wanted ones prepared; the least wrong number is refused
unfoldable pub prepared_from : (ℕ → Texture → Result PreparedTexture TexRefusal) → (ℕ → Bool) → ℕ →
    List Texture → Result (List (Option PreparedTexture)) TexRefusal
prepared_from prepare wanted number [] = Ok []
prepared_from prepare wanted number (t ∷ rest) =
    and_then (prepared_if (wanted number) (prepare number t)) (λ first.
    and_then (prepared_from prepare wanted (suc number) rest) (λ others. Ok (first ∷ others)))

unfoldable pub prepared_textures : (List ℕ → Option ℕ) → (ℕ → List ℕ) → TextureLists → (ℕ → Bool) →
    Result (List (Option PreparedTexture)) TexRefusal
prepared_textures last bytes lists wanted =
    prepared_from (prepared last bytes lists.names) wanted 0 lists.textures

-- a lump is a patch of one of the prepared textures
unfoldable pub is_patch_of : ℕ → Option PreparedTexture → Bool
is_patch_of lump None = false
is_patch_of lump (Some t) = list_any (λ (patch : PlacedPatch). patch.lump == lump) t.patches

unfoldable pub is_patch_of_any : List (Option PreparedTexture) → ℕ → Bool
is_patch_of_any textures lump = list_any (is_patch_of lump) textures

-- the patches of the prepared textures among the first n lumps, ascending and each once
unfoldable pub patch_lumps : List (Option PreparedTexture) → ℕ → List ℕ
patch_lumps textures n = filter (is_patch_of_any textures) (range_with_len 0 n)
