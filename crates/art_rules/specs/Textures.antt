-- The names of patches and the two lists of textures, or the first refusal of these lumps
-- (R_InitTextures, r_data.c).
use Rattle.std.specs.Prelude.{◌≡◌, ℕ, zero, suc, ◌+◌, ◌-◌, ◌*◌, ◌^◌, ◌==◌, ◌||◌, Bool, false, nat_lt, pos, int_lt, if◌then◌else◌, List, [], ◌++◌, length, take, drop, Option, Some, None, Result, Ok, Err, slice_index, slice_get, slice_index_or, option_map, refl}
use Rattle.std.specs.Option.{option_map_or}
use Rattle.std.specs.Str.{bytes_eq}
use Rattle.outside.specs.Faults.{and_then}
use Rattle.word_rules.specs.{Least.least, Least.or_else, Listed.listed}
use Rattle.lump_rules.specs.Names.{name_of}
use Rattle.art_rules.specs.declared.TextureEntry.{TextureEntry}
use Rattle.art_rules.specs.declared.refusal.TexRefusal.{TexRefusal}
use Rattle.art_rules.specs.declared.refusal.TexRefusal.TheVariants.{Pnames, Lump, Entry}
use Rattle.art_rules.specs.declared.TheConstants.{MAX_TEXTURES, NO_TEXTURE, FIRST_LIST, SECOND_LIST}
use Rattle.art_rules.specs.declared.layout.TheConstants.{NAME_SIZE, COUNT_SIZE, PLACE_SIZE, TEXTURE_WIDTH_AT, TEXTURE_HEIGHT_AT, PATCH_COUNT_AT, TEXTURE_HEAD_SIZE, ENTRY_SIZE, ENTRY_Y_AT, ENTRY_NUMBER_AT}
use Rattle.word_rules.specs.Bytes.{half_at, signed_half_at, word_at}

-- a texture of the lists: its name, its columns, its rows, and its patches in order
pub record Texture : Type 0 where
  pub name : List ℕ
  pub width : ℕ
  pub height : ℕ
  pub patches : List TextureEntry

-- the names of patches, and the textures of both lists
pub record TextureLists : Type 0 where
  pub names : List (List ℕ)
  pub textures : List Texture

-- what a list counts
unfoldable pub list_count : List ℕ → ℕ
list_count bytes = word_at bytes 0

-- a list of items of that size is shorter than its count says
unfoldable pub is_short : ℕ → List ℕ → Bool
is_short size bytes = nat_lt (length bytes) COUNT_SIZE
    || nat_lt (length bytes) (COUNT_SIZE + size * list_count bytes)

-- the name at a place
unfoldable pub name_at : List ℕ → ℕ → List ℕ
name_at bytes place = name_of (take NAME_SIZE (drop place bytes))

-- the names of patches
unfoldable pub names_in : List ℕ → List (List ℕ)
names_in bytes = listed (λ i. name_at bytes (COUNT_SIZE + NAME_SIZE * i)) (list_count bytes)

-- the patch of a texture at a place
unfoldable pub entry_at : List ℕ → ℕ → TextureEntry
entry_at bytes place =
    record {
      x = signed_half_at bytes place;
      y = signed_half_at bytes (place + ENTRY_Y_AT);
      number = half_at bytes (place + ENTRY_NUMBER_AT);
    }

unfoldable pub patch_count : List ℕ → ℕ → ℕ
patch_count bytes place = half_at bytes (place + PATCH_COUNT_AT)

-- the texture whose record begins at a place
unfoldable pub texture_in : List ℕ → ℕ → Texture
texture_in bytes place = record {
  name = name_at bytes place;
  width = half_at bytes (place + TEXTURE_WIDTH_AT);
  height = half_at bytes (place + TEXTURE_HEIGHT_AT);
  patches = listed (λ i. entry_at bytes (place + TEXTURE_HEAD_SIZE + ENTRY_SIZE * i))
      (patch_count bytes place);
}

-- where record i begins
unfoldable pub texture_place : List ℕ → ℕ → ℕ
texture_place bytes i = word_at bytes (COUNT_SIZE + PLACE_SIZE * i)

-- the record that begins at a place passes the lump's end, or the texture has no column or no row
unfoldable pub is_wrong : List ℕ → ℕ → Bool
is_wrong bytes place =
    nat_lt (length bytes) (place + TEXTURE_HEAD_SIZE + ENTRY_SIZE * patch_count bytes place)
    || int_lt (signed_half_at bytes (place + TEXTURE_WIDTH_AT)) (pos 1)
    || int_lt (signed_half_at bytes (place + TEXTURE_HEIGHT_AT)) (pos 1)

-- the textures of a list
unfoldable pub textures_in : List ℕ → List Texture
textures_in bytes = listed (λ i. texture_in bytes (texture_place bytes i)) (list_count bytes)

-- the first wrong record of a list
unfoldable pub wrong_record : List ℕ → Option ℕ
wrong_record bytes = least (λ i. is_wrong bytes (texture_place bytes i)) (list_count bytes)

-- the names of patches, refused where the lump is not there or is short
unfoldable pub patch_names : Option (List ℕ) → Result (List (List ℕ)) TexRefusal
patch_names None = Err Pnames
patch_names (Some bytes) = if is_short NAME_SIZE bytes then Err Pnames else Ok (names_in bytes)

-- a list is short, or its textures pass the limit behind those before it
unfoldable pub is_bad_list : ℕ → List ℕ → Bool
is_bad_list before bytes = is_short PLACE_SIZE bytes
    || nat_lt MAX_TEXTURES (before + list_count bytes)

unfoldable pub first_list : Option (List ℕ) → Result (List ℕ) TexRefusal
first_list None = Err (Lump FIRST_LIST)
first_list (Some bytes) = if is_bad_list 0 bytes then Err (Lump FIRST_LIST) else Ok bytes

-- the second list need not be there; without it no texture follows those of the first
unfoldable pub second_list : ℕ → Option (List ℕ) → Result (Option (List ℕ)) TexRefusal
second_list before None = Ok None
second_list before (Some bytes) =
    if is_bad_list before bytes then Err (Lump SECOND_LIST) else Ok (Some bytes)

-- the textures of the second list, and the number of its first wrong record
unfoldable pub later_textures : Option (List ℕ) → List Texture
later_textures None = []
later_textures (Some bytes) = textures_in bytes

unfoldable pub later_wrong : ℕ → Option (List ℕ) → Option ℕ
later_wrong before None = None
later_wrong before (Some bytes) = option_map (λ i. before + i) (wrong_record bytes)

-- the number of the first texture whose record is wrong
unfoldable pub first_wrong : List ℕ → Option (List ℕ) → Option ℕ
first_wrong first second = or_else (wrong_record first) (later_wrong (list_count first) second)

unfoldable pub unless_wrong : Option ℕ → List Texture → Result (List Texture) TexRefusal
unless_wrong None textures = Ok textures
unless_wrong (Some number) textures = Err (Entry number)

-- the textures of both lists, refused for the first wrong record
unfoldable pub joined_textures : List ℕ → Option (List ℕ) → Result (List Texture) TexRefusal
joined_textures first second =
    unless_wrong (first_wrong first second) (textures_in first ++ later_textures second)

-- both lists are judged as wholes before a record of either is
unfoldable pub both_lists : Option (List ℕ) → Option (List ℕ) → Result (List Texture) TexRefusal
both_lists texture1 texture2 =
    and_then (first_list texture1) (λ first.
    and_then (second_list (list_count first) texture2) (λ second. joined_textures first second))

-- the lists by their three lumps, judged one after the other
unfoldable pub texture_lists : Option (List ℕ) → Option (List ℕ) → Option (List ℕ) →
    Result TextureLists TexRefusal
texture_lists pnames texture1 texture2 =
    and_then (patch_names pnames) (λ names.
    and_then (both_lists texture1 texture2)
    (λ textures. Ok (record { names = names; textures = textures })))

-- a name that begins so stands for no texture
unfoldable pub is_no_texture : List ℕ → Bool
is_no_texture name = slice_index name 0 == NO_TEXTURE

-- a texture for numbers that no texture has, and the texture of a number
abbrev pub unlisted : Texture
unlisted = record { name = []; width = 0; height = 0; patches = [] }

abbrev pub texture_at : List Texture → ℕ → Texture
texture_at textures number = slice_index_or textures number unlisted

-- texture i has that name
abbrev pub is_named : List Texture → List ℕ → ℕ → Bool
is_named textures name i = option_map_or (λ t. bytes_eq t.name name) (slice_get textures i) false

-- the least texture of a name
unfoldable pub least_named : List Texture → List ℕ → Option ℕ
least_named textures name = least (is_named textures name) (length textures)

-- the number of a texture's name: 0 for none, else the least texture of that name
unfoldable pub texture_number : List Texture → List ℕ → Option ℕ
texture_number textures name = if is_no_texture name then Some 0 else least_named textures name

-- the greatest power of two that is at most the width, halved down from n
unfoldable pub mask_from : ℕ → ℕ → ℕ
mask_from zero width = 0
mask_from (suc n) width = if nat_lt width (2 ^ n) then mask_from n width else 2 ^ n - 1

-- the bits of a texture column: 1 less than the greatest power of two that is at most the width
unfoldable pub mask_of : ℕ → ℕ
mask_of width = mask_from 16 width

-- the mask of 64 columns and of 100
pub mask_row : mask_of 64 ≡ 63
unfolding mask_of mask_from
mask_row = refl

pub odd_mask_row : mask_of 100 ≡ 63
unfolding mask_of mask_from
odd_mask_row = refl
