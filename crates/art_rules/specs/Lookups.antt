-- What each column of a texture is read from, and its texels by that (R_GenerateLookup,
-- R_GetColumn, r_data.c).
use Rattle.std.specs.Prelude.{◌≡◌, ℕ, ◌+◌, ◌<◌, ℤ, pos, negsuc, bit_and, Bool, true, false, is_some, List, [], ◌∷◌, length, Option, Some, None, take, slice_index_or, refl}
use Rattle.word_rules.specs.{Listed.listed, Listed.joined_lists, Words.bits_of}
use Rattle.art_rules.specs.{declared.PlacedPatch.PlacedPatch, declared.ColumnLookup.ColumnLookup}
use Rattle.art_rules.specs.declared.ColumnLookup.TheVariants.{Empty, Single, Composed}
use Rattle.word_rules.specs.Bytes.{byte_at}
use Rattle.art_rules.specs.declared.layout.TheConstants.{POST_BYTES_AT}
use Rattle.art_rules.specs.Patches.{column_place}
use Rattle.art_rules.specs.Columns.{patches_in, own_column, composed_columns, composed_column, composite_place}

-- by the patches that stand in column x: nothing, a column of one patch, or where in the composite
unfoldable pub lookup_of : (ℕ → List ℕ) → ℕ → ℕ → List PlacedPatch → ColumnLookup
lookup_of bytes start x [] = Empty
lookup_of bytes start x (patch ∷ []) =
    Single patch.lump (column_place (bytes patch.lump) (own_column x patch))
lookup_of bytes start x (first ∷ second ∷ rest) = Composed start

-- what column x is read from
unfoldable pub column_lookup : (ℕ → List ℕ) → List PlacedPatch → ℕ → ℕ → ColumnLookup
column_lookup bytes patches height x =
    lookup_of bytes (composite_place patches height x) x (patches_in patches x)

-- all columns of a texture
unfoldable pub column_lookups : (ℕ → List ℕ) → List PlacedPatch → ℕ → ℕ → List ColumnLookup
column_lookups bytes patches width height = listed (column_lookup bytes patches height) width

-- column x is read from what its patches say, whatever the bytes of their lumps were
pub record IsColumnOf (patches : List PlacedPatch) (height x : ℕ) (lookup : ColumnLookup) : Type 0
  where
    pub bytes : ℕ → List ℕ
    pub is : lookup ≡ column_lookup bytes patches height x

-- so is each column: which are composed, and where, is known without the bytes of a lump
pub record AreColumnsOf (patches : List PlacedPatch) (height : ℕ)
    (columns : List ColumnLookup) : Type 0 where
  pub at : (x : ℕ) → x < length columns →
      IsColumnOf patches height x (slice_index_or columns x Empty)

-- the composite so far, once the first n patches are put
unfoldable pub composite_of_first : (ℕ → List ℕ) → List PlacedPatch → ℕ → ℕ → ℕ → List ℕ
composite_of_first bytes patches n width height =
    joined_lists (composed_column bytes (take n patches) height) (composed_columns patches width)

-- the column of a texture that a texture column stands for, by the texture's mask
unfoldable pub masked_column : ℕ → ℤ → ℕ
masked_column mask column = bit_and (bits_of column) mask

-- texel r by a lookup, of the bytes of lumps and those of the composite
unfoldable pub texel_by : (ℕ → List ℕ) → List ℕ → ColumnLookup → ℕ → ℕ
texel_by bytes composed Empty r = 0
texel_by bytes composed (Single lump place) r = byte_at (bytes lump) (place + POST_BYTES_AT + r)
texel_by bytes composed (Composed place) r = byte_at composed (place + r)

-- the one lump that a column is read from, and where its posts begin there
unfoldable pub single_place : ColumnLookup → Option (ℕ × ℕ)
single_place Empty = None
single_place (Single lump place) = Some (lump, place)
single_place (Composed place) = None

-- a column is read from one lump, or from the composite
unfoldable pub is_single_lookup : ColumnLookup → Bool
is_single_lookup lookup = is_some (single_place lookup)

unfoldable pub is_composed_lookup : ColumnLookup → Bool
is_composed_lookup Empty = false
is_composed_lookup (Single lump place) = false
is_composed_lookup (Composed place) = true

-- texture column 70 and -1 of a texture of 64 columns
pub masked_row : masked_column 63 (pos 70) ≡ 6
unfolding masked_column
masked_row = refl

pub masked_left_row : masked_column 63 (negsuc 0) ≡ 63
unfolding masked_column
masked_left_row = refl
