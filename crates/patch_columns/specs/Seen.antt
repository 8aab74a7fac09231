-- What each column of a texture is read from while its patches come one after the other.
use Rattle.std.specs.Prelude.{◌≡◌, ℕ, ◌<◌, pos, List, [], length, cond, slice_index_or, refl}
use Rattle.patch_columns.specs.Rules.{ColumnLookup, Composed, Empty, PlacedPatch, Single, column_place, listed, lookup_of, own_column, patches_in, stands_in}

-- column x by the patches so far; where in the composite it begins is not known yet, and stands as
-- 0
unfoldable pub seen_lookup : (ℕ → List ℕ) → List PlacedPatch → ℕ → ColumnLookup
seen_lookup bytes patches x = lookup_of bytes 0 x (patches_in patches x)

unfoldable pub seen_lookups : (ℕ → List ℕ) → List PlacedPatch → ℕ → List ColumnLookup
seen_lookups bytes patches width = listed (seen_lookup bytes patches) width

-- the same of each column, whatever the bytes of its patches' lumps were
pub record IsSeen (patches : List PlacedPatch) (x : ℕ) (lookup : ColumnLookup) : Type 0 where
  pub bytes : ℕ → List ℕ
  pub is : lookup ≡ seen_lookup bytes patches x

pub record AreSeen (patches : List PlacedPatch) (columns : List ColumnLookup) : Type 0 where
  pub at : (x : ℕ) → x < length columns → IsSeen patches x (slice_index_or columns x Empty)

-- column x once one more patch stands in it, of which these are the lump's bytes
unfoldable pub lookup_behind : List ℕ → PlacedPatch → ℕ → ColumnLookup → ColumnLookup
lookup_behind lump patch x Empty = Single patch.lump (column_place lump (own_column x patch))
lookup_behind lump patch x (Single other place) = Composed 0
lookup_behind lump patch x (Composed place) = Composed 0

-- column x once one more patch is added to the texture
unfoldable pub lookup_with : List ℕ → PlacedPatch → ℕ → ColumnLookup → ColumnLookup
lookup_with lump patch x lookup =
    cond (stands_in x patch) (lookup_behind lump patch x lookup) lookup

-- all columns once one more patch is added
unfoldable pub columns_with : List ℕ → PlacedPatch → List ColumnLookup → List ColumnLookup
columns_with lump patch columns =
    listed (λ x. lookup_with lump patch x (slice_index_or columns x Empty)) (length columns)

-- a column once its place in the composite is known
unfoldable pub placed_lookup : ℕ → ColumnLookup → ColumnLookup
placed_lookup start Empty = Empty
placed_lookup start (Single lump place) = Single lump place
placed_lookup start (Composed place) = Composed start

-- the bytes of a column in the composite of a texture of that height
unfoldable pub composed_bytes : ℕ → ColumnLookup → ℕ
composed_bytes height Empty = 0
composed_bytes height (Single lump place) = 0
composed_bytes height (Composed place) = height

-- a second patch makes a column a composed one; a patch that stands beside it changes nothing
pub lookup_with_row : lookup_with [] (record { lump = 7; x = pos 2; y = pos 0; width = 4 }) 5
    (Single 3 20) ≡ Composed 0
unfolding lookup_with stands_in lookup_behind
lookup_with_row = refl

pub lookup_beside_row : lookup_with [] (record { lump = 7; x = pos 2; y = pos 0; width = 4 }) 6
    (Single 3 20) ≡ Single 3 20
unfolding lookup_with stands_in lookup_behind
lookup_beside_row = refl
