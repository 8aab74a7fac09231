-- What a texture column is read from.
use Rattle.std.specs.Prelude.{◌≡◌, ℕ, ◌+◌, ◌<◌, ◌≤◌, false, ℤ, List, [], Option, Some, length, option_map, slice_index_or}
use Rattle.texture_build.specs.Rules.{ColumnLookup, Composed, Empty, Lump, POST_BYTES_AT, PreparedTexture, Single, mask_of, masked_column}
use Rattle.lump_cache.specs.Zones.{Heap, IsLive, bytes_of, block_size, same_owner}
use Rattle.lump_cache.specs.Caches.{lump_owner, composite_owner}
use Rattle.texture_build.specs.declared.source.ColumnSource.{ColumnSource}
use Rattle.texture_build.specs.declared.source.ColumnSource.TheVariants as source

-- what a column of a prepared texture, counted from its left one, is read from
abbrev pub own_lookup : PreparedTexture → ℕ → ColumnLookup
own_lookup t x = slice_index_or t.columns x Empty

-- which column of a prepared texture a texture column stands for, and what it is read from
abbrev pub column_index : PreparedTexture → ℤ → ℕ
column_index t column = masked_column (mask_of (length t.columns)) column

abbrev pub column_in : PreparedTexture → ℤ → ColumnLookup
column_in t column = own_lookup t (column_index t column)

-- whose bytes it has, in the texture of that number
unfoldable pub source_of : ℕ → ColumnLookup → ColumnSource
source_of number Empty = source.Empty
source_of number (Single lump place) = source.Lump (record { 0 = lump })
source_of number (Composed place) = source.Composite (record { 0 = number })

-- the lump that a column is read from is of the directory
abbrev pub IsColumnThere : List Lump → ColumnLookup → Type 0
IsColumnThere lumps Empty = Unit {0}
IsColumnThere lumps (Single lump place) = lump < length lumps
IsColumnThere lumps (Composed place) = Unit {0}

-- a column is read from the composite
abbrev pub IsComposedColumn : ColumnLookup → Type 0
IsComposedColumn Empty = ⊥
IsComposedColumn (Single lump place) = ⊥
IsComposedColumn (Composed place) = Unit {0}

-- those bytes are live
abbrev pub IsColumnLive : ℕ → Heap → ColumnLookup → Type 0
IsColumnLive number z Empty = Unit {0}
IsColumnLive number z (Single lump place) = IsLive z (lump_owner lump)
IsColumnLive number z (Composed place) = IsLive z (composite_owner number)

-- what a column is lent as: the bytes, and which of them is its first texel
pub record ColumnView : Type 0 where
  pub bytes : List ℕ
  pub first : ℕ

abbrev pub column_from : ℕ → List ℕ → ColumnView
column_from first bytes = record { bytes = bytes; first = first }

abbrev pub column_view : ℕ → Heap → ColumnLookup → Option ColumnView
column_view number z Empty = Some (column_from 0 [])
column_view number z (Single lump place) =
    option_map (column_from (place + POST_BYTES_AT)) (bytes_of (lump_owner lump) z.blocks)
column_view number z (Composed place) =
    option_map (column_from place) (bytes_of (composite_owner number) z.blocks)

-- the zone holds a block for so many lent bytes beside one for the colormap's `count`, unless what
-- is lent is the colormap
abbrev pub IsLentBeside : ℕ → ℕ → ℕ → ColumnLookup → ℕ → Type 0
IsLentBeside zone colormap count Empty size = Unit {0}
IsLentBeside zone colormap count (Single lump place) size =
    same_owner (lump_owner colormap) (lump_owner lump) ≡ false →
    block_size count + block_size size ≤ zone
IsLentBeside zone colormap count (Composed place) size =
    block_size count + block_size size ≤ zone
