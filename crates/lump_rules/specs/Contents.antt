-- The bytes of lumps, given those of their files.
use Rattle.std.specs.Prelude.{ℕ, ◌+◌, ◌<◌, ◌≤◌, List, [], length, take, drop, slice_index_or, All, Option, option_map}
use Rattle.lump_rules.specs.{declared.wad.Lump.Lump, Lookups.lump_at, Lookups.last_of}

-- the bytes of the file of that index
abbrev pub file_bytes : List (List ℕ) → ℕ → List ℕ
file_bytes contents file = slice_index_or contents file []

-- the bytes of a lump
abbrev pub bytes_of : List (List ℕ) → Lump → List ℕ
bytes_of contents lump = take lump.size (drop lump.place (file_bytes contents lump.file))

-- the bytes of the lump of that number
unfoldable pub lump_bytes : List (List ℕ) → List Lump → ℕ → List ℕ
lump_bytes contents lumps number = bytes_of contents (lump_at lumps number)

-- a lump lies within its file, which is one of these
pub record LiesWithin (contents : List (List ℕ)) (lump : Lump) : Type 0 where
  pub file : lump.file < length contents
  pub bytes : 0 < lump.size → lump.place + lump.size ≤ length (file_bytes contents lump.file)

-- each lump lies within its file
abbrev pub AllWithin : List (List ℕ) → List Lump → Type 0
AllWithin contents lumps = All (LiesWithin contents) lumps

-- the bytes of the last lump of a name
abbrev pub named_bytes : (ℕ → List ℕ) → List Lump → List ℕ → Option (List ℕ)
named_bytes bytes lumps name = option_map bytes (last_of lumps name)
