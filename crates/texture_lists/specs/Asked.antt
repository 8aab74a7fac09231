-- The lumps that are asked for by name.
use Rattle.std.specs.Prelude.{ℕ, List, ◌⊎◌, Option, option_map}
use Rattle.texture_lists.specs.Rules.{Lump, LumpNo, PNAMES, TEXTURE1, TEXTURE2}
use Rattle.lump_cache.specs.Named.{IsLast}

-- a list of textures
abbrev pub IsTextureLump : List Lump → ℕ → Type 0
IsTextureLump lumps lump = IsLast lumps TEXTURE1 lump ⊎ IsLast lumps TEXTURE2 lump

-- the same, or the names of patches
abbrev pub IsListLump : List Lump → ℕ → Type 0
IsListLump lumps lump = IsLast lumps PNAMES lump ⊎ IsLast lumps TEXTURE1 lump ⊎
    IsLast lumps TEXTURE2 lump

-- the number of a lump, if there is one
abbrev pub lump_number : Option LumpNo → Option ℕ
lump_number lump = option_map (λ (l : LumpNo). l.0) lump
