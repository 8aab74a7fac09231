-- Lumps that are asked for by name.
use Rattle.std.specs.Prelude.{◌≡◌, ℕ, List, Option, Some, option_and_then}
use Rattle.lump_cache.specs.Rules.{Heap, Lump, LumpNo, bytes_of, last_of}
use Rattle.lump_cache.specs.Caches.{lump_owner}

-- the lump is the last of a name
abbrev pub IsLast : List Lump → List ℕ → ℕ → Type 0
IsLast lumps name lump = last_of lumps name ≡ Some lump

-- the bytes that a cache has of a lump, if there is one
abbrev pub live_bytes : Option LumpNo → Heap → Option (List ℕ)
live_bytes lump z = option_and_then (λ (l : LumpNo). bytes_of (lump_owner l.0) z.blocks) lump
