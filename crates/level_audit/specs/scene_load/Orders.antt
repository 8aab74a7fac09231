-- What loading and drawing ask the zone for, and how many bytes are read at most where the zone has
-- room for all of it.
use Rattle.std.specs.Prelude.{ℕ, ◌+◌, ◌≤◌, ◌==◌, cond, List, [], ◌∷◌, ◌++◌, map, sum_by, Option, Some, None}
use Rattle.level_audit.specs.Rules.{File, Heap, IsInOrder, Item, LevelJobValue, Lump, PreparedTexture, live_sum, lump_at, lump_size}
use Rattle.texture_build.specs.{Caches.composite_owner, Caches.lump_owner, Asked.size_of}
use Rattle.job_files.specs.Sizes.{files_size}
use Rattle.level_audit.specs.scene_load.Loads.{LoadedValue, loaded_lumps}

-- a lump, as it is asked for
abbrev pub lump_item : List Lump → ℕ → Item
lump_item lumps lump = record { owner = lump_owner lump; size = (lump_at lumps lump).size }

-- the composite of the texture of that number, where it has bytes
abbrev pub composite_item : ℕ → Option PreparedTexture → List Item
composite_item number None = []
composite_item number (Some t) = cond (size_of t == 0) [] (record { owner = composite_owner number; size = size_of t } ∷ [])

-- the composites of these textures, of which the first has that number
unfoldable pub composite_items : ℕ → List (Option PreparedTexture) → List Item
composite_items number [] = []
composite_items number (t ∷ ts) = composite_item number t ++ composite_items (number + 1) ts

-- all that is asked for: the lumps that are needed, and the composites of the prepared textures
unfoldable pub loaded_items : LoadedValue → List Item
loaded_items loaded = map (lump_item loaded.files.lumps) (loaded_lumps loaded) ++ composite_items 0 loaded.scene.prepared

-- the needed lumps, each once
unfoldable pub lumps_size : LoadedValue → ℕ
lumps_size loaded = sum_by (λ lump. (lump_at loaded.files.lumps lump).size) (loaded_lumps loaded)

-- A cache in order for all that is asked for, and between these counts of bytes that were read, no more
-- than the files and the lumps that are live.
pub record IsLoadedInOrder (level : LevelJobValue) (wads : List (List ℕ)) (files : List File) (expected : LoadedValue) (before after : ℕ) (cache : Heap) : Type 0 where
  pub order : IsInOrder (loaded_items expected) cache
  pub taken : after ≤ before + (files_size level.files wads files + live_sum lump_size (loaded_items expected) cache.blocks)
