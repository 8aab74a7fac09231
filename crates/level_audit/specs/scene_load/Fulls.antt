-- When the zone is full while a scene is loaded.
use Rattle.std.specs.Prelude.{◌≡◌, ◌≢◌, ◌<◌, ◌≤◌, ◌+◌, ℕ, List, Option, Some, Ok, ◌⊎◌}
use Rattle.level_audit.specs.Rules.{File, LevelJobValue, Lump, MIN_FRAGMENT, block_size, colormap_of, lump_at}
use Rattle.texture_build.specs.Sizes.{IsGapAround}
use Rattle.csv_tables.specs.declared.weapons.WeaponRow.{WeaponRow}
use Rattle.sprite_book.specs.Calls.{IsWanted}
use Rattle.job_files.specs.Files.{FilesValue, files_in}
use Rattle.level_audit.specs.{Asked.IsOfBase, Reads.IsReadBy, Weapons.weapon_needs}
use Rattle.level_audit.specs.scene_load.Loads.{LoadedValue, audited_in, load_in, loaded_sizes, wad_bytes}

-- The block of COLORMAP and that of any other lump of colours, of the map or of the lists are together
-- no larger than the zone.
abbrev pub IsBaseWithin : List Lump → LevelJobValue → ℕ → Type 0
IsBaseWithin lumps level colormap =
    (lump : ℕ) → IsOfBase lumps level.map_name lump → lump ≢ colormap →
    block_size (lump_at lumps colormap).size + block_size (lump_at lumps lump).size ≤ level.settings.zone

-- a picture of a weapon layer
abbrev pub IsOfLayers : List Lump → Option (List WeaponRow) → ℕ → Type 0
IsOfLayers lumps weapons lump = (rows : List WeaponRow) × (weapons ≡ Some rows) × IsWanted lumps (weapon_needs rows) lump

-- a lump that loading reads: one of the audit, or a picture of a weapon layer
abbrev pub IsReadFor : (ℕ → List ℕ) → LevelJobValue → FilesValue → ℕ → Type 0
IsReadFor bytes level values lump =
    IsReadBy bytes values.lumps values.things level.map_name level.settings.skill lump ⊎ IsOfLayers values.lumps values.weapons lump

-- No gap held the block of a lump that is read, whose bytes are these, and the zone does not hold it
-- beside COLORMAP. The widest gap is the whole zone, if the lump is COLORMAP, and else what is left there.
pub record IsBlockOver (bytes : ℕ → List ℕ) (level : LevelJobValue) (values : FilesValue) (wanted widest' : ℕ) : Type 0 where
  pub lump : ℕ
  pub asked : IsReadFor bytes level values lump
  pub wanted_is : wanted ≡ block_size (lump_at values.lumps lump).size
  pub narrow : widest' < wanted
  pub colormap : ℕ
  pub colormap_is : colormap_of values.lumps ≡ Ok colormap
  pub small : level.settings.zone < block_size (lump_at values.lumps colormap).size + wanted + MIN_FRAGMENT
  pub gap : IsGapAround level.settings.zone (block_size (lump_at values.lumps colormap).size) wanted widest'

-- There is such a block; and where nothing refuses, the zone is smaller than enough.
pub record IsFullOver (bytes : ℕ → List ℕ) (level : LevelJobValue) (values : FilesValue) (wanted widest' : ℕ) : Type 0 where
  pub block : IsBlockOver bytes level values wanted widest'
  pub enough : (loaded : LoadedValue) → audited_in bytes level values ≡ Ok loaded → level.settings.zone < (loaded_sizes loaded).enough

-- The files are in order, and there is such a block; and where nothing refuses, the zone is smaller than
-- enough.
pub record IsFullLoad (level : LevelJobValue) (wads : List (List ℕ)) (files : List File) (wanted widest' : ℕ) : Type 0 where
  pub values : FilesValue
  pub are : files_in level.files wads level.settings files ≡ Ok values
  pub block : IsBlockOver (wad_bytes wads files values.lumps) level values wanted widest'
  pub enough : (loaded : LoadedValue) → load_in level wads files ≡ Ok loaded → level.settings.zone < (loaded_sizes loaded).enough
