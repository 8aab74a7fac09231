-- What the files of a job over a level give: tables, a scene and the pictures of weapon layers; or the
-- first step that stops.
use Rattle.std.specs.Prelude.{ℕ, List, [], ◌++◌, Option, Some, None, Result, Ok}
use Rattle.level_audit.specs.Rules.{AuditRefusal, File, Frame, LevelJobValue, Lump, SceneValue, Stop, WeaponArt, ZoneSizes, and_then, book_lumps, from_below, lump_bytes, needed_lumps, no_file, scene_in, zone_sizes}
use Rattle.csv_tables.specs.declared.weapons.WeaponRow.{WeaponRow}
use Rattle.refusals.specs.declared.refusal.Refusal.{Refusal}
use Rattle.job_files.specs.{Files.FilesValue, Files.files_in, Files.value_of, Sizes.wad_contents}
use Rattle.sound_scene.specs.Sound.{SoundValue, art_with, with_book}
use Rattle.level_audit.specs.{Weapons.weapon_book, declared.scene_load.load.LoadedScene.LoadedScene}
use Rattle.refusals.specs.declared.refusal.Refusal.TheVariants.{Level}

-- what is loaded: what the files give, the scene, and the book of the weapon layers, where a file of
-- them is named
pub record LoadedValue : Type 0 where
  pub files : FilesValue
  pub scene : SceneValue
  pub weapons : Option (List Frame)

abbrev pub loaded_value : LoadedScene → LoadedValue
loaded_value loaded = record { files = value_of loaded.files; scene = loaded.scene.scene; weapons = loaded.weapons }

-- the same, of what an audit gives over the files
abbrev pub audited_value : FilesValue → SoundValue × Option (List Frame) → LoadedValue
audited_value values audited = record { files = values; scene = audited.0.scene; weapons = audited.1 }

-- a sound scene, which needs the pictures of the weapon layers too
abbrev pub with_layers : List Lump → Option (List Frame) → SoundValue → SoundValue
with_layers lumps None sound = sound
with_layers lumps (Some book) sound = with_book lumps book sound

-- the bytes of a lump of the WADs of these names
abbrev pub wad_bytes : List (List ℕ) → List File → List Lump → ℕ → List ℕ
wad_bytes wads files lumps = lump_bytes (wad_contents wads files) lumps

-- checks of lumps ask for no file
abbrev pub stops_of_audit : {A : Type 0} → Result A AuditRefusal → Result A (Stop Refusal)
stops_of_audit expected = no_file (from_below Level expected)

-- the book of weapon layers, where there are some
unfoldable pub weapons_of : (ℕ → List ℕ) → List Lump → Option (List WeaponRow) → Result (Option (List Frame)) AuditRefusal
weapons_of bytes lumps None = Ok None
weapons_of bytes lumps (Some rows) = and_then (from_below WeaponArt (weapon_book bytes lumps rows)) (λ book. Ok (Some book))

-- the scene of the level, and then the weapon layers, over the lumps of the files
unfoldable pub audited_in : (ℕ → List ℕ) → LevelJobValue → FilesValue → Result LoadedValue AuditRefusal
audited_in bytes level values =
    and_then (scene_in bytes values.lumps values.things level.map_name level.settings.skill) (λ scene.
    and_then (weapons_of bytes values.lumps values.weapons) (λ weapons.
    Ok (record { files = values; scene = scene; weapons = weapons })))

-- all steps: the files in their order, then the lumps
unfoldable pub load_in : LevelJobValue → List (List ℕ) → List File → Result LoadedValue (Stop Refusal)
load_in level wads files =
    and_then (files_in level.files wads level.settings files) (λ values.
    stops_of_audit (audited_in (wad_bytes wads files values.lumps) level values))

-- the lumps of the pictures of a scene and of its weapon layers
abbrev pub weapon_lumps : Option (List Frame) → List ℕ
weapon_lumps None = []
weapon_lumps (Some book) = book_lumps book

abbrev pub loaded_pictures : LoadedValue → List ℕ
loaded_pictures loaded = book_lumps loaded.scene.book ++ weapon_lumps loaded.weapons

-- the lumps that are needed, and how large a zone has to be for them
unfoldable pub loaded_lumps : LoadedValue → List ℕ
loaded_lumps loaded = needed_lumps loaded.files.lumps (art_with loaded.scene (loaded_pictures loaded))

unfoldable pub loaded_sizes : LoadedValue → ZoneSizes
loaded_sizes loaded = zone_sizes loaded.files.lumps (art_with loaded.scene (loaded_pictures loaded))
