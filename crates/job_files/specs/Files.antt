-- What the files of a job over a level give: tables of angles, things, a path, weapons where a file
-- of them is named, and the lumps of the WADs; or the first step that stops.
use Rattle.std.specs.Prelude.{◌≡◌, ℕ, List, [], ◌∷◌, Option, Some, None, option_and_then, option_map, Result, Ok, Err, IfErr, codes, refl}
use Rattle.job_files.specs.Rules.{Eye, Fault, File, FileNames, Lump, Settings, Stop, TablesRefusal, TablesValue, ThingLine, absent, and_then, angles_in, directory, else_absent, file_named, from_below, no_file, tables_refusal}
use Rattle.lump_cache.specs.Calls.{IfFull}
use Rattle.csv_tables.specs.{declared.weapons.WeaponRow.WeaponRow, Things.things_in_table}
use Rattle.csv_tables.specs.{Paths.path_in, Weapons.weapons_in}
use Rattle.refusals.specs.declared.refusal.Refusal.{Refusal}
use Rattle.refusals.specs.declared.refusal.Refusal.TheVariants.{Tables, Things, Path, Weapons, Wad}
use Rattle.job_files.specs.declared.read.SceneFiles.{SceneFiles}
use Rattle.job_files.specs.declared.texts.TextTables.{TextTables}

-- what the files give, but for the bytes of lumps
pub record FilesValue : Type 0 where
  pub tables : TablesValue
  pub things : List ThingLine
  pub path : List Eye
  pub weapons : Option (List WeaponRow)
  pub lumps : List Lump

abbrev pub value_of : SceneFiles → FilesValue
value_of files = record {
  tables = files.tables;
  things = files.things;
  path = files.path;
  weapons = files.weapons;
  lumps = files.dir.lumps;
}

-- a call that puts nothing into a zone never tells that one is full
abbrev pub IsNeverFull : {B R : Type 0} → Result B (Fault R) → Type 0
IsNeverFull result = IfErr result (λ fault. IfFull fault (λ wanted widest'. ⊥))

-- the value, unless there is a refusal
abbrev pub value_unless : {A R : Type 0} → Option R → A → Result A R
value_unless None value = Ok value
value_unless (Some refusal) value = Err refusal

-- the tables of angles in a file, for views of a size whose spans are stepped so
unfoldable pub tables_in : Settings → List ℕ → Result TablesValue TablesRefusal
tables_in settings bytes = value_unless (tables_refusal bytes settings.size) (record { angles = angles_in bytes; size = settings.size; spans = settings.spans })

-- what the bytes of each kind of file give
abbrev pub tables_file : Settings → List ℕ → Result TablesValue Refusal
tables_file settings bytes = from_below Tables (tables_in settings bytes)

abbrev pub things_file : List ℕ → Result (List ThingLine) Refusal
things_file bytes = from_below Things (things_in_table bytes)

abbrev pub path_file : List ℕ → Result (List Eye) Refusal
path_file bytes = from_below Path (path_in bytes)

abbrev pub weapons_file : List ℕ → Result (List WeaponRow) Refusal
weapons_file bytes = from_below Weapons (weapons_in bytes)

abbrev pub wad_files : List (List ℕ) → Result (List Lump) Refusal
wad_files contents = from_below Wad (directory contents)

-- what a named file gives
unfoldable pub in_file : {A : Type 0} → (List ℕ → Result A Refusal) → List ℕ → List File → Result A (Stop Refusal)
in_file read name files = and_then (else_absent (file_named name files)) (λ bytes. no_file (read bytes))

-- a file that need not be named
unfoldable pub in_optional_file : {A : Type 0} → (List ℕ → Result A Refusal) → Option (List ℕ) → List File → Result (Option A) (Stop Refusal)
in_optional_file read None files = Ok None
in_optional_file read (Some name) files = and_then (in_file read name files) (λ value. Ok (Some value))

-- the bytes of all files of these names, which are all asked for before one is read
unfoldable pub files_named : List (List ℕ) → List File → Option (List (List ℕ))
files_named [] files = Some []
files_named (name ∷ names) files =
    option_and_then (λ bytes. option_map (λ others. bytes ∷ others) (files_named names files)) (file_named name files)

-- the lumps of the WADs of these names
unfoldable pub lumps_in : List (List ℕ) → List File → Result (List Lump) (Stop Refusal)
lumps_in names files = and_then (else_absent (files_named names files)) (λ contents. no_file (wad_files contents))

-- the tables of text: things, path, and weapons
unfoldable pub texts_in : FileNames → List File → Result TextTables (Stop Refusal)
texts_in names files =
    and_then (in_file things_file names.things files) (λ things.
    and_then (in_file path_file names.path files) (λ path.
    and_then (in_optional_file weapons_file names.weapon files) (λ weapons.
    Ok (record { things = things; path = path; weapons = weapons }))))

-- all of them in the order in which they are asked for and read: tables, texts, WADs
unfoldable pub files_in : FileNames → List (List ℕ) → Settings → List File → Result FilesValue (Stop Refusal)
files_in names wads settings files =
    and_then (in_file (tables_file settings) names.tables files) (λ tables.
    and_then (texts_in names files) (λ texts.
    and_then (lumps_in wads files) (λ lumps.
    Ok (record { tables = tables; things = texts.things; path = texts.path; weapons = texts.weapons; lumps = lumps }))))

-- two files, of which the second is no WAD
abbrev pub two_files : List File
two_files = record { name = codes "a"; bytes = [] } ∷ record { name = codes "b"; bytes = 80 ∷ 87 ∷ [] } ∷ []

-- the bytes come in the order of the names
pub files_named_row : files_named (codes "b" ∷ codes "a" ∷ codes "b" ∷ []) two_files ≡ Some ((80 ∷ 87 ∷ []) ∷ [] ∷ (80 ∷ 87 ∷ []) ∷ [])
unfolding files_named
files_named_row = refl

-- the last WAD is asked for before the first is read
pub lumps_absent_row : lumps_in (codes "b" ∷ codes "c" ∷ []) two_files ≡ Err absent
unfolding lumps_in files_named
lumps_absent_row = refl
