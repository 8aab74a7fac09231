-- The steps of a load: each file gives what it should, and the lumps give the scene and the weapon layers.
use Rattle.std.proofs.Common.{◌≡◌, ℕ, List, [], ◌∷◌, Option, Some, None, Result, Ok, Err, refl, ap, subst, ◌∙◌}
use Rattle.doom_run.specs.Rules.{File, FileNames, LevelJobValue, Lump, Settings, Stop, and_then, directory, else_absent, file_named, from_below, no_file, scene_in}
use Rattle.art_rules.proofs.Laws.{and_then-ok}
use Rattle.refusals.specs.declared.refusal.Refusal.{Refusal}
use Rattle.refusals.specs.declared.refusal.Refusal.TheVariants.{Wad}
use Rattle.refusals.specs.declared.refusal.Refusal.TheVariants.{Level}
use Rattle.job_files.specs.{declared.texts.TextTables.TextTables, Sizes.wad_contents}
use Rattle.job_files.specs.Files.{FilesValue, files_in, files_named, in_file, in_optional_file, lumps_in, path_file, tables_file, texts_in, things_file, wad_files, weapons_file}
use Rattle.level_audit.specs.scene_load.Loads.{LoadedValue, audited_in, load_in, wad_bytes, weapons_of}

pub ok_of : {X R : Type 0} (a b : X) → (let l : Result X R = Ok a in l) ≡ Ok b → a ≡ b
ok_of a b e = cc

pub below : {A R Q : Type 0} (f : R → Q) (r : Result A R) (x : A) → from_below f r ≡ Ok x → r ≡ Ok x
below f (Ok y) x e = let value_same : y ≡ x = cc in ap Ok value_same
below f (Err reason) x e = cc

pub no_file-ok : {A R : Type 0} (r : Result A R) (x : A) → no_file r ≡ Ok x → r ≡ Ok x
no_file-ok (Ok y) x e = let value_same : y ≡ x = cc in ap Ok value_same
no_file-ok (Err reason) x e = cc

-- the tables of text
pub record IsTextsOf (names : FileNames) (files : List File) (texts : TextTables) : Type 0 where
  pub things : in_file things_file names.things files ≡ Ok texts.things
  pub path : in_file path_file names.path files ≡ Ok texts.path
  pub weapons : in_optional_file weapons_file names.weapon files ≡ Ok texts.weapons

texts-steps : (names : FileNames) (files : List File) (texts : TextTables) → texts_in names files ≡ Ok texts → IsTextsOf names files texts
unfolding texts_in
texts-steps names files texts e =
    let things = and_then-ok (in_file things_file names.things files) _ texts e in
    let path = and_then-ok (in_file path_file names.path files) _ texts things.2 in
    let weapons = and_then-ok (in_optional_file weapons_file names.weapon files) _ texts path.2 in
    let texts_are : ◌≡◌ {A = TextTables} (record { things = things.0; path = path.0; weapons = weapons.0 }) texts = ok_of _ texts weapons.2 in
    subst (IsTextsOf names files) texts_are (record { things = things.1; path = path.1; weapons = weapons.1 })

-- all files
pub record IsFilesOf (names : FileNames) (wads : List (List ℕ)) (settings : Settings) (files : List File) (values : FilesValue) : Type 0 where
  pub tables : in_file (tables_file settings) names.tables files ≡ Ok values.tables
  pub things : in_file things_file names.things files ≡ Ok values.things
  pub path : in_file path_file names.path files ≡ Ok values.path
  pub weapons : in_optional_file weapons_file names.weapon files ≡ Ok values.weapons
  pub lumps : lumps_in wads files ≡ Ok values.lumps

pub files-steps : (names : FileNames) (wads : List (List ℕ)) (settings : Settings) (files : List File) (values : FilesValue)
    → files_in names wads settings files ≡ Ok values → IsFilesOf names wads settings files values
unfolding files_in
files-steps names wads settings files values e =
    let tables = and_then-ok (in_file (tables_file settings) names.tables files) _ values e in
    let texts = and_then-ok (texts_in names files) _ values tables.2 in
    let lumps = and_then-ok (lumps_in wads files) _ values texts.2 in
    let texts_read = texts-steps names files texts.0 texts.1 in
    let values_are : ◌≡◌ {A = FilesValue} (record { tables = tables.0; things = texts.0.things; path = texts.0.path; weapons = texts.0.weapons; lumps = lumps.0 }) values = ok_of _ values lumps.2 in
    subst (IsFilesOf names wads settings files) values_are (record { tables = tables.1; things = texts_read.things; path = texts_read.path; weapons = texts_read.weapons; lumps = lumps.1 })

pub files-made : (names : FileNames) (wads : List (List ℕ)) (settings : Settings) (files : List File) (values : FilesValue)
    → IsFilesOf names wads settings files values → files_in names wads settings files ≡ Ok values
unfolding files_in texts_in
files-made names wads settings files values is = rw (is.tables, is.things, is.path, is.weapons, is.lumps) refl

-- a load
pub record IsLoadOf (level : LevelJobValue) (wads : List (List ℕ)) (files : List File) (loaded : LoadedValue) : Type 0 where
  pub values : IsFilesOf level.files wads level.settings files loaded.files
  pub scene : scene_in (wad_bytes wads files loaded.files.lumps) loaded.files.lumps loaded.files.things level.map_name level.settings.skill ≡ Ok loaded.scene
  pub weapons : weapons_of (wad_bytes wads files loaded.files.lumps) loaded.files.lumps loaded.files.weapons ≡ Ok loaded.weapons

pub load-steps : (level : LevelJobValue) (wads : List (List ℕ)) (files : List File) (loaded : LoadedValue)
    → load_in level wads files ≡ Ok loaded → IsLoadOf level wads files loaded
unfolding load_in audited_in
load-steps level wads files loaded e =
    let values = and_then-ok (files_in level.files wads level.settings files) _ loaded e in
    let bytes = wad_bytes wads files values.0.lumps in
    let audited = below Level (audited_in bytes level values.0) loaded (no_file-ok (from_below Level (audited_in bytes level values.0)) loaded values.2) in
    let scene = and_then-ok (scene_in bytes values.0.lumps values.0.things level.map_name level.settings.skill) _ loaded audited in
    let weapons = and_then-ok (weapons_of bytes values.0.lumps values.0.weapons) _ loaded scene.2 in
    let loaded_is : ◌≡◌ {A = LoadedValue} (record { files = values.0; scene = scene.0; weapons = weapons.0 }) loaded = ok_of _ loaded weapons.2 in
    subst (IsLoadOf level wads files) loaded_is (record {
      values = files-steps level.files wads level.settings files values.0 values.1;
      scene = scene.1;
      weapons = weapons.1;
    })

pub load-made : (level : LevelJobValue) (wads : List (List ℕ)) (files : List File) (loaded : LoadedValue)
    → IsLoadOf level wads files loaded → load_in level wads files ≡ Ok loaded
unfolding load_in audited_in
load-made level wads files loaded is =
    rw (files-made level.files wads level.settings files loaded.files is.values, is.scene, is.weapons) refl

-- the lumps are those of the directory of all WADs
lumps_step : (wads : List (List ℕ)) (files : List File) (lumps : List Lump) (o : Option (List (List ℕ))) → files_named wads files ≡ o
    → and_then (else_absent o) (λ contents. no_file (wad_files contents)) ≡ Ok lumps → directory (wad_contents wads files) ≡ Ok lumps
lumps_step wads files lumps None is e = absurd (cc)
lumps_step wads files lumps (Some contents) is e = rw is (below Wad (directory contents) lumps (no_file-ok (wad_files contents) lumps e))

pub lumps-listed : (wads : List (List ℕ)) (files : List File) (lumps : List Lump) → lumps_in wads files ≡ Ok lumps → directory (wad_contents wads files) ≡ Ok lumps
unfolding lumps_in
lumps-listed wads files lumps e = lumps_step wads files lumps (files_named wads files) refl e

-- of one WAD
pub one-named : (name bytes : List ℕ) (files : List File) → file_named name files ≡ Some bytes → files_named (name ∷ []) files ≡ Some (bytes ∷ [])
unfolding files_named
one-named name bytes files e = rw e refl

pub one-listed : (name bytes : List ℕ) (files : List File) (lumps : List Lump) → file_named name files ≡ Some bytes → directory (bytes ∷ []) ≡ Ok lumps → lumps_in (name ∷ []) files ≡ Ok lumps
unfolding lumps_in
one-listed name bytes files lumps is e =
    ap (λ o. and_then (else_absent o) (λ contents. no_file (wad_files contents))) (one-named name bytes files is) ∙ ap (λ r. no_file (from_below Wad r)) e

-- a file that has the same bytes by other files gives the same
pub in_file-same : {A : Type 0} (read : List ℕ → Result A Refusal) (name : List ℕ) (files others : List File) → file_named name others ≡ file_named name files
    → in_file read name others ≡ in_file read name files
unfolding in_file
in_file-same read name files others e = ap (λ o. and_then (else_absent o) (λ bytes. no_file (read bytes))) e

pub in_optional_file-same : {A : Type 0} (read : List ℕ → Result A Refusal) (o : Option (List ℕ)) (files others : List File)
    → ((name : List ℕ) → o ≡ Some name → file_named name others ≡ file_named name files)
    → in_optional_file read o others ≡ in_optional_file read o files
unfolding in_optional_file
in_optional_file-same read None files others same = refl
in_optional_file-same read (Some name) files others same = ap (λ r. and_then r (λ value. Ok (Some value))) (in_file-same read name files others (same name refl))
