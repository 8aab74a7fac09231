-- What the made files give: they are held, and their path is not long.
use Rattle.picture_rules.proofs.Common.{[], ap, arith, codes, Err, IsTrue, length, List, nat_lt, nat_tests, None, Ok, refl, Result, Some, subst, sym, true, ℕ, ◌<◌, ◌∙◌, ◌∷◌, ◌≡◌, ◌≤◌}
use Rattle.doom_run.specs.Rules.{AreSettings, Eye, File, FileNames, Holds, IsZoneSize, LevelJobValue, Path, Settings, ShelfInMemory, Stop, Tables, Things, Wad, absent, and_then, else_absent, file_named, filled, from_below, memory_view, name_of, no_file, stopped}
use Rattle.art_rules.proofs.Laws.{and_then-ok}
use Rattle.csv_tables.specs.declared.fault.CsvRefusal.{CsvRefusal}
use Rattle.csv_tables.specs.declared.fault.CsvRefusal.TheVariants.{TooMany}
use Rattle.csv_tables.specs.declared.path.TheConstants.{MAX_VIEWS}
use Rattle.csv_tables.specs.Records.{checked_shape, table_records, then_checked}
use Rattle.csv_tables.specs.Paths.{path_in, path_of_records, path_row, path_width}
use Rattle.csv_tables.proofs.RowSentences.{rows_after-within}
use Rattle.refusals.specs.declared.refusal.Refusal.{Refusal}
use Rattle.refusals.specs.declared.refusal.Refusal.TheVariants as refusal
use Rattle.refusals.specs.declared.refusal.Refusal.TheVariants.{Level}
use Rattle.sound_scene.proofs.SceneLemmas.{from_below-ok}
use Rattle.job_files.specs.{declared.texts.TextTables.TextTables, Made.made_file}
use Rattle.job_files.specs.Files.{FilesValue, files_in, files_named, in_file, in_optional_file, lumps_in, path_file, tables_file, texts_in, things_file, wad_files, weapons_file}
use Rattle.level_audit.specs.scene_load.Loads.{LoadedValue, audited_in, load_in, wad_bytes}
use Rattle.level_audit.proofs.scene_load.AuditedLemmas.{audited_by}
use Rattle.doom_run.specs.Exercises.{made_files, made_level, made_wads}

-- both steps of a table were passed
then_ok : {A B : Type 0} (first : Result A CsvRefusal) (next : A → Result B CsvRefusal) (value : B) → then_checked first next ≡ Ok value → (found : A) × (first ≡ Ok found) × (next found ≡ Ok value)
then_ok (Ok found) next value e = (found, refl, e)
then_ok (Err reason) next value e = absurd (cc)

-- a row past the limit is one too many
row_past : (width row : ℕ) (fields : List (List ℕ)) → MAX_VIEWS < row → path_row width row fields ≡ Err TooMany
unfolding path_row checked_shape
row_past width row fields past = let past_most_views : nat_lt MAX_VIEWS row ≡ true = grind (arith, nat_tests) in rw past_most_views refl

records_few : (records : List (List (List ℕ))) (rows : List Eye) → path_of_records records ≡ Ok rows → length rows ≤ MAX_VIEWS
unfolding path_of_records
records_few [] rows e = absurd (cc)
records_few (head ∷ rest) rows e =
    let width_ok = then_ok (path_width head) _ rows e in
    rows_after-within (λ _. path_row width_ok.0) MAX_VIEWS [] rows rest (λ _ row fields past. row_past width_ok.0 row fields past) (omega arith) width_ok.2

-- a path that is accepted has no more views than the limit
pub path_few : (bytes : List ℕ) (rows : List Eye) → path_in bytes ≡ Ok rows → length rows ≤ MAX_VIEWS
unfolding path_in
path_few bytes rows e = let records_ok = then_ok (table_records bytes) path_of_records rows e in records_few records_ok.0 rows records_ok.2

no_file-ok : {A R : Type 0} (r : Result A R) (value : A) → no_file r ≡ Ok value → r ≡ Ok value
no_file-ok (Ok found) value e = let value_same : found ≡ value = cc in ap Ok value_same
no_file-ok (Err reason) value e = absurd (cc)

-- what a file gives is what some bytes give
file_ok : {A : Type 0} (read : List ℕ → Result A Refusal) (name : List ℕ) (files : List File) (value : A) → in_file read name files ≡ Ok value → (bytes : List ℕ) × (read bytes ≡ Ok value)
unfolding in_file
file_ok read name files value e =
    let file_there = and_then-ok (else_absent (file_named name files)) _ value e in (file_there.0, no_file-ok (read file_there.0) value file_there.2)

texts_few : (names : FileNames) (files : List File) (texts : TextTables) → texts_in names files ≡ Ok texts → length texts.path ≤ MAX_VIEWS
unfolding texts_in
texts_few names files texts e =
    let things_ok = and_then-ok (in_file things_file names.things files) _ texts e in
    let path_ok = and_then-ok (in_file path_file names.path files) _ texts things_ok.2 in
    let weapons_ok = and_then-ok (in_optional_file weapons_file names.weapon files) _ texts path_ok.2 in
    let path_bytes = file_ok path_file names.path files path_ok.0 path_ok.1 in
    let views_few : length path_ok.0 ≤ MAX_VIEWS = path_few path_bytes.0 path_ok.0 (from_below-ok refusal.Path (path_in path_bytes.0) path_ok.0 path_bytes.1) in
    let path_same : path_ok.0 ≡ texts.path = cc (weapons_ok.2) in
    rw path_same at views_few

files_few : (names : FileNames) (wads : List (List ℕ)) (settings : Settings) (files : List File) (values : FilesValue) → files_in names wads settings files ≡ Ok values → length values.path ≤ MAX_VIEWS
unfolding files_in
files_few names wads settings files values e =
    let tables_ok = and_then-ok (in_file (tables_file settings) names.tables files) _ values e in
    let texts_ok = and_then-ok (texts_in names files) _ values tables_ok.2 in
    let lumps_ok = and_then-ok (lumps_in wads files) _ values texts_ok.2 in
    let views_few : length texts_ok.0.path ≤ MAX_VIEWS = texts_few names files texts_ok.0 texts_ok.1 in
    let path_same : texts_ok.0.path ≡ values.path = cc (lumps_ok.2) in
    rw path_same at views_few

-- a scene that is loaded has no more views than a path may have
pub loaded_few : (level : LevelJobValue) (wads : List (List ℕ)) (files : List File) (loaded : LoadedValue) → load_in level wads files ≡ Ok loaded → length loaded.files.path ≤ MAX_VIEWS
unfolding load_in
loaded_few level wads files loaded e =
    let files_ok = and_then-ok (files_in level.files wads level.settings files) _ loaded e in
    let level_ok = no_file-ok (from_below Level (audited_in (wad_bytes wads files files_ok.0.lumps) level files_ok.0)) loaded files_ok.2 in
    let audit_ok = from_below-ok Level (audited_in (wad_bytes wads files files_ok.0.lumps) level files_ok.0) loaded level_ok in
    audited_by (λ (l : LoadedValue). length l.files.path ≤ MAX_VIEWS) (wad_bytes wads files files_ok.0.lumps) level files_ok.0 loaded audit_ok
    (λ scene weapons s w. files_few level.files wads level.settings files files_ok.0 files_ok.1)

-- steps that ask for no file find none absent
none_asked : {A R : Type 0} (r : Result A R) → no_file r ≡ Err absent → ⊥
none_asked (Ok value) e = cc
none_asked (Err reason) e = cc

-- nor does a file that is held
file_held : {A : Type 0} (read : List ℕ → Result A Refusal) (name : List ℕ) (files : List File) (bytes : List ℕ) → file_named name files ≡ Some bytes → in_file read name files ≡ Err absent → ⊥
unfolding in_file
file_held read name files bytes held e = none_asked (read bytes) (rw held at e)

-- where neither of two steps finds a file absent, both do not
both_held : {A B R : Type 0} (first : Result A (Stop R)) (next : A → Result B (Stop R)) → (first ≡ Err absent → ⊥) → ((found : A) → next found ≡ Err absent → ⊥) → and_then first next ≡ Err absent → ⊥
both_held (Ok found) next one two e = two found e
both_held (Err absent) next one two e = one refl
both_held (Err (stopped reason)) next one two e = cc

not_absent : {A R : Type 0} (value : A) → ◌≡◌ {A = Result A (Stop R)} (Ok value) (Err absent) → ⊥
not_absent value e = cc

-- the made files by name
tables_held : (n : ℕ) → file_named (codes "tables") (made_files n) ≡ Some (made_file Tables)
unfolding made_files
tables_held n = refl

things_held : (n : ℕ) → file_named (codes "things") (made_files n) ≡ Some (made_file Things)
unfolding made_files
things_held n = refl

path_held : (n : ℕ) → file_named (codes "path") (made_files n) ≡ Some (made_file (Path n))
unfolding made_files
path_held n = refl

pub wads_held : (n : ℕ) → files_named made_wads (made_files n) ≡ Some (made_file (Wad n) ∷ [])
unfolding made_files files_named
wads_held n = refl

pub made_count : (n : ℕ) → length (made_files n) ≡ 4
unfolding made_files
made_count n = refl

-- a shelf in memory of these files, with no call that fails, holds them and is steady
pub memory_holds : (shelf : ShelfInMemory) (given files : List File) (failing : List ℕ) → shelf ≡ record { files = given; failing = failing; calls = 0; faults = 0; taken = 0 } → given ≡ files → Holds (memory_view shelf) files
memory_holds shelf given files failing e same = ap (λ (s : ShelfInMemory). (memory_view s).all_files) e ∙ ap Some same

pub memory_steady : (shelf : ShelfInMemory) (given : List File) (failing : List ℕ) → shelf ≡ record { files = given; failing = failing; calls = 0; faults = 0; taken = 0 } → failing ≡ [] → IsTrue (memory_view shelf).steady
memory_steady shelf given failing e none =
    let steady : IsTrue (memory_view (record { files = given; failing = []; calls = 0; faults = 0; taken = 0 })).steady = refl in
    let shelf_is : shelf ≡ record { files = given; failing = []; calls = 0; faults = 0; taken = 0 } =
    e ∙ ap (λ (f : List ℕ). record { files = given; failing = f; calls = 0; faults = 0; taken = 0 }) none in
    subst (λ (s : ShelfInMemory). IsTrue (memory_view s).steady) (sym shelf_is) steady

module _ (n zone : ℕ) where
  texts_held : texts_in (made_level zone).files (made_files n) ≡ Err absent → ⊥
  unfolding texts_in in_optional_file
  texts_held =
      both_held _ _ (file_held things_file (codes "things") (made_files n) _ (things_held n)) (λ things.
      both_held _ _ (file_held path_file (codes "path") (made_files n) _ (path_held n)) (λ path.
      both_held _ _ (not_absent None) (λ weapons. not_absent (record { things = things; path = path; weapons = weapons }))))

  lumps_held : lumps_in made_wads (made_files n) ≡ Err absent → ⊥
  unfolding lumps_in
  lumps_held = both_held _ _ (λ e. not_absent {R = Refusal} (made_file (Wad n) ∷ []) (rw (wads_held n) at e)) (λ contents. none_asked (wad_files contents))

  files_held : files_in (made_level zone).files made_wads (made_level zone).settings (made_files n) ≡ Err absent → ⊥
  unfolding files_in
  files_held =
      both_held _ _ (file_held (tables_file (made_level zone).settings) (codes "tables") (made_files n) _ (tables_held n)) (λ tables.
      both_held _ _ texts_held (λ texts.
      both_held _ _ lumps_held (λ lumps. not_absent (record { tables = tables; things = texts.things; path = texts.path; weapons = texts.weapons; lumps = lumps }))))

  -- over the made files no file is absent
  pub made_found : load_in (made_level zone) made_wads (made_files n) ≡ Err absent → ⊥
  unfolding load_in
  made_found = both_held _ _ files_held (λ values. none_asked (from_below Level (audited_in (wad_bytes made_wads (made_files n) values.lumps) (made_level zone) values)))

-- the name of the made level
pub map_named : name_of (77 ∷ 65 ∷ 80 ∷ 48 ∷ 49 ∷ 0 ∷ 0 ∷ 0 ∷ []) ≡ 77 ∷ 65 ∷ 80 ∷ 48 ∷ 49 ∷ 0 ∷ 0 ∷ 0 ∷ []
unfolding filled
map_named = refl

-- the numbers of the made level are in their ranges
pub settings_made : (zone : ℕ) → IsZoneSize zone → AreSettings (made_level zone).settings
settings_made zone is = record {
  zone = record { least = is.0; most = is.1; step = is.2 };
  skill = record { least = omega arith; most = omega arith };
  size = record { least = omega arith; most = omega arith };
  planes = record { least = omega arith; most = omega arith };
  openings = record { least = omega arith; most = omega arith };
}
