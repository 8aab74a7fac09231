-- A load with spans that are stepped otherwise: it gives the same but for the spans of its tables.
use Rattle.std.proofs.Common.{◌≡◌, ℕ, List, Option, Some, None, Result, Ok, Err, ap}
use Rattle.doom_run.specs.Rules.{File, LevelJobValue, Settings, Spans, else_absent, file_named, from_below, no_file}
use Rattle.art_rules.proofs.Laws.{and_then-ok}
use Rattle.picture_rules.specs.Words.{TablesRefusal, TablesValue}
use Rattle.refusals.specs.declared.refusal.Refusal.TheVariants.{Tables}
use Rattle.job_files.specs.Files.{in_file, tables_file, tables_in, value_unless}
use Rattle.level_audit.specs.scene_load.Loads.{LoadedValue, load_in}
use Rattle.doom_run.specs.Alike.{with_spans}
use Rattle.doom_run.proofs.alike.StepLemmas.{below, load-made, load-steps, no_file-ok, ok_of}

-- tables, settings and what was loaded, with such spans
abbrev tables_with : Spans → TablesValue → TablesValue
tables_with spans tables = record tables { spans = spans }

abbrev settings_with : Spans → Settings → Settings
settings_with spans settings = record settings { spans = spans }

abbrev pub loaded_with : Spans → LoadedValue → LoadedValue
loaded_with spans loaded = record loaded { files = record loaded.files { tables = tables_with spans loaded.files.tables } }

-- tables that are not refused are so whatever the spans
value-unless_with : (refusal : Option TablesRefusal) (made tables : TablesValue) (spans : Spans) → value_unless refusal made ≡ Ok tables → value_unless refusal (tables_with spans made) ≡ Ok (tables_with spans tables)
value-unless_with None made tables spans is = ap (λ t. Ok (tables_with spans t)) (ok_of made tables is)
value-unless_with (Some refusal) made tables spans is = absurd (cc)

tables-with : (spans : Spans) (settings : Settings) (bytes : List ℕ) (tables : TablesValue) → tables_in settings bytes ≡ Ok tables → tables_in (settings_with spans settings) bytes ≡ Ok (tables_with spans tables)
unfolding tables_in
tables-with spans settings bytes tables is = value-unless_with _ _ tables spans is

-- the same of a file of tables
tables_file-with : (spans : Spans) (settings : Settings) (name : List ℕ) (files : List File) (tables : TablesValue) → in_file (tables_file settings) name files ≡ Ok tables →
    in_file (tables_file (settings_with spans settings)) name files ≡ Ok (tables_with spans tables)
unfolding in_file
tables_file-with spans settings name files tables is =
    let file_there = and_then-ok (else_absent (file_named name files)) _ tables is in
    let tables_ok = below Tables (tables_in settings file_there.0) tables (no_file-ok (tables_file settings file_there.0) tables file_there.2) in
    rw file_there.1 (ap (λ t. no_file (from_below Tables t)) (tables-with spans settings file_there.0 tables tables_ok))

-- the same of a whole load
pub load-with : (spans : Spans) (level : LevelJobValue) (wads : List (List ℕ)) (files : List File) (loaded : LoadedValue) → load_in level wads files ≡ Ok loaded →
    load_in (with_spans spans level) wads files ≡ Ok (loaded_with spans loaded)
load-with spans level wads files loaded is =
    let steps = load-steps level wads files loaded is in
    load-made (with_spans spans level) wads files (loaded_with spans loaded) (record {
      values = record {
        tables = tables_file-with spans level.settings level.files.tables files loaded.files.tables steps.values.tables;
        things = steps.values.things;
        path = steps.values.path;
        weapons = steps.values.weapons;
        lumps = steps.values.lumps;
      };
      scene = steps.scene;
      weapons = steps.weapons;
    })
