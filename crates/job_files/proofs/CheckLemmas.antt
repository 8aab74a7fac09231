-- A file's length is looked at first, and then its bytes are checked.
use Rattle.picture_rules.proofs.Common.{Bool, cond, Err, false, IsErrAnd, length, List, nat_lt, None, Ok, Option, option_map, refl, Result, Some, true, ℕ, ◌==◌, ◌≡◌}
use Rattle.job_files.specs.Rules.{Fault, File, Length, ResultIs, ResultIsOrAbsent, Settings, TABLES_BYTES, TablesRefusal, TablesValue, and_then, angles_in, angles_refusal, else_absent, file_named, from_below, itself, no_file, shape_of_size, tables_refusal}
use Rattle.csv_tables.specs.declared.records.TheConstants.{MAX_TABLE_BYTES}
use Rattle.csv_tables.specs.declared.fault.CsvRefusal.{CsvRefusal}
use Rattle.csv_tables.specs.declared.fault.CsvRefusal.TheVariants.{TooLong}
use Rattle.csv_tables.specs.Records as csv
use Rattle.csv_tables.specs.Records.{csv_records, table_records}
use Rattle.csv_tables.specs.Things.{lines_of_records, things_in_table}
use Rattle.csv_tables.specs.Paths.{path_of_records, path_in}
use Rattle.csv_tables.specs.Weapons.{weapons_of_records, weapons_in}
use Rattle.job_files.specs.declared.whole_files.FileKind.TheVariants as kind
use Rattle.refusals.specs.declared.refusal.Refusal.{Refusal}
use Rattle.refusals.specs.declared.refusal.Refusal.TheVariants.{Tables, Things, Path, Weapons}
use Rattle.job_files.specs.Files.{value_unless, in_file, tables_in, tables_file, things_file, path_file, weapons_file}
use Rattle.job_files.specs.Lengths.{tables_length_refusal, text_length_refusal, length_refusal, bytes_in}
use Rattle.art_rules.proofs.Laws.{step_stops, unread_agrees}

-- what is read of text that is not too long
text_length : {A X : Type 0} (long : Bool) (above : CsvRefusal → Refusal) (refusal : CsvRefusal) (records : X) (rows : X → Result A CsvRefusal) (bytes : List ℕ) (read : List ℕ → Result A Refusal) →
    read bytes ≡ from_below above (csv.then_checked (cond long (Err refusal) (Ok records)) rows) →
    read bytes ≡ and_then (value_unless (option_map above (cond long (Some refusal) None)) bytes) read
text_length true above refusal records rows bytes read e = e
text_length false above refusal records rows bytes read e = refl

pub things_length : (bytes : List ℕ) → things_file bytes ≡ and_then (bytes_in kind.Things bytes) things_file
unfolding bytes_in length_refusal text_length_refusal things_in_table table_records
things_length bytes =
    text_length (nat_lt MAX_TABLE_BYTES (length bytes)) Things (TooLong (length bytes)) (csv_records bytes) lines_of_records bytes things_file refl

pub path_length : (bytes : List ℕ) → path_file bytes ≡ and_then (bytes_in kind.Path bytes) path_file
unfolding bytes_in length_refusal text_length_refusal path_in table_records
path_length bytes =
    text_length (nat_lt MAX_TABLE_BYTES (length bytes)) Path (TooLong (length bytes)) (csv_records bytes) path_of_records bytes path_file refl

pub weapons_length : (bytes : List ℕ) → weapons_file bytes ≡ and_then (bytes_in kind.Weapons bytes) weapons_file
unfolding bytes_in length_refusal text_length_refusal weapons_in table_records
weapons_length bytes =
    text_length (nat_lt MAX_TABLE_BYTES (length bytes)) Weapons (TooLong (length bytes)) (csv_records bytes) weapons_of_records bytes weapons_file refl

-- what is read of tables of the right length
whole_length : (whole : Bool) (refusal : TablesRefusal) (others : Option TablesRefusal) (tables : TablesValue) (bytes : List ℕ) (read : List ℕ → Result TablesValue Refusal) →
    read bytes ≡ from_below Tables (value_unless (cond whole others (Some refusal)) tables) →
    read bytes ≡ and_then (value_unless (option_map Tables (cond whole None (Some refusal))) bytes) read
whole_length true refusal others tables bytes read e = refl
whole_length false refusal others tables bytes read e = e

pub tables_length : (settings : Settings) (bytes : List ℕ) → tables_file settings bytes ≡ and_then (bytes_in kind.Tables bytes) (tables_file settings)
unfolding bytes_in length_refusal tables_length_refusal tables_in tables_refusal
tables_length settings bytes =
    whole_length (length bytes == TABLES_BYTES) (Length (length bytes)) (angles_refusal (angles_in bytes) (shape_of_size settings.size))
    (record { angles = angles_in bytes; size = settings.size; spans = settings.spans }) bytes (tables_file settings) refl

-- the two steps of a file that is held
then_checked : {A : Type 0} (first : List ℕ → Result (List ℕ) Refusal) (read : List ℕ → Result A Refusal) (bytes : List ℕ) (whole : Result (List ℕ) Refusal) →
    read bytes ≡ and_then whole read → no_file (read bytes) ≡ and_then (no_file whole) (λ given. no_file (read given))
then_checked first read bytes (Ok given) e = rw e refl
then_checked first read bytes (Err reason) e = rw e refl

-- what a named file gives, in two steps
two_steps : {A : Type 0} (first : List ℕ → Result (List ℕ) Refusal) (read : List ℕ → Result A Refusal) (file : Option (List ℕ)) →
    ((bytes : List ℕ) → read bytes ≡ and_then (first bytes) read) →
    and_then (else_absent file) (λ bytes. no_file (read bytes)) ≡ and_then (and_then (else_absent file) (λ bytes. no_file (first bytes))) (λ given. no_file (read given))
two_steps first read None law = refl
two_steps first read (Some bytes) law = then_checked first read bytes (first bytes) (law bytes)

in_two_steps : {A : Type 0} (first : List ℕ → Result (List ℕ) Refusal) (read : List ℕ → Result A Refusal) (name : List ℕ) (files : List File) →
    ((bytes : List ℕ) → read bytes ≡ and_then (first bytes) read) →
    in_file read name files ≡ and_then (in_file first name files) (λ given. no_file (read given))
unfolding in_file
in_two_steps first read name files law = two_steps first read (file_named name files) law

-- the file's bytes were not read
pub unread : {A B D : Type 0} {steady : Bool} {v : D → List ℕ} {value : B → A} {r : Result D (Fault Refusal)} {read : List ℕ → Result A Refusal} (first : List ℕ → Result (List ℕ) Refusal) (name : List ℕ) (files : List File) {fault : Fault Refusal} {result : Result B (Fault Refusal)} →
    ((bytes : List ℕ) → read bytes ≡ and_then (first bytes) read) →
    ResultIsOrAbsent itself steady v (in_file first name files) r → r ≡ Err fault → IsErrAnd result (λ e. e ≡ fault) → ResultIsOrAbsent itself steady value (in_file read name files) result
unread {read} first name files {fault} {result} law agrees was is =
    rw (in_two_steps first read name files law) (step_stops (λ given. no_file (read given)) fault result agrees was refl is)

-- the file's bytes were read and checked
pub checked : {A B : Type 0} {steady : Bool} {value : B → A} {read : List ℕ → Result A Refusal} (first : List ℕ → Result (List ℕ) Refusal) (name : List ℕ) (files : List File) {found given : List ℕ} {result : Result B (Fault Refusal)} →
    ((bytes : List ℕ) → read bytes ≡ and_then (first bytes) read) →
    in_file first name files ≡ Ok found → given ≡ found → ResultIs itself true value (read given) result → ResultIsOrAbsent itself steady value (in_file read name files) result
checked {read} first name files {found} {result} law e same answers =
    rw (in_two_steps first read name files law, e) (unread_agrees (read found) result (rw same at answers))
