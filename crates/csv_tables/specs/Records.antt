-- The records of a table's bytes, and what is refused of them as a whole.
use Rattle.std.specs.Prelude.{◌≡◌, ℕ, Bool, true, false, cond, ◌==◌, ◌&&◌, nat_lt, List, [], ◌∷◌, length, Result, Ok, Err, bytes_eq}
use Rattle.csv.specs.Reading.{records, default_config, strip_bom}
use Rattle.csv.specs.declared.error.ErrorKind.{ErrorKind}
use Rattle.csv.specs.declared.error.ErrorKind.TheVariants as kind
use Rattle.csv_tables.specs.{declared.fault.CsvRefusal.CsvRefusal, declared.fault.CsvFault.CsvFault}
use Rattle.csv_tables.specs.declared.fault.CsvRefusal.TheVariants.{Fields, Header, TooLong, TooMany}
use Rattle.csv_tables.specs.declared.fault.CsvFault.TheVariants.{Refused}
use Rattle.csv_tables.specs.declared.records.TheConstants.{MAX_TABLE_BYTES}

-- what comes after a step that may refuse
abbrev pub then_checked : {A B : Type 0} → Result A CsvRefusal → (A → Result B CsvRefusal) → Result B CsvRefusal
then_checked (Ok a) f = f a
then_checked (Err e) f = Err e

-- a call refuses only what the rule refuses
abbrev pub IsRefusedAs : {A T : Type 0} → Result A CsvRefusal → Result T CsvFault → Type 0
IsRefusedAs rule result = (r : CsvRefusal) → result ≡ Err (Refused r) → rule ≡ Err r

-- every record that `csv` gives for the bytes: its defaults, with no header row of its own
unfoldable pub csv_records : List ℕ → List (List (List ℕ))
csv_records bytes = records default_config (strip_bom bytes)

-- the records of a file that is not too long
unfoldable pub table_records : List ℕ → Result (List (List (List ℕ))) CsvRefusal
table_records bytes = cond (nat_lt MAX_TABLE_BYTES (length bytes)) (Err (TooLong (length bytes))) (Ok (csv_records bytes))

-- the fields are these names
unfoldable pub is_header : List (List ℕ) → List (List ℕ) → Bool
is_header [] [] = true
is_header [] (f ∷ fs) = false
is_header (n ∷ ns) [] = false
is_header (n ∷ ns) (f ∷ fs) = bytes_eq f n && is_header ns fs

-- the rows under a header of these names
unfoldable pub rows_under : List (List ℕ) → List (List (List ℕ)) → Result (List (List (List ℕ))) CsvRefusal
rows_under names [] = Err Header
rows_under names (head ∷ rows) = cond (is_header names head) (Ok rows) (Err Header)

-- a row is one too many; else it has another number of fields than the header
unfoldable pub checked_shape : ℕ → ℕ → ℕ → List (List ℕ) → Result (Unit {0}) CsvRefusal
checked_shape limit width row fields = cond (nat_lt limit row) (Err TooMany) (cond (length fields == width) (Ok tt) (Err (Fields row)))

-- a record was refused for its number of fields
unfoldable pub is_of_length : ErrorKind → Bool
is_of_length (kind.UnequalLengths place expected len) = true
is_of_length (kind.Io e) = false
is_of_length (kind.Utf8 place why) = false
is_of_length kind.OutOfMemory = false
is_of_length (kind.Serialize text) = false
is_of_length (kind.Deserialize place why) = false
