-- The lengths of files that are read whole: what is refused of one before the file is read.
use Rattle.std.specs.Prelude.{◌≡◌, refl, ℕ, cond, ◌==◌, nat_lt, List, length, Option, Some, None, option_map, Result}
use Rattle.picture_rules.specs.Words.{Length, TABLES_BYTES, TablesRefusal}
use Rattle.csv_tables.specs.declared.records.TheConstants.{MAX_TABLE_BYTES}
use Rattle.csv_tables.specs.declared.fault.CsvRefusal.{CsvRefusal}
use Rattle.csv_tables.specs.declared.fault.CsvRefusal.TheVariants.{TooLong}
use Rattle.job_files.specs.{declared.whole_files.FileKind.FileKind, Files.value_unless}
use Rattle.job_files.specs.declared.whole_files.FileKind.TheVariants as kind
use Rattle.refusals.specs.declared.refusal.Refusal.{Refusal}
use Rattle.refusals.specs.declared.refusal.Refusal.TheVariants.{Tables, Things, Path, Weapons}

-- a file of tables of angles has one length
unfoldable pub tables_length_refusal : ℕ → Option TablesRefusal
tables_length_refusal size = cond (size == TABLES_BYTES) None (Some (Length size))

-- a file of text may be too long
unfoldable pub text_length_refusal : ℕ → Option CsvRefusal
text_length_refusal size = cond (nat_lt MAX_TABLE_BYTES size) (Some (TooLong size)) None

-- the refusal of a length
unfoldable pub length_refusal : FileKind → ℕ → Option Refusal
length_refusal kind.Tables size = option_map Tables (tables_length_refusal size)
length_refusal kind.Things size = option_map Things (text_length_refusal size)
length_refusal kind.Path size = option_map Path (text_length_refusal size)
length_refusal kind.Weapons size = option_map Weapons (text_length_refusal size)

-- the bytes of a file, unless its length is refused
unfoldable pub bytes_in : FileKind → List ℕ → Result (List ℕ) Refusal
bytes_in kind bytes = value_unless (length_refusal kind (length bytes)) bytes

-- how many bytes a file has at most that is not refused for its length
abbrev pub most_bytes : FileKind → ℕ
most_bytes kind.Tables = TABLES_BYTES
most_bytes kind.Things = MAX_TABLE_BYTES
most_bytes kind.Path = MAX_TABLE_BYTES
most_bytes kind.Weapons = MAX_TABLE_BYTES

-- tables of angles that are a byte short, and a path of the most bytes and of one more
pub tables_short_row : length_refusal kind.Tables 65539 ≡ Some (Tables (Length 65539))
unfolding length_refusal tables_length_refusal
tables_short_row = refl

pub path_most_row : length_refusal kind.Path 1048576 ≡ None
unfolding length_refusal text_length_refusal
path_most_row = refl

pub path_long_row : length_refusal kind.Path 1048577 ≡ Some (Path (TooLong 1048577))
unfolding length_refusal text_length_refusal
path_long_row = refl
