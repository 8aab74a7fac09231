-- The lumps that the bytes of WAD files list, or the first refusal of these bytes.
use Rattle.std.specs.Prelude.{◌≡◌, refl, ℕ, suc, Bool, ◌+◌, ◌*◌, ◌==◌, ◌&&◌, ◌||◌, nat_lt, not, if◌then◌else◌, List, [], ◌∷◌, ◌++◌, length, take, drop, position, Option, Some, None, Result, Ok, Err}
use Rattle.std.specs.List.{sum_by}
use Rattle.std.specs.Option.{option_map}
use Rattle.std.specs.Str.{bytes_eq}
use Rattle.word_rules.specs.{Bytes.word_at, Least.or_else, Listed.listed}
use Rattle.lump_rules.specs.declared.names.TheConstants.{IWAD, PWAD, LETTER_COUNT}
use Rattle.lump_rules.specs.{declared.name.TheConstants.NAME_SIZE, declared.wad.Header.Header}
use Rattle.lump_rules.specs.declared.wad.TheConstants.{HEADER_SIZE, COUNT_AT, PLACE_AT, ENTRY_SIZE, SIZE_AT, NAME_AT, MAX_LUMPS}
use Rattle.lump_rules.specs.{declared.wad.Lump.Lump, declared.wad.DirRefusal.DirRefusal}
use Rattle.lump_rules.specs.declared.wad.DirRefusal.TheVariants.{NotWad, Short, Entry, TooMany}
use Rattle.lump_rules.specs.Names.{name_of, filled}

-- the letters of a WAD
abbrev pub is_wad : List ℕ → Bool
is_wad letters = bytes_eq letters IWAD || bytes_eq letters PWAD

-- the header of a file: its first bytes
abbrev pub header : List ℕ → List ℕ
header bytes = take HEADER_SIZE bytes

-- what a header counts, and where it places the directory
abbrev pub entry_count : List ℕ → ℕ
entry_count head = word_at head COUNT_AT

abbrev pub directory_place : List ℕ → ℕ
directory_place head = word_at head PLACE_AT

-- how many bytes the directory has
abbrev pub directory_size : List ℕ → ℕ
directory_size head = ENTRY_SIZE * entry_count head

-- what a header says of a file of that size
abbrev pub header_in : ℕ → List ℕ → Header
header_in size head = record { size = size; count = entry_count head; place = directory_place head }

-- the first refusal of a whole header, where so many entries are listed before it
unfoldable pub whole_header_refusal : ℕ → ℕ → ℕ → List ℕ → Option DirRefusal
whole_header_refusal file before size head =
    if not (is_wad (take LETTER_COUNT head)) then Some (NotWad file)
    else if nat_lt size (directory_place head + directory_size head) then Some (Short file)
    else if nat_lt MAX_LUMPS (before + entry_count head) then Some TooMany
    else None

-- the first refusal of a file's header
abbrev pub header_refusal : ℕ → ℕ → List ℕ → Option DirRefusal
header_refusal file before bytes =
    if nat_lt (length bytes) HEADER_SIZE then Some (Short file)
    else whole_header_refusal file before (length bytes) (header bytes)

-- the lump of an entry
abbrev pub lump_in : ℕ → List ℕ → Lump
lump_in file entry = record {
  file = file;
  place = word_at entry 0;
  size = word_at entry SIZE_AT;
  name = name_of (take NAME_SIZE (drop NAME_AT entry));
}

-- the entry of that index
abbrev pub entry_at : List ℕ → ℕ → List ℕ
entry_at entries index = take ENTRY_SIZE (drop (ENTRY_SIZE * index) entries)

-- the lumps of so many entries
unfoldable pub lumps_in : ℕ → ℕ → List ℕ → List Lump
lumps_in file count entries = listed (λ index. lump_in file (entry_at entries index)) count

-- the entries of the directory that a header places
abbrev pub entries_in : List ℕ → List ℕ → List ℕ
entries_in head bytes = take (directory_size head) (drop (directory_place head) bytes)

-- the lumps of a file
unfoldable pub file_lumps : ℕ → List ℕ → List Lump
file_lumps file bytes = lumps_in file (entry_count (header bytes)) (entries_in (header bytes) bytes)

-- a lump of at least one byte that passes the end of a file of that size
abbrev pub passes_end : ℕ → Lump → Bool
passes_end size lump = not (lump.size == 0) && nat_lt size (lump.place + lump.size)

-- the first lump that passes the file's end
unfoldable pub entry_refusal : ℕ → ℕ → List Lump → Option DirRefusal
entry_refusal file size lumps = option_map (λ index. Entry file index) (position (passes_end size) lumps)

-- the first refusal of a file, where so many entries are listed before it
abbrev pub file_refusal : ℕ → ℕ → List ℕ → Option DirRefusal
file_refusal file before bytes =
    or_else (header_refusal file before bytes) (entry_refusal file (length bytes) (file_lumps file bytes))

-- the first refusal of files, of which the first has that index
unfoldable pub refusal_from : ℕ → ℕ → List (List ℕ) → Option DirRefusal
refusal_from file before [] = None
refusal_from file before (bytes ∷ rest) =
    or_else (file_refusal file before bytes) (refusal_from (suc file) (before + entry_count (header bytes)) rest)

-- the lumps of files, of which the first has that index
unfoldable pub lumps_from : ℕ → List (List ℕ) → List Lump
lumps_from file [] = []
lumps_from file (bytes ∷ rest) = file_lumps file bytes ++ lumps_from (suc file) rest

-- the value, unless there is a refusal
abbrev pub unless_refused : {A : Type 0} → Option DirRefusal → A → Result A DirRefusal
unless_refused None value = Ok value
unless_refused (Some refusal) value = Err refusal

-- the lumps of all files in their order, or the first refusal
abbrev pub directory : List (List ℕ) → Result (List Lump) DirRefusal
directory contents = unless_refused (refusal_from 0 0 contents) (lumps_from 0 contents)

-- how many bytes of a file list its lumps: its header and its directory
abbrev pub listing_size : List ℕ → ℕ
listing_size bytes = HEADER_SIZE + directory_size (header bytes)

-- the same of all files
unfoldable pub listing_sizes : List (List ℕ) → ℕ
listing_sizes contents = sum_by listing_size contents

-- a file with one entry: no byte at 0, named AB
pub directory_row : directory ((80 ∷ 87 ∷ 65 ∷ 68 ∷ 1 ∷ 0 ∷ 0 ∷ 0 ∷ 12 ∷ 0 ∷ 0 ∷ 0 ∷ 0 ∷ 0 ∷ 0 ∷ 0 ∷ 0 ∷ 0 ∷ 0 ∷ 0 ∷ 97 ∷ 66 ∷ 0 ∷ 0 ∷ 0 ∷ 0 ∷ 0 ∷ 0 ∷ []) ∷ [])
    ≡ Ok (record { file = 0; place = 0; size = 0; name = 65 ∷ 66 ∷ 0 ∷ 0 ∷ 0 ∷ 0 ∷ 0 ∷ 0 ∷ [] } ∷ [])
unfolding whole_header_refusal entry_refusal lumps_in listed file_lumps refusal_from lumps_from filled word_at
directory_row = refl

-- the second file has no whole header
pub directory_short_row : directory ((80 ∷ 87 ∷ 65 ∷ 68 ∷ 0 ∷ 0 ∷ 0 ∷ 0 ∷ 12 ∷ 0 ∷ 0 ∷ 0 ∷ []) ∷ (80 ∷ 87 ∷ []) ∷ []) ≡ Err (Short 1)
unfolding whole_header_refusal entry_refusal lumps_in listed file_lumps refusal_from lumps_from word_at
directory_short_row = refl
