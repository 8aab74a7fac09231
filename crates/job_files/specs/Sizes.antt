-- How many bytes of the files of a job are read, but for those of lumps.
use Rattle.std.specs.Prelude.{ℕ, ◌+◌, List, [], ◌∷◌, length, unwrap_or, Option, Some, None, Result, Ok, Err}
use Rattle.std.specs.Option.{option_map_or}
use Rattle.job_files.specs.Rules.{DirRefusal, File, FileNames, Lump, directory, file_named, flat_of, listing_sizes, lump_at}
use Rattle.frame_writer.specs.declared.TheConstants.{PALETTE_BYTES}
use Rattle.job_files.specs.Files.{files_named}

-- the bytes of the WADs of these names
abbrev pub wad_contents : List (List ℕ) → List File → List (List ℕ)
wad_contents wads files = unwrap_or (files_named wads files) []

-- how many bytes the first file of a name has
unfoldable pub named_size : List ℕ → List File → ℕ
named_size name files = option_map_or length (file_named name files) 0

abbrev pub optional_size : Option (List ℕ) → List File → ℕ
optional_size None files = 0
optional_size (Some name) files = named_size name files

-- the files that are read whole, but for the tables of angles
unfoldable pub texts_size : FileNames → List File → ℕ
texts_size names files = named_size names.things files + named_size names.path files + optional_size names.weapon files

-- these, the tables of angles, and the header and the directory of each WAD
unfoldable pub files_size : FileNames → List (List ℕ) → List File → ℕ
files_size names wads files = named_size names.tables files + texts_size names files + listing_sizes (wad_contents wads files)

-- how many bytes the flat of a name has
unfoldable pub flat_size : List Lump → List ℕ → ℕ
flat_size lumps name = option_map_or (λ lump. (lump_at lumps lump).size) (flat_of lumps name) 0

abbrev pub art_size : List ℕ → Result (List Lump) DirRefusal → ℕ
art_size name (Err refusal) = 0
art_size name (Ok lumps) = PALETTE_BYTES + flat_size lumps name

-- what the job `flat` reads of a file: its header and its directory, the first palette, and the flat
unfoldable pub flat_sizes : List ℕ → List ℕ → ℕ
flat_sizes name bytes = listing_sizes (bytes ∷ []) + art_size name (directory (bytes ∷ []))

-- the same of the first file of a name
unfoldable pub flat_reads : List ℕ → List ℕ → List File → ℕ
flat_reads name file files = option_map_or (flat_sizes name) (file_named file files) 0
