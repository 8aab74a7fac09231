-- The picture of a flat, which is laid over the frame again and again.
use Rattle.std.specs.Prelude.{ℕ, ◌/◌, ◌%◌, List, [], ◌∷◌, take, Option, Some, None, Result, Ok, Err}
use Rattle.job_files.specs.Rules.{FLAT_SIDE, FRAME_WIDTH, File, FlatName, Lump, Stop, and_then, directory, else_absent, file_named, flat_byte, flat_of, from_below, listed, lump_bytes, no_file, playpal_of}
use Rattle.frame_writer.specs.declared.TheConstants.{FRAME_BYTES, PALETTE_BYTES}
use Rattle.refusals.specs.declared.refusal.Refusal.{Refusal}
use Rattle.refusals.specs.declared.refusal.Refusal.TheVariants.{Wad, Level}
use Rattle.scene_rules.specs.declared.refusal.AuditRefusal.TheVariants.{Art, Scene}

-- a frame, and the palette for its indices
pub record PictureValue : Type 0 where
  pub frame : List ℕ
  pub palette : List ℕ

-- the index at a place of the frame, counted row by row
abbrev pub tiled_index : List ℕ → ℕ → ℕ
tiled_index flat i = flat_byte flat (i % FRAME_WIDTH % FLAT_SIDE) (i / FRAME_WIDTH % FLAT_SIDE)

-- the flat over the frame
abbrev pub tiled : List ℕ → List ℕ
tiled flat = listed (tiled_index flat) FRAME_BYTES

-- the value, or else a refusal
abbrev pub else_refuse : {A : Type 0} → Refusal → Option A → Result A Refusal
else_refuse refusal None = Err refusal
else_refuse refusal (Some value) = Ok value

-- the first palette
abbrev pub palette_in : List (List ℕ) → List Lump → Result (List ℕ) Refusal
palette_in contents lumps = and_then (from_below (λ refusal. Level (Art refusal)) (playpal_of lumps)) (λ lump. Ok (take PALETTE_BYTES (lump_bytes contents lumps lump)))

-- the bytes of the flat of a name
abbrev pub flat_in : List (List ℕ) → List Lump → List ℕ → Result (List ℕ) Refusal
flat_in contents lumps name = and_then (else_refuse (Level (Scene FlatName)) (flat_of lumps name)) (λ lump. Ok (lump_bytes contents lumps lump))

-- the palette, then the flat
abbrev pub picture_in : List (List ℕ) → List ℕ → List Lump → Result PictureValue Refusal
picture_in contents name lumps =
    and_then (palette_in contents lumps) (λ palette.
    and_then (flat_in contents lumps name) (λ flat.
    Ok (record { frame = tiled flat; palette = palette })))

-- the directory of files of these bytes, then the picture
abbrev pub flat_picture : List ℕ → List (List ℕ) → Result PictureValue Refusal
flat_picture name contents = and_then (from_below Wad (directory contents)) (picture_in contents name)

-- the picture of a flat in the file of a name, or the first stop
abbrev pub flat_verdict : List ℕ → List ℕ → List File → Result PictureValue (Stop Refusal)
flat_verdict name file files =
    and_then (else_absent (file_named file files)) (λ bytes. no_file (flat_picture name (bytes ∷ [])))
