-- How many bytes of files are read, by their sizes.
use Rattle.picture_rules.proofs.Common.{[], ap, Err, IsSome, length, List, None, Ok, Option, option_map_or, refl, Result, Some, unwrap_or, ℕ, ◌+◌, ◌≡◌, ◌≤◌}
use Rattle.art_rules.specs.Words.{DirRefusal, File, file_named, from_below, listing_sizes, Lump}
use Rattle.frame_writer.specs.declared.TheConstants.{PALETTE_BYTES}
use Rattle.job_files.specs.Files.{files_named}
use Rattle.job_files.specs.Sizes.{art_size, flat_reads, flat_size, flat_sizes, named_size, wad_contents}
use Rattle.refusals.specs.declared.refusal.Refusal.TheVariants.{Wad}

-- no more than a number of a file that is held
sized : (f : List ℕ → ℕ) (file : Option (List ℕ)) (before after : ℕ) → IsSome file → ((bytes : List ℕ) → file ≡ Some bytes → after ≤ before + f bytes) → after ≤ before + option_map_or f file 0
sized f None before after there fits = absurd (cc)
sized f (Some bytes) before after there fits = fits bytes refl

pub named_taken : (name : List ℕ) (files : List File) (before after : ℕ) → IsSome (file_named name files) → ((bytes : List ℕ) → file_named name files ≡ Some bytes → after ≤ before + length bytes) → after ≤ before + named_size name files
unfolding named_size
named_taken name files before after there fits = sized length (file_named name files) before after there fits

-- the listings of WADs that are held
pub listed_taken : (wads : List (List ℕ)) (files : List File) (contents : List (List ℕ)) → files_named wads files ≡ Some contents → listing_sizes (wad_contents wads files) ≡ listing_sizes contents
listed_taken wads files contents named = ap (λ (found : Option (List (List ℕ))). listing_sizes (unwrap_or found [])) named

-- what the job `flat` reads of a file that is held
pub flat_taken : (name file : List ℕ) (files : List File) (before after : ℕ) → IsSome (file_named file files) → ((bytes : List ℕ) → file_named file files ≡ Some bytes → after ≤ before + flat_sizes name bytes) → after ≤ before + flat_reads name file files
unfolding flat_reads
flat_taken name file files before after there fits = sized (flat_sizes name) (file_named file files) before after there fits

-- of a directory that was accepted
pub art_known : (name : List ℕ) (found : Result (List Lump) DirRefusal) (lumps : List Lump) → from_below Wad found ≡ Ok lumps → art_size name found ≡ PALETTE_BYTES + flat_size lumps name
art_known name (Ok own) lumps e = let lumps_same : own ≡ lumps = cc in ap (λ (xs : List Lump). PALETTE_BYTES + flat_size xs name) lumps_same
art_known name (Err refusal) lumps e = cc
