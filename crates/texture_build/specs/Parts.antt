-- A texture while its patches come one after the other.
use Rattle.std.specs.Prelude.{◌≡◌, ℕ, List, Contains, Option, None, Some, Result, Ok, Err}
use Rattle.texture_build.specs.Rules.{ColumnLookup, Lump, MissingPatch, PlacedPatch, TexRefusal, TextureEntry}
use Rattle.patch_columns.specs.Seen.{columns_with, seen_lookups}
use Rattle.texture_build.specs.Asked.{patch_lump}

-- refused where a patch is missing
unfoldable pub or_missing : {A : Type 0} → ℕ → Option A → Result A TexRefusal
or_missing number None = Err (MissingPatch number)
or_missing number (Some value) = Ok value

-- one patch more, and what each column is read from with it
pub record PatchStep : Type 0 where
  pub patch : PlacedPatch
  pub columns : List ColumnLookup

unfoldable pub step_of : (ℕ → List ℕ) → List ColumnLookup → PlacedPatch → PatchStep
step_of bytes columns patch =
    record { patch = patch; columns = columns_with (bytes patch.lump) patch columns }

-- the patches so far, and what each column is read from by them
pub record PatchesPart : Type 0 where
  pub patches : List PlacedPatch
  pub columns : List ColumnLookup

unfoldable pub patches_part : (ℕ → List ℕ) → ℕ → List PlacedPatch → PatchesPart
patches_part bytes width patches =
    record { patches = patches; columns = seen_lookups bytes patches width }

-- a patch of one of these entries
pub record IsEntryPatch (lumps : List Lump) (names : List (List ℕ)) (entries : List TextureEntry)
    (lump : ℕ) : Type 0 where
  pub entry : TextureEntry
  pub among : Contains entries entry
  pub is : patch_lump lumps names entry ≡ Some lump
