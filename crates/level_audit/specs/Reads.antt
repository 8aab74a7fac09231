-- The lumps that an audit reads. Which patches and pictures there are depends on the bytes of others.
use Rattle.std.specs.Prelude.{◌≡◌, ◌<◌, ℕ, List, Ok, ◌⊎◌}
use Rattle.level_audit.specs.Rules.{Heap, LevelBase, Lump, ShelfView, ThingLine, base_in, block_size, colormap_of, lump_at, lump_bytes}
use Rattle.texture_build.specs.{DirectoryView.DirectoryView, Calls.HoldContents}
use Rattle.level_audit.specs.{Asked.IsOfBase, Asked.IsOfScene}

-- a patch or a picture of the scene over the base that these bytes give
pub record IsOverBase (bytes : ℕ → List ℕ) (lumps : List Lump) (lines : List ThingLine) (name : List ℕ) (skill lump : ℕ) : Type 0 where
  pub base : LevelBase
  pub is : base_in bytes lumps name ≡ Ok base
  pub asked : IsOfScene lumps lines skill name base lump

-- a lump that is read after COLORMAP, and any that is read
abbrev pub IsAfterColormap : (ℕ → List ℕ) → List Lump → List ThingLine → List ℕ → ℕ → ℕ → Type 0
IsAfterColormap bytes lumps lines name skill lump = IsOfBase lumps name lump ⊎ IsOverBase bytes lumps lines name skill lump

abbrev pub IsReadBy : (ℕ → List ℕ) → List Lump → List ThingLine → List ℕ → ℕ → ℕ → Type 0
IsReadBy bytes lumps lines name skill lump = (colormap_of lumps ≡ Ok lump) ⊎ IsAfterColormap bytes lumps lines name skill lump

-- the lump is read whatever contents are told
abbrev pub IsReadLater : ShelfView → DirectoryView → Heap → List ThingLine → List ℕ → ℕ → ℕ → Type 0
IsReadLater view dir z lines name skill lump =
    (contents : List (List ℕ)) → HoldContents view dir z contents → IsAfterColormap (lump_bytes contents dir.lumps) dir.lumps lines name skill lump

-- no gap held the block of a lump that an audit reads
pub record IsFullAudit (view : ShelfView) (dir : DirectoryView) (z : Heap) (lines : List ThingLine) (name : List ℕ) (skill wanted widest' : ℕ) : Type 0 where
  pub lump : ℕ
  pub asked : (contents : List (List ℕ)) → HoldContents view dir z contents → IsReadBy (lump_bytes contents dir.lumps) dir.lumps lines name skill lump
  pub wanted_is : wanted ≡ block_size (lump_at dir.lumps lump).size
  pub narrow : widest' < wanted
