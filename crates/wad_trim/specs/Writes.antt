-- A call that reads lumps through the cache and writes bytes: what it appends, what it keeps, and
-- the cause of each fault.
use Rattle.std.specs.Prelude.{◌≡◌, ◌≤◌, ◌<◌, ℕ, List, Contains, IsTrue, OnErr, OnOk, Result, Ok, Err, ⊤}
use Rattle.wad_trim.specs.Rules.{Copy, FaultsRose, Grew, GrewByPrefix, Heap, IsInOrder, Item, KeepsOrder, Label, Mark, ShelfView, TrimPart, lump_bytes}
use Rattle.texture_build.specs.DirectoryView.{DirectoryView}
use Rattle.texture_build.specs.Calls.{HasAll, HoldContents, IsFullFor, PreservesCache}
use Rattle.wad_trim.specs.declared.fault.TrimWrite.{TrimWrite}
use Rattle.wad_trim.specs.declared.fault.TrimWrite.TheVariants.{ReadFault, WriteFault, ZoneFull}

-- the lump of a part is one of so many
abbrev pub IsPartThere : ℕ → TrimPart → Type 0
IsPartThere count (Mark name) = ⊤
IsPartThere count (Label lump) = lump.0 < count
IsPartThere count (Copy lump) = lump.0 < count

-- a lump that is copied
abbrev pub IsCopied : List TrimPart → ℕ → Type 0
IsCopied parts n = Contains parts (Copy (record { 0 = n }))

-- a zone that is in order for all that is copied is not full, and stays so unless a read fails
abbrev pub InOrderWhere : Result (Unit {0}) TrimWrite → Type 0 → Type 0
InOrderWhere (Ok done) P = P
InOrderWhere (Err ReadFault) P = ⊤
InOrderWhere (Err WriteFault) P = P
InOrderWhere (Err (ZoneFull wanted widest)) P = ⊥

-- The call appends these bytes, or a prefix of them. `wants` are the lumps that it may ask for.
pub record WritesLumps (view after : ShelfView) (dir : DirectoryView) (old new : Heap)
    (written now : List ℕ → Type 0) (faults later : ℕ) (wants : ℕ → Type 0)
    (expected : (ℕ → List ℕ) → List ℕ) (result : Result (Unit {0}) TrimWrite) : Type 0 where
  pub keeps : PreservesCache view after dir old new
  pub ok : (contents : List (List ℕ)) → HoldContents view dir old contents →
      OnOk result (Grew written now (expected (lump_bytes contents dir.lumps)))
  pub err : (contents : List (List ℕ)) → HoldContents view dir old contents →
      OnErr result (GrewByPrefix written now (expected (lump_bytes contents dir.lumps)))
  pub read_fault : result ≡ Err ReadFault → FaultsRose view.faults after.faults
  -- unless a read fails, the shelf's count of faults is as it was
  pub read_settled : (result ≡ Err ReadFault → ⊥) → after.faults ≡ view.faults
  pub steady : (contents : List (List ℕ)) → HoldContents view dir old contents → IsTrue view.steady →
      result ≡ Err ReadFault → ⊥
  pub write_fault : result ≡ Err WriteFault → FaultsRose faults later
  -- unless a write fails, the output's count of faults is as it was
  pub write_settled : (result ≡ Err WriteFault → ⊥) → later ≡ faults
  pub later_faults : faults ≤ later
  pub full : (wanted widest : ℕ) → result ≡ Err (ZoneFull wanted widest) → IsFullFor wants dir old wanted widest
  pub order : (items : List Item) → HasAll items dir wants → IsInOrder items old →
      InOrderWhere result (KeepsOrder items old new view.taken after.taken)
