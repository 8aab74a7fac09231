-- What a lump that was made live has.
use Rattle.std.specs.Prelude.{◌≡◌, ℕ, List, Some, OnOk, Result}
use Rattle.lump_cache.specs.Rules.{Heap, ShelfView, bytes_of, lump_bytes}
use Rattle.wad_dir.specs.DirectoryView.{DirectoryView}
use Rattle.lump_cache.specs.{Caches.lump_owner, Calls.HoldContents}

-- after Ok the lump's block has its bytes of the contents to which the cache was faithful
abbrev pub GivesBytes : {E : Type 0} → ShelfView → DirectoryView → Heap → Heap → ℕ → Result (Unit {0}) E → Type 0
GivesBytes view dir old new lump result =
    (contents : List (List ℕ)) → HoldContents view dir old contents →
    OnOk result (bytes_of (lump_owner lump) new.blocks ≡ Some (lump_bytes contents dir.lumps lump))
