-- Calls that read sprite lumps: which they may ask for, and which patches were read so far.
use Rattle.std.specs.Prelude.{◌≡◌, ◌≤◌, ℕ, List, length, Option, Some, None, IfSome, IfErr, Result, Ok, Contains, slice_index_or}
use Rattle.sprite_book.specs.Rules.{Fault, HasCauses, Lump, Mention, Need, Patch, ResultIs, ShelfView, SpriteRefusal, itself, lump_bytes, mentions, patch_of, pictures_of}
use Rattle.lump_cache.specs.{Zones.Heap, Orders.Item, Orders.IsInOrder}
use Rattle.lump_cache.specs.DirectoryView.{DirectoryView}
use Rattle.lump_cache.specs.Calls.{PreservesCache, HoldContents, IsFullFor, IfFull, LeavesInOrder, HasAll}

-- for each of so many lumps there is a slot of the cache, and a place for its patch
abbrev pub HavePlaces : ℕ → ℕ → ℕ → Type 0
HavePlaces lumps slots places = (lumps ≤ slots) × (lumps ≤ places)

-- the lumps that a call may ask for: those of pictures, of a needed frame, of all of them
abbrev pub IsLumpOf : List Mention → ℕ → Type 0
IsLumpOf pictures lump = (mention : Mention) × Contains pictures mention × (mention.lump ≡ lump)

pub record IsWantedBy (lumps : List Lump) (need : Need) (lump : ℕ) : Type 0 where
  pub pictures : List Mention
  pub are : pictures_of (mentions lumps need.sprite) need ≡ Ok pictures
  pub among : IsLumpOf pictures lump

pub record IsWanted (lumps : List Lump) (needs : List Need) (lump : ℕ) : Type 0 where
  pub need : Need
  pub is : Contains needs need
  pub wanted : IsWantedBy lumps need lump

-- what was read so far are the patches that the lumps' bytes are
pub record ArePatchesOf (bytes : ℕ → List ℕ) (patches : List (Option Patch)) : Type 0 where
  pub at : (lump : ℕ) →
      IfSome (slice_index_or patches lump None) (λ patch. patch_of (bytes lump) ≡ Some patch)

-- the shelf and the cache tell these contents, and what was read so far are patches of them
pub record HoldContentsWith (view : ShelfView) (dir : DirectoryView) (z : Heap)
    (patches : List (Option Patch)) (contents : List (List ℕ)) : Type 0 where
  pub hold : HoldContents view dir z contents
  pub read : ArePatchesOf (lump_bytes contents dir.lumps) patches

-- A call over the cache that also keeps the patches that it reads: its answer, what it keeps, when
-- a read fails, when the zone is full, and that a cache in order stays so.
pub record Reads {A B : Type 0} (view after : ShelfView) (dir : DirectoryView) (old new : Heap)
    (before now : List (Option Patch)) (wants : ℕ → Type 0) (value : B → A)
    (expected : (ℕ → List ℕ) → Result A SpriteRefusal)
    (result : Result B (Fault SpriteRefusal)) : Type 0 where
  pub keeps : PreservesCache view after dir old new
  pub read : (contents : List (List ℕ)) → HoldContentsWith view dir old before contents →
      ArePatchesOf (lump_bytes contents dir.lumps) now
  pub count : length now ≡ length before
  pub answers : (contents : List (List ℕ)) → HoldContentsWith view dir old before contents →
      ResultIs itself view.steady value (expected (lump_bytes contents dir.lumps)) result
  pub causes : HasCauses itself view.faults after.faults result
  pub full : IfErr result (λ fault. IfFull (itself fault) (IsFullFor wants dir old))
  pub order : (items : List Item) → HasAll items dir wants → IsInOrder items old →
      LeavesInOrder itself items view after old new result
