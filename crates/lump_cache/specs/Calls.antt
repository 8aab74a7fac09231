-- A call that reads lumps through the cache: what it answers by the bytes of lumps, and what it
-- keeps of the cache and of the shelf.
use Rattle.std.specs.Prelude.{◌≡◌, ℕ, ◌<◌, true, List, Some, IfSome, IfErr, MatchResult, Result, ⊤}
use Rattle.lump_cache.specs.Rules.{AllWithin, Fault, HasCauses, Heap, IsInOrder, IsLaterShelf, Item, KeepsOrder, NameFiles, OutOfMemory, Owner, ReadFault, Refused, ResultIs, ShelfView, ZoneFull, block_size, bytes_of, has_item, holding_of, lump_at, lump_bytes, owned_block}
use Rattle.wad_dir.specs.DirectoryView.{DirectoryView}
use Rattle.lump_cache.specs.Caches.{IsFaithful, IsAtRest, KeepsCounts, lump_owner, composite_owner, holds_static}
use Rattle.lump_cache.specs.Sizes.{HasSizes, IsGapBeside}

-- What is kept, whatever is answered: the shelf stands for what it stood for, the zone has as many
-- bytes and slots, a cache at rest is at rest, a block that is pinned for the whole run stands as it
-- is, a cache that was faithful to the lumps of these files is faithful, one whose live lumps have the
-- directory's sizes has such, and no composite is made: each has its bytes, or is not live.
pub record PreservesCache (view after : ShelfView) (dir : DirectoryView)
    (old new : Heap) : Type 0 where
  pub follows : IsLaterShelf view after
  pub counts : KeepsCounts old new
  pub rest : (colormap count : ℕ) → IsAtRest colormap count old → IsAtRest colormap count new
  pub static : (o : Owner) → holds_static (holding_of o old.blocks) ≡ true →
      owned_block o new.blocks ≡ owned_block o old.blocks
  pub faithful : (contents : List (List ℕ)) → NameFiles view dir.files contents →
      IsFaithful contents dir.lumps old → IsFaithful contents dir.lumps new
  pub sizes : HasSizes dir.lumps old → HasSizes dir.lumps new
  pub composites : (number : ℕ) →
      IfSome (bytes_of (composite_owner number) new.blocks)
      (λ bytes. bytes_of (composite_owner number) old.blocks ≡ Some bytes)

-- what is said of a fault that the zone is full
abbrev pub IfFull : {R : Type 0} → Fault R → (ℕ → ℕ → Type 0) → Type 0
IfFull (Refused reason) P = ⊤
IfFull ReadFault P = ⊤
IfFull (ZoneFull wanted widest') P = P wanted widest'
IfFull OutOfMemory P = ⊤

-- No gap held the block of a lump that may be asked for. From a cache at rest the widest gap is all
-- that is left beside the colormap, so the zone does not hold the block there.
pub record IsFullFor (wants : ℕ → Type 0) (dir : DirectoryView) (z : Heap)
    (wanted widest' : ℕ) : Type 0 where
  pub lump : ℕ
  pub asked : wants lump
  pub wanted_is : wanted ≡ block_size (lump_at dir.lumps lump).size
  pub narrow : widest' < wanted
  pub gap : (colormap count : ℕ) → IsAtRest colormap count z →
      IsGapBeside z.size (block_size count) widest'

-- a zone that is in order for all that may be asked for is not full, and stays so unless a read
-- fails
abbrev pub InOrderAt : {R : Type 0} → Fault R → Type 0 → Type 0
InOrderAt (Refused reason) P = P
InOrderAt ReadFault P = ⊤
InOrderAt (ZoneFull wanted widest') P = ⊥
InOrderAt OutOfMemory P = P

-- the shelf's files have these contents, and the cache is faithful to them
pub record HoldContents (view : ShelfView) (dir : DirectoryView) (z : Heap)
    (contents : List (List ℕ)) : Type 0 where
  pub stand : NameFiles view dir.files contents
  pub within : AllWithin contents dir.lumps
  pub faithful : IsFaithful contents dir.lumps z

-- the list has each lump that may be asked for
abbrev pub HasAll : List Item → DirectoryView → (ℕ → Type 0) → Type 0
HasAll items dir wants = (lump : ℕ) → wants lump →
    has_item items (lump_owner lump) (lump_at dir.lumps lump).size ≡ true

-- a zone that is in order for these items is so after a call, unless a read fails; it is not full
abbrev pub LeavesInOrder : {B R E : Type 0} → (E → Fault R) → List Item → ShelfView → ShelfView →
    Heap → Heap → Result B E → Type 0
LeavesInOrder fault_of items view after old new result =
    MatchResult result
    (λ _. KeepsOrder items old new view.taken after.taken)
    (λ fault. InOrderAt (fault_of fault) (KeepsOrder items old new view.taken after.taken))

-- A call by what it is expected to give for the bytes of lumps, and by the lumps that it may ask
-- for: its answer, what it keeps, when a read fails, when the zone is full, and that a cache in
-- order stays so.
pub record ReadsLumps {A B R E : Type 0} (fault_of : E → Fault R)
    (view after : ShelfView) (dir : DirectoryView) (old new : Heap) (wants : ℕ → Type 0)
    (value : B → A) (expected : (ℕ → List ℕ) → Result A R) (result : Result B E) : Type 0 where
  pub keeps : PreservesCache view after dir old new
  pub answers : (contents : List (List ℕ)) → HoldContents view dir old contents →
      ResultIs fault_of view.steady value (expected (lump_bytes contents dir.lumps)) result
  pub causes : HasCauses fault_of view.faults after.faults result
  pub full : IfErr result (λ fault. IfFull (fault_of fault) (IsFullFor wants dir old))
  pub order : (items : List Item) → HasAll items dir wants → IsInOrder items old →
      LeavesInOrder fault_of items view after old new result
