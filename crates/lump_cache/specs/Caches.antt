-- What a cache holds, and what a call keeps of it.
use Rattle.std.specs.Prelude.{◌≡◌, ℕ, ◌<◌, Bool, true, false, List, length, Option, Some, None, IfSome, ⊤, ◌⊎◌, if◌then◌else◌, Result, Ok, Err, All}
use Rattle.std.specs.List.{list_any}
use Rattle.std.specs.Option.{option_map_or}
use Rattle.lump_cache.specs.Rules.{Block, Cache, Fault, Heap, Holding, Level, Lump, Owner, Static, Tag, TakesBlock, block_size, bytes_of, gaps, holding_of, is_pinned, is_purgeable, lump_bytes, owned_block, owner_at, same_owner, total, widest, with_bytes, with_tag, without_block}
use Rattle.outside.specs.declared.fault.Fault.TheVariants as fault
use Rattle.lump_cache.specs.declared.fault.CacheFault.{CacheFault}
use Rattle.lump_cache.specs.declared.fault.CacheFault.TheVariants.{ZoneFull, ReadFault}

-- who holds the blocks of lumps and of composites
abbrev pub lump_owner : ℕ → Owner
lump_owner number = owner_at 0 number

abbrev pub composite_owner : ℕ → Owner
composite_owner number = owner_at 1 number

-- an owner's block has other bytes, as many as before, of which more is said
pub record IsFilled (o : Owner) (old new : Heap) (P : List ℕ → Type 0) : Type 0 where
  pub before : List ℕ
  pub bytes : List ℕ
  pub before_is : bytes_of o old.blocks ≡ Some before
  pub len : length bytes ≡ length before
  pub zone : new ≡ with_bytes o bytes old
  pub says : P bytes

-- each live lump has the bytes that its files have
pub record IsFaithful (contents : List (List ℕ)) (lumps : List Lump) (z : Heap) : Type 0 where
  pub at : (number : ℕ) → number < length lumps →
      IfSome (bytes_of (lump_owner number) z.blocks)
      (λ bytes. bytes ≡ lump_bytes contents lumps number)

-- a block that is pinned for the whole run, of so many bytes
abbrev pub IsStatic : ℕ → Option Holding → Type 0
IsStatic size None = ⊥
IsStatic size (Some h) = (h.tag ≡ Static) × (h.asked ≡ size)

-- an owner has such a block
abbrev pub HasStatic : ℕ → Option Block → Type 0
HasStatic size None = ⊥
HasStatic size (Some b) = IsStatic size b.holding

abbrev pub IsUnpinned : Option Block → Type 0
IsUnpinned None = ⊤
IsUnpinned (Some b) = is_pinned b ≡ false

abbrev pub IsPinned : Option Block → Type 0
IsPinned None = ⊥
IsPinned (Some b) = is_pinned b ≡ true

-- the colormap of that size stands at place 0, pinned for the whole run, and no other block is
-- pinned
pub record IsAtRest (colormap size : ℕ) (z : Heap) : Type 0 where
  pub block : Block
  pub is : owned_block (lump_owner colormap) z.blocks ≡ Some block
  pub place : block.place ≡ 0
  pub pinned : IsStatic size block.holding
  pub others : (o : Owner) → same_owner (lump_owner colormap) o ≡ false →
      IsUnpinned (owned_block o z.blocks)

-- no slot is live
abbrev pub IsEmpty : Heap → Type 0
IsEmpty z = (o : Owner) → owned_block o z.blocks ≡ None

-- the zone keeps its size, and its slots of each kind
abbrev pub KeepsCounts : Heap → Heap → Type 0
KeepsCounts old new =
    (new.size ≡ old.size) × (new.lumps ≡ old.lumps) × (new.composites ≡ old.composites)

-- a slot that a call does not name: as it was, or empty where its block was purgeable
abbrev pub MayPurge : Option Block → Type 0
MayPurge None = ⊥
MayPurge (Some b) = is_purgeable b ≡ true

abbrev pub KeptOrPurged : Option Block → Option Block → Type 0
KeptOrPurged old new = (new ≡ old) ⊎ ((new ≡ None) × MayPurge old)

-- what a request for a live lump does: its tag changes, unless it is pinned for the whole run
abbrev pub is_static_tag : Tag → Bool
is_static_tag Static = true
is_static_tag Level = false
is_static_tag Cache = false

abbrev pub holds_static : Option Holding → Bool
holds_static holding = option_map_or (λ (h : Holding). is_static_tag h.tag) holding false

-- at rest, but that the blocks of some owners may be pinned too, though not for the whole run
pub record IsAtRestExcept (colormap size : ℕ) (pinned : List Owner) (z : Heap) : Type 0 where
  pub block : Block
  pub is : owned_block (lump_owner colormap) z.blocks ≡ Some block
  pub place : block.place ≡ 0
  pub static : IsStatic size block.holding
  pub others : (o : Owner) → same_owner (lump_owner colormap) o ≡ false →
      list_any (same_owner o) pinned ≡ false → IsUnpinned (owned_block o z.blocks)
  pub passing : (o : Owner) → same_owner (lump_owner colormap) o ≡ false →
      holds_static (holding_of o z.blocks) ≡ false

abbrev pub with_tag_unless_static : Owner → Tag → Heap → Heap
with_tag_unless_static o tag z =
    if holds_static (holding_of o z.blocks) then z else with_tag o tag z

-- a release makes a live block purgeable in the same way, and does nothing to an empty slot
abbrev pub released_heap : Owner → Heap → Option Holding → Heap
released_heap o z None = z
released_heap o z (Some h) = with_tag_unless_static o Cache z

abbrev pub release_heap : Owner → Heap → Heap
release_heap o z = released_heap o z (holding_of o z.blocks)

-- what is said of each answer of a call: Ok, no room, and a read that failed
abbrev pub MatchAnswer : {A : Type 0} → Result A CacheFault →
    Type 0 → (ℕ → ℕ → Type 0) → Type 0 → Type 0
MatchAnswer (Ok value) ok full read = ok
MatchAnswer (Err (ZoneFull wanted widest)) ok full read = full wanted widest
MatchAnswer (Err ReadFault) ok full read = read

-- what is said only of the answer that the zone is full
abbrev pub WhereFull : {A : Type 0} → Result A CacheFault → (ℕ → ℕ → Type 0) → Type 0
WhereFull result P = MatchAnswer result ⊤ P ⊤

-- a block was taken and given back
pub record GivesBack (old new : Heap) (o : Owner) (size : ℕ) (tag : Tag) : Type 0 where
  pub between : Heap
  pub takes : TakesBlock old between o size tag
  pub freed : new ≡ without_block o between

-- no gap holds a block for `size` bytes; its size and the widest gap's are reported
pub record NoRoom (size : ℕ) (z : Heap) (wanted widest' : ℕ) : Type 0 where
  pub wanted_is : wanted ≡ block_size size
  pub widest_is : widest' ≡ widest (gaps z.blocks)
  pub none : All (λ g. total g < block_size size) (gaps z.blocks)

-- an owner has a new block of that tag and size
abbrev pub HasUse : Tag → ℕ → Option Holding → Type 0
HasUse tag size None = ⊥
HasUse tag size (Some h) = (h.tag ≡ tag) × (h.asked ≡ size) × (length h.bytes ≡ size)

abbrev pub HasBlock : Tag → ℕ → Option Block → Type 0
HasBlock tag size None = ⊥
HasBlock tag size (Some b) = HasUse tag size b.holding

-- a live block of so many bytes
abbrev pub IsAsked : ℕ → Option Holding → Type 0
IsAsked size None = ⊥
IsAsked size (Some h) = h.asked ≡ size

abbrev pub HasAsked : ℕ → Option Block → Type 0
HasAsked size None = ⊥
HasAsked size (Some b) = IsAsked size b.holding

-- a fault of the cache as that of any layer, which refuses nothing
abbrev pub from_cache : {R : Type 0} → CacheFault → Fault R
from_cache (ZoneFull wanted widest) = fault.ZoneFull wanted widest
from_cache ReadFault = fault.ReadFault

abbrev pub cache_fault : CacheFault → Fault ⊥
cache_fault = from_cache
