-- A zone as contracts see it: the blocks that tile its region, who owns them, and the rover.
use Rattle.std.specs.Prelude.{◌≡◌, ℕ, ◌+◌, ◌*◌, ◌/◌, ◌%◌, ◌<◌, ◌≤◌, ◌==◌, ◌&&◌, Bool, true, false, not, if◌then◌else◌, List, [], ◌∷◌, length, find, sum_by, Option, Some, None, is_none, IsSome, option_and_then, option_map, ⊤}
use Rattle.zone_rules.specs.declared.Tag.{Tag}
use Rattle.zone_rules.specs.declared.Tag.TheVariants.{Static, Level, Cache}
use Rattle.zone_rules.specs.declared.TheConstants.{HEADER_SIZE, MIN_FRAGMENT, MIN_ZONE_SIZE, MAX_ZONE_SIZE}
use Rattle.word_rules.specs.declared.TheConstants.{WORD_SIZE}

-- who holds a block: the code of the slot's kind, and the slot's number
pub record Owner : Type 0 where
  pub kind : ℕ
  pub number : ℕ

-- a live block's owner, its tag, how many bytes were asked for, and these bytes
pub record Holding : Type 0 where
  pub owner : Owner
  pub tag : Tag
  pub asked : ℕ
  pub bytes : List ℕ

-- a block: where it begins, its size with the header, and what it holds; a free block holds nothing
pub record Block : Type 0 where
  pub place : ℕ
  pub size : ℕ
  pub holding : Option Holding

-- a zone
pub record Heap : Type 0 where
  pub size : ℕ
  pub lumps : ℕ
  pub composites : ℕ
  pub blocks : List Block
  pub rover : ℕ
  pub purges : ℕ

-- whether the tag lets a block be purged
abbrev pub is_purgeable_tag : Tag → Bool
is_purgeable_tag Static = false
is_purgeable_tag Level = false
is_purgeable_tag Cache = true

abbrev pub may_purge : Option Holding → Bool
may_purge None = false
may_purge (Some h) = is_purgeable_tag h.tag

abbrev pub pins : Option Holding → Bool
pins None = false
pins (Some h) = not (is_purgeable_tag h.tag)

abbrev pub is_free : Block → Bool
is_free b = is_none b.holding

abbrev pub is_purgeable : Block → Bool
is_purgeable b = may_purge b.holding

abbrev pub is_pinned : Block → Bool
is_pinned b = pins b.holding

abbrev pub free_block : ℕ → ℕ → Block
free_block place size = record { place = place; size = size; holding = None }

-- the size of a block for n bytes: n rounded up to whole words, and the header
abbrev pub block_size : ℕ → ℕ
block_size n = (n + 3) / WORD_SIZE * WORD_SIZE + HEADER_SIZE

-- the block that an owner holds
abbrev pub same_owner : Owner → Owner → Bool
same_owner a b = (a.kind == b.kind) && (a.number == b.number)

abbrev pub holds_for : Owner → Option Holding → Bool
holds_for o None = false
holds_for o (Some h) = same_owner h.owner o

abbrev pub is_held_by : Owner → Block → Bool
is_held_by o b = holds_for o b.holding

abbrev pub owned_block : Owner → List Block → Option Block
owned_block o bs = find (is_held_by o) bs

abbrev pub holding_of : Owner → List Block → Option Holding
holding_of o bs = option_and_then (λ b. b.holding) (owned_block o bs)

abbrev pub IsLive : Heap → Owner → Type 0
IsLive z o = IsSome (holding_of o z.blocks)

-- each block begins where the one before it ends, the first at `from` and the last ends at `to`
abbrev pub Tiles : ℕ → ℕ → List Block → Type 0
Tiles from to [] = from ≡ to
Tiles from to (b ∷ bs) = (b.place ≡ from) × (HEADER_SIZE ≤ b.size) × Tiles (from + b.size) to bs

-- no two free blocks are neighbours
abbrev pub starts_free : List Block → Bool
starts_free [] = false
starts_free (b ∷ bs) = is_free b

abbrev pub Apart : List Block → Type 0
Apart [] = ⊤
Apart (b ∷ bs) = ((is_free b && starts_free bs) ≡ false) × Apart bs

-- no block of the list is held by the owner
abbrev pub Lacks : Owner → List Block → Type 0
Lacks o [] = ⊤
Lacks o (b ∷ bs) = (is_held_by o b ≡ false) × Lacks o bs

-- no two blocks have one owner
abbrev pub OwnsOnce : Option Holding → List Block → Type 0
OwnsOnce None bs = ⊤
OwnsOnce (Some h) bs = Lacks h.owner bs

abbrev pub Unique : List Block → Type 0
Unique [] = ⊤
Unique (b ∷ bs) = OwnsOnce b.holding bs × Unique bs

-- how many slots there are of a kind
abbrev pub slot_count : Heap → ℕ → ℕ
slot_count z kind = if kind == 0 then z.lumps else (if kind == 1 then z.composites else 0)

-- a live block has the size of what was asked for, and at most 64 bytes more, and its slot is one of the zone's
abbrev pub FitsHolding : ℕ → ℕ → ℕ → Option Holding → Type 0
FitsHolding lumps composites size None = ⊤
FitsHolding lumps composites size (Some h) = (block_size h.asked ≤ size) × (size ≤ block_size h.asked + MIN_FRAGMENT) × (length h.bytes ≡ h.asked) × ((h.owner.kind ≡ 0) → h.owner.number < lumps) × ((h.owner.kind ≡ 1) → h.owner.number < composites) × (h.owner.kind ≤ 1)

abbrev pub AllFit : ℕ → ℕ → List Block → Type 0
AllFit lumps composites [] = ⊤
AllFit lumps composites (b ∷ bs) = FitsHolding lumps composites b.size b.holding × AllFit lumps composites bs

-- the place of a block
abbrev pub has_place : ℕ → List Block → Bool
has_place p [] = false
has_place p (b ∷ bs) = if b.place == p then true else has_place p bs

pub record IsSound (z : Heap) : Type 0 where
  pub tiles : Tiles 0 z.size z.blocks
  pub apart : Apart z.blocks
  pub unique : Unique z.blocks
  pub fits : AllFit z.lumps z.composites z.blocks
  pub rover : has_place z.rover z.blocks ≡ true

-- what a caller counts
abbrev pub used_size : List Block → ℕ
used_size bs = sum_by (λ b. if is_pinned b then b.size else 0) bs

abbrev pub purgeable_size : List Block → ℕ
purgeable_size bs = sum_by (λ b. if is_purgeable b then b.size else 0) bs

abbrev pub free_size : List Block → ℕ
free_size bs = sum_by (λ b. if is_free b then b.size else 0) bs

-- the sizes that a zone may have
abbrev pub IsZoneSize : ℕ → Type 0
IsZoneSize n = (MIN_ZONE_SIZE ≤ n) × (n ≤ MAX_ZONE_SIZE) × (n % WORD_SIZE ≡ 0)

-- a zone of one free block
abbrev pub fresh_heap : ℕ → ℕ → ℕ → Heap
fresh_heap size lumps composites = record { size = size; lumps = lumps; composites = composites; blocks = free_block 0 size ∷ []; rover = 0; purges = 0 }

abbrev pub owner_at : ℕ → ℕ → Owner
owner_at kind number = record { kind = kind; number = number }

-- the bytes of an owner's block
abbrev pub bytes_of : Owner → List Block → Option (List ℕ)
bytes_of o bs = option_map (λ h. h.bytes) (holding_of o bs)
