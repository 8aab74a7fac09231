-- When a zone stands in order for all that may be asked of it.
--
-- Where it does, each request for an item of the list finds room behind the live blocks, and none
-- purges: what was read once is not read again.
use Rattle.std.specs.Prelude.{◌≡◌, ℕ, ◌+◌, ◌≤◌, ◌==◌, ◌&&◌, Bool, true, false, if◌then◌else◌, List, [], ◌∷◌, ◌++◌, sum_by, Option, Some, None, is_some, ⊤, ◌⊎◌}
use Rattle.std.specs.List.{list_any}
use Rattle.zone_rules.specs.declared.TheConstants.{MIN_FRAGMENT}
use Rattle.zone_rules.specs.Zones.{Owner, Holding, Block, Heap, IsLive, same_owner, holding_of, is_free, free_block, block_size}

-- what may be asked for: for whom, and how many bytes
pub record Item : Type 0 where
  pub owner : Owner
  pub size : ℕ

-- the list has an item of that owner
abbrev pub has_owner : List Item → Owner → Bool
has_owner items o = list_any (λ i. same_owner o i.owner) items

-- the list has that very item
abbrev pub has_item : List Item → Owner → ℕ → Bool
has_item items o size = list_any (λ i. same_owner o i.owner && (i.size == size)) items

-- no owner stands twice in the list
abbrev pub AreDistinct : List Item → Type 0
AreDistinct [] = ⊤
AreDistinct (i ∷ items) = (has_owner items i.owner ≡ false) × AreDistinct items

-- the blocks of all items of the list
abbrev pub items_size : List Item → ℕ
items_size items = sum_by (λ i. block_size i.size) items

-- a zone of that size has room for all items, and for the most that a block may have too much
pub record AreRoomy (size : ℕ) (items : List Item) : Type 0 where
  pub distinct : AreDistinct items
  pub room : items_size items + MIN_FRAGMENT ≤ size

-- each live block is of the list, with what its owner asks for there
abbrev pub is_listed : List Item → Option Holding → Bool
is_listed items None = true
is_listed items (Some h) = has_item items h.owner h.asked

abbrev pub AllListed : List Item → List Block → Type 0
AllListed items [] = ⊤
AllListed items (b ∷ bs) = (is_listed items b.holding ≡ true) × AllListed items bs

-- each block but the last is live, so that the live ones stand one after the other from the first on
abbrev pub LiveFirst : List Block → Type 0
LiveFirst [] = ⊤
LiveFirst (b ∷ []) = ⊤
LiveFirst (b ∷ c ∷ bs) = (is_free b ≡ false) × LiveFirst (c ∷ bs)

-- an owner has a block
abbrev pub is_live : List Block → Owner → Bool
is_live bs o = is_some (holding_of o bs)

-- each item of the list has its block
abbrev pub AllLive : List Item → List Block → Type 0
AllLive [] bs = ⊤
AllLive (i ∷ items) bs = (is_live bs i.owner ≡ true) × AllLive items bs

-- live blocks of no more than the size for what was asked
abbrev pub IsExact : ℕ → Option Holding → Type 0
IsExact size None = ⊥
IsExact size (Some h) = size ≡ block_size h.asked

abbrev pub AllExact : List Block → Type 0
AllExact [] = ⊤
AllExact (b ∷ bs) = IsExact b.size b.holding × AllExact bs

-- such blocks, and behind them one free block, at the rover
pub record LeavesRest (rover : ℕ) (bs : List Block) : Type 0 where
  pub front : List Block
  pub rest : ℕ
  pub is : bs ≡ front ++ (free_block rover rest ∷ [])
  pub exact : AllExact front

-- a zone in order for a list of items
pub record IsInOrder (items : List Item) (z : Heap) : Type 0 where
  pub roomy : AreRoomy z.size items
  pub listed : AllListed items z.blocks
  pub first : LiveFirst z.blocks
  pub left : AllLive items z.blocks ⊎ LeavesRest z.rover z.blocks

-- what the live items of the list add up to
abbrev pub live_sum : (Item → ℕ) → List Item → List Block → ℕ
live_sum count [] bs = 0
live_sum count (i ∷ items) bs = (if is_live bs i.owner then count i else 0) + live_sum count items bs

-- the size of an item that is a lump: a composite is not read
abbrev pub lump_size : Item → ℕ
lump_size i = if i.owner.kind == 0 then i.size else 0

-- A call keeps a zone in order. It empties no slot, and of a count of bytes that were read, before and
-- after it, no more comes on than the sizes of the lumps that became live.
pub record KeepsOrder (items : List Item) (old new : Heap) (before after : ℕ) : Type 0 where
  pub order : IsInOrder items new
  pub stays : (o : Owner) → IsLive old o → IsLive new o
  pub taken : after + live_sum lump_size items old.blocks ≤ before + live_sum lump_size items new.blocks
