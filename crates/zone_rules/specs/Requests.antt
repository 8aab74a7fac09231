-- What a request for a block does to a zone, told by gaps and stretches.
use Rattle.std.specs.Prelude.{◌≡◌, ℕ, ◌+◌, ◌-◌, ◌^◌, ◌==◌, ◌&&◌, Bool, true, false, nat_lt, nat_le, ◌≤◌, not, max, if◌then◌else◌, List, [], ◌∷◌, ◌++◌, length, filter, map, find, sum_by, count_by, Option, Some, None, min, option_map}
use Rattle.std.specs.List.{list_any}
use Rattle.zone_rules.specs.{declared.Tag.Tag, declared.TheConstants.MIN_FRAGMENT}
use Rattle.zone_rules.specs.Zones.{Owner, Holding, Block, Heap, is_free, is_purgeable, is_pinned, free_block, block_size, owned_block}

abbrev pub total : List Block → ℕ
total bs = sum_by (λ b. b.size) bs

-- the gaps of a list: its maximal stretches without a pinned block
abbrev pub opens : List Block → Bool
opens [] = false
opens (b ∷ bs) = not (is_pinned b)

-- b in front of the gaps of what follows it: it begins the first of them, or stands alone
abbrev pub in_front : Block → Bool → List (List Block) → List (List Block)
in_front b false gs = (b ∷ []) ∷ gs
in_front b true [] = (b ∷ []) ∷ []
in_front b true (g ∷ gs) = (b ∷ g) ∷ gs

abbrev pub gaps : List Block → List (List Block)
gaps [] = []
gaps (b ∷ bs) = if is_pinned b then gaps bs else in_front b (opens bs) (gaps bs)

-- the start of a search: the free block before the rover, if there is one, else the block at the rover
abbrev pub ends_free_at : ℕ → Block → Bool
ends_free_at p b = is_free b && (b.place + b.size == p)

abbrev pub place_or : ℕ → Option Block → ℕ
place_or p None = p
place_or p (Some b) = b.place

abbrev pub start_in : ℕ → List Block → ℕ
start_in rover bs = place_or rover (find (ends_free_at rover) bs)

-- the blocks from a place on
abbrev pub blocks_from : ℕ → List Block → List Block
blocks_from p bs = filter (λ b. nat_le p b.place) bs

-- the stretches that a request searches, in order: from the start on, and then all gaps
abbrev pub stretches : ℕ → List Block → List (List Block)
stretches rover bs = gaps (blocks_from (start_in rover bs) bs) ++ gaps bs

abbrev pub holds : ℕ → List Block → Bool
holds wanted g = nat_le wanted (total g)

-- the least number of first blocks that together hold what is wanted
abbrev pub least_front : ℕ → List Block → List Block
least_front wanted [] = []
least_front wanted (b ∷ g) = b ∷ (if nat_le wanted b.size then [] else least_front (wanted - b.size) g)

-- what a search goes over: the stretches before the first that holds, and of that one the least front
abbrev pub passed_blocks : ℕ → List (List Block) → List Block
passed_blocks wanted [] = []
passed_blocks wanted (g ∷ gs) = if holds wanted g then least_front wanted g else g ++ passed_blocks wanted gs

-- a block as it is when those of the list were purged
abbrev pub is_among : List Block → Block → Bool
is_among chosen b = list_any (λ c. c.place == b.place) chosen

abbrev pub purge_block : Block → Block
purge_block b = if is_purgeable b then free_block b.place b.size else b

abbrev pub purge_among : List Block → List Block → List Block
purge_among chosen bs = map (λ b. if is_among chosen b then purge_block b else b) bs

-- what a search leaves of a live block: nothing where it passes the block and may purge it
abbrev pub block_left : List Block → Option Block → Option Block
block_left chosen None = None
block_left chosen (Some b) = if is_among chosen b && is_purgeable b then None else Some b

-- free neighbours joined
abbrev pub join_pair : Block → Block → List Block → List Block
join_pair b c bs = if is_free b && is_free c then free_block b.place (b.size + c.size) ∷ bs else b ∷ c ∷ bs

abbrev pub join_on : Block → List Block → List Block
join_on b [] = b ∷ []
join_on b (c ∷ bs) = join_pair b c bs

abbrev pub join_free : List Block → List Block
join_free [] = []
join_free (b ∷ bs) = join_on b (join_free bs)

-- the blocks after a search, and how many it purged
abbrev pub after_search : ℕ → Heap → List Block
after_search wanted z = join_free (purge_among (passed_blocks wanted (stretches z.rover z.blocks)) z.blocks)

-- how many of the blocks are purged
abbrev pub count_among : List Block → List Block → ℕ
count_among chosen bs = count_by (λ b. is_among chosen b && is_purgeable b) bs

abbrev pub purge_count : ℕ → Heap → ℕ
purge_count wanted z = count_among (passed_blocks wanted (stretches z.rover z.blocks)) z.blocks

-- a count that stops at its last value
abbrev pub cap_count : ℕ → ℕ
cap_count n = min n (2 ^ 64 - 1)

-- the place of the block that a place lies in
abbrev pub place_around : ℕ → ℕ → List Block → ℕ
place_around p q [] = q
place_around p q (b ∷ bs) = if nat_le b.place p then place_around p b.place bs else q

-- the zone after a search that found nothing: purged all through, with its pinned blocks as they were
abbrev pub without_room : ℕ → Heap → Heap
without_room wanted z = record z { blocks = after_search wanted z; rover = place_around z.rover 0 (after_search wanted z); purges = cap_count (z.purges + purge_count wanted z) }

-- a free block cut: the new block with what it holds, and a free rest of more than 64 bytes
abbrev pub cut_block : ℕ → Holding → Block → List Block
cut_block wanted h b = if nat_lt MIN_FRAGMENT (b.size - wanted) then record { place = b.place; size = wanted; holding = Some h } ∷ free_block (b.place + wanted) (b.size - wanted) ∷ [] else record b { holding = Some h } ∷ []

abbrev pub take_at : ℕ → ℕ → Holding → List Block → List Block
take_at p wanted h [] = []
take_at p wanted h (b ∷ bs) = if b.place == p then cut_block wanted h b ++ bs else b ∷ take_at p wanted h bs

-- the place after the block at p, or 0 at the region's end
abbrev pub place_after : ℕ → ℕ → List Block → ℕ
place_after p end [] = 0
place_after p end (b ∷ bs) = if b.place == p then (if b.place + b.size == end then 0 else b.place + b.size) else place_after p end bs

abbrev pub first_place : List Block → ℕ
first_place [] = 0
first_place (b ∷ bs) = b.place

-- the first place of the first stretch that holds what is wanted, if there is one
abbrev pub first_room : ℕ → List (List Block) → Option ℕ
first_room wanted gs = option_map first_place (find (holds wanted) gs)

-- the zone with a block taken at the first place of a stretch
abbrev pub with_block : ℕ → Holding → ℕ → Heap → Heap
with_block wanted h p z = let bs = take_at p wanted h (after_search wanted z) in record z { blocks = bs; rover = place_after p z.size bs; purges = cap_count (z.purges + purge_count wanted z) }

-- a request for so many bytes found room, and made a block of the owner
pub record TakesBlock (old new : Heap) (owner : Owner) (asked : ℕ) (tag : Tag) : Type 0 where
  pub place : ℕ
  pub place_is : first_room (block_size asked) (stretches old.rover old.blocks) ≡ Some place
  pub bytes : List ℕ
  pub len : length bytes ≡ asked
  pub size : ℕ
  pub least : block_size asked ≤ size
  pub most : size ≤ block_size asked + MIN_FRAGMENT
  pub block : owned_block owner new.blocks ≡ Some (record { place = place; size = size; holding = Some (record { owner = owner; tag = tag; asked = asked; bytes = bytes }) })
  pub zone : new ≡ with_block (block_size asked) (record { owner = owner; tag = tag; asked = asked; bytes = bytes }) place old

-- the size of the widest gap
abbrev pub widest : List (List Block) → ℕ
widest [] = 0
widest (g ∷ gs) = max (total g) (widest gs)
