-- The header of a block, and the block that its bytes are.
use Rattle.std.specs.Prelude.{ℕ, ◌+◌, ◌-◌, ◌*◌, ◌/◌, ◌%◌, ◌==◌, ◌&&◌, ◌||◌, Bool, not, if◌then◌else◌, List, ◌++◌, length, take, drop, Option, Some, None}
use Rattle.byteorder.specs.Endian.{little_bytes}
use Rattle.zone_heap.specs.{declared.headers.Header.Header, declared.headers.Used.Used}
pub use Rattle.zone_heap.specs.declared.headers.TheConstants.{FREE_OWNER, KIND_UNIT, STATIC_CODE, LEVEL_CODE, CACHE_CODE, ASKED_AT, OWNER_AT, TAG_AT, NEXT_AT, PREVIOUS_AT}
use Rattle.zone_heap.specs.Rules.{Block, Cache, HEADER_SIZE, Holding, Level, Owner, Static, Tag, WORD_SIZE, word_at}

-- some bytes with another word at a place
unfoldable pub with_word : List ℕ → ℕ → ℕ → List ℕ
with_word xs at x = take at xs ++ (little_bytes WORD_SIZE x ++ drop WORD_SIZE (drop at xs))

-- the first words of a block's bytes
abbrev pub header_in : List ℕ → Header
header_in c = record { size = word_at c 0; asked = word_at c ASKED_AT; owner = word_at c OWNER_AT; tag = word_at c TAG_AT }

-- the bytes of a block of another use
abbrev pub with_use : List ℕ → ℕ → ℕ → ℕ → ℕ → List ℕ
with_use xs at asked owner tag = with_word (with_word (with_word xs (at + ASKED_AT) asked) (at + OWNER_AT) owner) (at + TAG_AT) tag

-- the tag of a code, and the code of a tag
abbrev pub code_tag : ℕ → Tag
code_tag n = if n == STATIC_CODE then Static else (if n == LEVEL_CODE then Level else Cache)

abbrev pub tag_code : Tag → ℕ
tag_code Static = STATIC_CODE
tag_code Level = LEVEL_CODE
tag_code Cache = CACHE_CODE

-- the owner of an owner word, and the word of an owner
abbrev pub owner_in : ℕ → Owner
owner_in n = record { kind = n / KIND_UNIT; number = n % KIND_UNIT }

abbrev pub owner_word : ℕ → ℕ → ℕ
owner_word kind number = kind * KIND_UNIT + number

-- what a header says of its block
abbrev pub is_free_header : Header → Bool
is_free_header h = h.owner == FREE_OWNER

abbrev pub keeps_tag : ℕ → Bool
keeps_tag n = (n == STATIC_CODE) || (n == LEVEL_CODE)

abbrev pub is_pinned_header : Header → Bool
is_pinned_header h = not (h.owner == FREE_OWNER) && keeps_tag h.tag

abbrev pub is_purgeable_header : Header → Bool
is_purgeable_header h = not (h.owner == FREE_OWNER) && not (keeps_tag h.tag)

-- what the bytes of a block say that it holds
abbrev pub live_in : List ℕ → Holding
live_in c = record { owner = owner_in (word_at c OWNER_AT); tag = code_tag (word_at c TAG_AT); asked = word_at c ASKED_AT; bytes = take (word_at c ASKED_AT) (drop HEADER_SIZE c) }

abbrev pub holding_in : List ℕ → Option Holding
holding_in c = if word_at c OWNER_AT == FREE_OWNER then None else Some (live_in c)

-- the block at a place whose bytes these are
abbrev pub block_in : ℕ → List ℕ → Block
block_in place c = record { place = place; size = length c; holding = holding_in c }

-- the bytes of a free block, and those of one that is cut into two
abbrev pub freed : List ℕ → List ℕ
freed c = with_use c 0 0 FREE_OWNER 0

abbrev pub first_part : List ℕ → ℕ → List ℕ
first_part c wanted = with_word (take wanted c) 0 wanted

abbrev pub second_part : List ℕ → ℕ → List ℕ
second_part c wanted = freed (with_word (drop wanted c) 0 (length c - wanted))

-- what a block holds once it is given to a slot
abbrev pub used_holding : Used → List ℕ → Holding
used_holding u bytes = record { owner = owner_in u.owner; tag = code_tag u.tag; asked = u.asked; bytes = take u.asked bytes }
