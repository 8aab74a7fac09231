-- What a request asks for, and what came of it.
use Rattle.std.specs.Prelude.{◌≡◌, ℕ, List, length}
use Rattle.zone_heap.specs.Rules.{Block, Heap, RoomAt, after_search, place_after, take_at}
use Rattle.zone_heap.specs.{declared.headers.Used.Used, declared.homes.Homes.Homes}
use Rattle.zone_heap.specs.{Headers.owner_in, Headers.code_tag, Homes.composites_in}
use Rattle.zone_heap.specs.Regions.{blocks_in}

-- the zone of a region and the homes of its slots
abbrev pub heap_at : List ℕ → Homes → ℕ → Heap
heap_at region homes rover = record { size = length region; lumps = homes.lumps; composites = composites_in homes; blocks = blocks_in region; rover = rover; purges = 0 }

-- a block placed in the blocks that a search left
pub record IsPlaced (old : Heap) (wanted : ℕ) (used : Used) (place : ℕ) (new : List Block) (rover : ℕ) : Type 0 where
  pub room : RoomAt place wanted (after_search wanted old)
  pub bytes : List ℕ
  pub len : length bytes ≡ used.asked
  pub blocks : new ≡ take_at place wanted (record { owner = owner_in used.owner; tag = code_tag used.tag; asked = used.asked; bytes = bytes }) (after_search wanted old)
  pub rover_is : rover ≡ place_after place old.size new
