use Rattle.zone_rules.proofs.Common.{arith, rules, ◌≡◌, ◌+◌, ◌*◌, ◌/◌, ◌<◌, ◌≤◌, ◌++◌, ◌∙◌, ap, ap₂, sym, subst, length, take, drop, ℕ, length-take, length-drop}
use Rattle.zone_heap.specs.Rules.{Heap, Holding, Lacks, RoomAt, Tiles, cut_block, free_block, place_after, take_at, HEADER_SIZE, WORD_SIZE}
use Rattle.zone_rules.proofs.SoundLemmas.{room_end, searched_lacks, searched_tiles}
use Rattle.zone_rules.proofs.TakeLemmas.{take_at_is}
use Rattle.zone_heap.specs.Headers.{owner_in, used_holding}
use Rattle.zone_heap.specs.Regions.{blocks_in, ring_place}
use Rattle.zone_heap.specs.{Homes.IsSlot, Homes.AreExact, Homes.AreHome, Asks.heap_at}
use Rattle.zone_heap.proofs.HomeLemmas.{slot_small, slot_kept, taken_exact}
use Rattle.zone_heap.proofs.request.serve.Goals.{In-Ok}
use Rattle.zone_heap.proofs.request.serve.Goals as goal

abbrev z : (c : In-Ok) → Heap
z c = heap_at c.args.region.now c.args.homes.now c.args.rover

room_is : (c : In-Ok) → RoomAt c.in-Ok.place c.args.request.wanted (blocks_in c.search-room.new.region)
room_is c = let room_told = c.search-room.ensures.room in let room_at = rw c.in-Ok.is at room_told in room_at

tiles_is : (c : In-Ok) → Tiles 0 (length c.args.region.now) (blocks_in c.search-room.new.region)
tiles_is c = subst (Tiles 0 (length c.args.region.now)) (sym c.search-room.ensures.blocks) (searched_tiles c.args.request.wanted (z c) c.requires.sound)

ends : (c : In-Ok) → c.in-Ok.place + c.args.request.wanted ≤ length c.args.region.now
ends c = room_end c.in-Ok.place c.args.request.wanted (length c.args.region.now) (blocks_in c.search-room.new.region) (room_is c) (tiles_is c)

asked_fits : (n : ℕ) → n + HEADER_SIZE ≤ (n + 3) / WORD_SIZE * WORD_SIZE + HEADER_SIZE
asked_fits n = omega arith

pub overflow_cast-request : goal.overflow_cast-request
overflow_cast-request c = let room_ends = ends (goal.at.overflow_cast-request c).In-Ok in let region_small = c.requires.small in
    let wanted_small : c.args.request.wanted < 4294967296 = omega arith in search rules

pub overflow_cast-place : goal.overflow_cast-place
overflow_cast-place c = let room_ends = ends (goal.at.overflow_cast-place c).In-Ok in let region_small = c.requires.small in
    let place_small : c.in-Ok.place < 4294967296 = omega arith in search rules

abbrev new_holding : (c : In-Ok) → Holding
new_holding c = used_holding c.args.request.used (drop (c.in-Ok.place + HEADER_SIZE) c.search-room.new.region)

lacks_is : (c : In-Ok) → Lacks (owner_in c.args.request.used.owner) (blocks_in c.search-room.new.region)
lacks_is c = subst (Lacks (owner_in c.args.request.used.owner)) (sym c.search-room.ensures.blocks) (searched_lacks c.args.request.wanted (z c) (owner_in c.args.request.used.owner) c.requires.empty)

shape : (c : In-Ok) (r : RoomAt c.in-Ok.place c.args.request.wanted (blocks_in c.search-room.new.region)) → take_at c.in-Ok.place c.args.request.wanted (new_holding c) (blocks_in c.search-room.new.region) ≡ r.front ++ (cut_block c.args.request.wanted (new_holding c) (free_block c.in-Ok.place r.size) ++ r.rest)
shape c r = ap (take_at c.in-Ok.place c.args.request.wanted (new_holding c)) r.is ∙ take_at_is c.in-Ok.place r.size c.args.request.wanted (new_holding c) 0 (length c.args.region.now) r.front r.rest (subst (Tiles 0 (length c.args.region.now)) r.is (tiles_is c))

slot_is : (c : In-Ok) → IsSlot c.search-room.new.homes (owner_in c.args.request.used.owner)
slot_is c = slot_kept c.search-room.new.homes c.args.homes.now (let slots_alike = c.search-room.ensures.slots in (sym slots_alike.0, sym slots_alike.1)) (owner_in c.args.request.used.owner) c.requires.slot

pub set-requires : goal.set-requires
set-requires c = slot_small c.search-room.new.homes c.search-room.ensures.home.few (owner_in c.args.request.used.owner) (slot_is (goal.at.set-requires c).In-Ok)

pub search-room-requires : goal.search-room-requires
search-room-requires c = record {
  laid = c.requires.laid;
  some = c.requires.some;
  small = c.requires.small;
  home = search rules;
  apart = search rules;
  rover_is = search rules;
  positive = search rules;
}

pub returns-in-Ok-clause-exact : goal.returns-in-Ok-clause-exact
returns-in-Ok-clause-exact c =
    let context = (goal.at.returns-in-Ok-clause-exact c).In-Ok in let room = room_is context in let homes = c.search-room.new.homes in
    let home = subst (AreHome homes) room.is c.search-room.ensures.home in
    let lacks = subst (Lacks (owner_in c.args.request.used.owner)) room.is (lacks_is context) in
    subst (AreExact c.set.new.self) (sym (c.link-in-Ok.ensures.blocks ∙ c.take-next.ensures.blocks ∙ shape context room))
    (taken_exact homes _ room.front room.rest c.in-Ok.place room.size c.args.request.wanted (new_holding context) home (slot_is context) lacks c.set.ensures)

pub returns-in-Ok-clause-some : goal.returns-in-Ok-clause-some
returns-in-Ok-clause-some c =
    let context = (goal.at.returns-in-Ok-clause-some c).In-Ok in let room_ends = ends context in
    let length_kept = c.search-room.ensures.len in let fit = asked_fits c.args.request.used.asked in
    let wanted_is = c.requires.wanted in
    let taken_length = length-take c.args.request.used.asked (drop (c.in-Ok.place + HEADER_SIZE) c.search-room.new.region) in
    let dropped_length = length-drop (c.in-Ok.place + HEADER_SIZE) c.search-room.new.region in
    record {
      room = subst (RoomAt c.in-Ok.place c.args.request.wanted) c.search-room.ensures.blocks (room_is context);
      bytes = take c.args.request.used.asked (drop (c.in-Ok.place + HEADER_SIZE) c.search-room.new.region);
      len = omega arith;
      blocks = c.link-in-Ok.ensures.blocks ∙ c.take-next.ensures.blocks
          ∙ ap (take_at c.in-Ok.place c.args.request.wanted (new_holding context)) c.search-room.ensures.blocks;
      rover_is = c.ring_place.ensures.value ∙ ap (ring_place c.take-next.result) (c.link-in-Ok.ensures.len ∙ c.take-next.ensures.len)
          ∙ c.take-next.ensures.rover ∙ ap₂ (place_after c.in-Ok.place) length_kept (sym c.link-in-Ok.ensures.blocks);
    }
