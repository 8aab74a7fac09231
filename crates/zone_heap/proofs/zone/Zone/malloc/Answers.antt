use Rattle.zone_rules.proofs.Common.{arith, ◌≡◌, ◌<◌, ◌≤◌, ◌+◌, ◌∙◌, ap, ap₂, sym, true, false, subst, List, ℕ, length, refl, Ok, Err, with_items, false≢true, with_items_is, IsNone, IsErr, All, result_ok}
use Rattle.zone_heap.specs.{View.heap_of, View.IsZone, declared.zone.ZoneFull.ZoneFull}
use Rattle.zone_heap.specs.Rules.{Block, Heap, Holding, IsSound, Lacks, Owner, RoomAt, TakesBlock, after_search, block_left, block_size, cap_count, count_among, first_room, gaps, holding_of, is_purgeable, owned_block, owner_at, passed_blocks, place_after, place_around, purge_count, slot_count, stretches, take_at, total, widest, with_block, without_room, MIN_FRAGMENT}
use Rattle.zone_heap.specs.{Walks.widest_from, Headers.owner_in, Headers.code_tag}
use Rattle.zone_rules.proofs.TakeLemmas.{InRange}
use Rattle.zone_rules.proofs.SoundLemmas.{lacked, without_room_sound, with_block_sound, in_range_of, full_none, full_some}
use Rattle.zone_heap.proofs.{WalkLemmas.widest_is, FullLemmas.full_all, ChangeLemmas.code_back}
use Rattle.zone_rules.proofs.OwnerLemmas.{none_owned, owned_searched, owned_others, owned_new, cut_size, cut_least, cut_most}
use Rattle.zone_heap.specs.{Regions.blocks_in, Regions.IsRing, Homes.AreExact, Asks.heap_at}
use Rattle.zone_heap.proofs.ZoneLemmas.{owner_back, number_small, region_len, zone_with}
use Rattle.zone_heap.proofs.zone.Zone.malloc.Given.{Over}
use Rattle.zone_heap.proofs.zone.Zone.malloc.Goals.{After-deref_mut, After-saturating_add-self-inside}
use Rattle.zone_heap.proofs.zone.Zone.malloc.Goals as goal

abbrev o : (g : Over) (c : After-deref_mut g) → Owner
o g c = owner_at g.K.SlotKind.CODE c.args.slot.number

in_range : (g : Over) (c : After-deref_mut g) → c.args.slot.number < slot_count (heap_of c.self.inside) g.K.SlotKind.CODE
in_range g c = subst (λ (z : Heap). c.args.slot.number < slot_count z g.K.SlotKind.CODE) (sym c.self.view_is) c.requires.in_range

owner_is : (g : Over) (c : After-deref_mut g) → owner_in c.owner_word.result ≡ owner_at g.K.SlotKind.CODE c.args.slot.number
owner_is g c =
    let number_fits = number_small c.self.inside c.self.invariant g.K.SlotKind.CODE c.args.slot.number g.K.SlotKind.is_known (in_range g c) in
    ap owner_in (c.owner_word.ensures ∙ ap₂ Rattle.zone_heap.specs.Headers.owner_word c.CODE.ensures c.number.ensures)
    ∙ owner_back g.K.SlotKind.CODE c.args.slot.number number_fits

lacks_it : (g : Over) (c : After-deref_mut g) → Lacks (owner_at g.K.SlotKind.CODE c.args.slot.number) (blocks_in c.self.inside.region.items)
lacks_it g c = lacked _ _ (subst (λ (z : Heap). IsNone (holding_of (owner_at g.K.SlotKind.CODE c.args.slot.number) z.blocks)) (sym c.self.view_is) c.requires.empty)

pub serve-outcome-requires-clause-empty : goal.serve-outcome-requires-clause-empty
serve-outcome-requires-clause-empty g c =
    let context = (goal.at.serve-outcome-requires-clause-empty g c).After-deref_mut in
    subst (λ (p : Owner). Lacks p (blocks_in c.deref_mut.result.now)) (sym (owner_is g context))
    (subst (λ xs. Lacks (owner_at g.K.SlotKind.CODE c.args.slot.number) (blocks_in xs)) (sym c.deref_mut.ensures.value) (lacks_it g context))

abbrev earlier : (g : Over) (c : After-saturating_add-self-inside g) → After-deref_mut g
earlier g c = c.before.before.before.before

items_are : (g : Over) (c : After-saturating_add-self-inside g) → (with_items c.self.inside.region c.serve-outcome.new.region).items ≡ c.serve-outcome.new.region
items_are g c = let length_kept = c.serve-outcome.ensures.len in let length_before = ap (λ (xs : List ℕ). length xs) c.deref_mut.ensures.value in
    let vec_length = c.self.inside.region.ok.0 in with_items_is c.self.inside.region c.serve-outcome.new.region (omega arith)

place_is : (g : Over) (c : After-saturating_add-self-inside g)
    → first_room c.block_size-wanted.result (stretches c.self.inside.rover (blocks_in c.self.inside.region.items)) ≡ result_ok c.serve-outcome.result.place
place_is g c = ap (λ xs. first_room c.block_size-wanted.result (stretches c.self.inside.rover (blocks_in xs))) (sym c.deref_mut.ensures.value)
    ∙ c.serve-outcome.ensures.place

purges_are : (g : Over) (c : After-saturating_add-self-inside g)
    → c.saturating_add-self-inside.result ≡ cap_count (c.self.inside.purges + purge_count c.block_size-wanted.result (heap_of c.self.inside))
purges_are g c =
    c.saturating_add-self-inside.ensures ∙ ap (λ n. cap_count (c.self.inside.purges + n)) (c.serve-outcome.ensures.purges ∙ ap (λ xs. count_among (passed_blocks c.block_size-wanted.result (stretches c.self.inside.rover (blocks_in xs))) (blocks_in xs)) c.deref_mut.ensures.value)

abbrev new_heap : (g : Over) (c : After-saturating_add-self-inside g) → Heap
new_heap g c = record { size = c.self.inside.size; lumps = c.serve-outcome.new.homes.lumps; composites = c.self.inside.composites; blocks = blocks_in (with_items c.self.inside.region c.serve-outcome.new.region).items; rover = c.serve-outcome.result.rover; purges = c.saturating_add-self-inside.result }

-- the zone after a search that found nothing
none_heap : (g : Over) (c : After-saturating_add-self-inside g) (full : ZoneFull) → c.serve-outcome.result.place ≡ Err full
    → new_heap g c ≡ without_room c.block_size-wanted.result (heap_of c.self.inside)
none_heap g c full e =
    let inside = c.self.inside in let outcome = c.serve-outcome.ensures.none (subst IsErr (sym e) refl) in
    let blocks_are = ap blocks_in (items_are g c) ∙ outcome.0
    ∙ ap (λ xs. after_search c.block_size-wanted.result (heap_at xs inside.homes inside.rover)) c.deref_mut.ensures.value in
    let rover_is = outcome.1 ∙ ap (λ xs. place_around inside.rover 0 (blocks_in xs)) (sym (items_are g c)) in
    let purges_counted = purges_are g c in
    rw (c.serve-outcome.ensures.slots.0, rover_is, purges_counted, blocks_are) refl

-- the zone after a search that found room
record IsMade (g : Over) (c : After-saturating_add-self-inside g) : Type 0 where
  place : ℕ
  is : c.serve-outcome.result.place ≡ Ok place
  bytes : List ℕ
  len : length bytes ≡ c.args.size
  room : RoomAt place c.block_size-wanted.result (after_search c.block_size-wanted.result (heap_of c.self.inside))
  heap : new_heap g c ≡ with_block c.block_size-wanted.result (record { owner = owner_at g.K.SlotKind.CODE c.args.slot.number; tag = c.args.tag; asked = c.args.size; bytes = bytes }) place (heap_of c.self.inside)

made : (g : Over) (c : After-saturating_add-self-inside g) (place : ℕ) → c.serve-outcome.result.place ≡ Ok place → IsMade g c
made g c place e =
    let inside = c.self.inside in let wanted = c.block_size-wanted.result in let some_told = c.serve-outcome.ensures.some in
    let placed = rw e at some_told in
    let searched_same = ap (λ xs. after_search wanted (heap_at xs inside.homes inside.rover)) c.deref_mut.ensures.value in
    let owner_same = owner_is g (earlier g c) in
    let tag : code_tag c.tag_code.result ≡ c.args.tag = ap code_tag c.tag_code.ensures ∙ code_back c.args.tag in
    let holding_is : ◌≡◌ {A = Holding} (record { owner = owner_in c.owner_word.result; tag = code_tag c.tag_code.result; asked = c.args.size; bytes = placed.bytes }) (record { owner = owner_at g.K.SlotKind.CODE c.args.slot.number; tag = c.args.tag; asked = c.args.size; bytes = placed.bytes }) = λ j. record { owner = owner_same j; tag = tag j; asked = c.args.size; bytes = placed.bytes } in
    let blocks_are = ap blocks_in (items_are g c) ∙ placed.blocks ∙ ap₂ (λ (x : Holding) (ys : List Block). take_at place wanted x ys) holding_is searched_same in
    let size : length c.deref_mut.result.now ≡ inside.size = ap (λ (xs : List ℕ). length xs) c.deref_mut.ensures.value ∙ region_len inside c.self.invariant in
    let rover_is : c.serve-outcome.result.rover ≡ place_after place inside.size (blocks_in (with_items inside.region c.serve-outcome.new.region).items) =
    placed.rover_is ∙ ap₂ (λ n xs. place_after place n (blocks_in xs)) size (sym (items_are g c)) in
    let purges_counted = purges_are g c in
    record {
      place = place;
      is = e;
      bytes = placed.bytes;
      len = placed.len;
      room = subst (RoomAt place wanted) searched_same placed.room;
      heap = λ j. record { size = inside.size; lumps = c.serve-outcome.ensures.slots.0 j; composites = inside.composites; blocks = blocks_are j; rover = (rover_is ∙ ap (place_after place inside.size) blocks_are) j; purges = purges_counted j };
    }

slot_is : (g : Over) (c : After-deref_mut g) → InRange c.self.inside.homes.lumps c.self.inside.composites (owner_at g.K.SlotKind.CODE c.args.slot.number)
slot_is g c = in_range_of (heap_of c.self.inside) g.K.SlotKind.CODE c.args.slot.number g.K.SlotKind.is_known (in_range g c)

abbrev held : (g : Over) (c : After-saturating_add-self-inside g) (m : IsMade g c) → Holding
held g c m = record { owner = owner_at g.K.SlotKind.CODE c.args.slot.number; tag = c.args.tag; asked = c.args.size; bytes = m.bytes }

made_sound : (g : Over) (c : After-saturating_add-self-inside g) (m : IsMade g c)
    → IsSound (with_block c.block_size-wanted.result (held g c m) m.place (heap_of c.self.inside))
made_sound g c m =
    with_block_sound c.block_size-wanted.result m.place (heap_of c.self.inside) (held g c m) c.self.invariant.sound c.self.invariant.least
    (sym c.block_size-wanted.ensures.value) m.len c.block_size-wanted.ensures.least (lacks_it g (earlier g c)) (slot_is g (earlier g c)) m.room

-- whatever came of the search, the fields are a zone where the blocks are sound
kept : (g : Over) (c : After-saturating_add-self-inside g) → IsSound (new_heap g c)
    → IsZone (record c.self.inside { region = with_items c.self.inside.region c.serve-outcome.new.region; homes = c.serve-outcome.new.homes; rover = c.serve-outcome.result.rover; purges = c.saturating_add-self-inside.result })
kept g c sound =
    let inside = c.self.inside in
    zone_with _ c.self.invariant _ _ _ _ refl c.serve-outcome.ensures.slots sound (subst IsRing (sym (items_are g c)) c.serve-outcome.ensures.ring)
    (subst (λ xs. AreExact c.serve-outcome.new.homes (blocks_in xs)) (sym (items_are g c)) c.serve-outcome.ensures.exact)

pub invariant_of-self : goal.invariant_of-self
invariant_of-self g c =
    let context = (goal.at.invariant_of-self g c).After-saturating_add-self-inside in
    kept g context (subst IsSound (sym (none_heap g context _ c.in-Err.is)) (without_room_sound _ _ c.self.invariant.sound c.self.invariant.least))

pub invariant_of-self-2 : goal.invariant_of-self-2
invariant_of-self-2 g c =
    let context = (goal.at.invariant_of-self-2 g c).After-saturating_add-self-inside in
    let new_block = made g context _ c.in_default.is in
    kept g context (subst IsSound (sym new_block.heap) (made_sound g context new_block))

pub returns-clause-sound : goal.returns-clause-sound
returns-clause-sound g c =
    let context = (goal.at.returns-clause-sound g c).After-saturating_add-self-inside in let new_block = made g context _ c.in_default.is in
    subst IsSound (sym new_block.heap) (made_sound g context new_block)

pub returns-clause-ok : goal.returns-clause-ok
returns-clause-ok g c =
    let context = (goal.at.returns-clause-ok g c).After-saturating_add-self-inside in
    let new_block = made g context _ c.in_default.is in let wanted = c.block_size-wanted.result in let wanted_is = c.block_size-wanted.ensures.value in
    subst (λ (y : Heap). TakesBlock y (new_heap g context) (owner_at g.K.SlotKind.CODE c.args.slot.number) c.args.size c.args.tag) c.self.view_is (record {
      place = new_block.place;
      place_is = ap (λ n. first_room n (stretches c.self.inside.rover (blocks_in c.self.inside.region.items))) (sym wanted_is) ∙ place_is g context
          ∙ ap result_ok new_block.is;
      bytes = new_block.bytes;
      len = new_block.len;
      size = cut_size new_block.place new_block.room.size wanted (held g context new_block);
      least = subst (λ n. n ≤ cut_size new_block.place new_block.room.size wanted (held g context new_block)) wanted_is (cut_least new_block.place new_block.room.size wanted (held g context new_block) new_block.room.large);
      most = subst (λ n. cut_size new_block.place new_block.room.size wanted (held g context new_block) ≤ n + MIN_FRAGMENT) wanted_is (cut_most new_block.place new_block.room.size wanted (held g context new_block));
      block = ap (λ (y : Heap). owned_block (owner_at g.K.SlotKind.CODE c.args.slot.number) y.blocks) new_block.heap ∙ owned_new wanted new_block.place (heap_of c.self.inside) (held g context new_block) c.self.invariant.sound (lacks_it g (earlier g context)) new_block.room;
      zone = new_block.heap ∙ ap (λ n. with_block n (held g context new_block) new_block.place (heap_of c.self.inside)) wanted_is;
    })

pub returns-clause-full : goal.returns-clause-full
returns-clause-full g c =
    let context = (goal.at.returns-clause-full g c).After-saturating_add-self-inside in
    let new_block = made g context _ c.in_default.is in let inside = c.self.inside in let zone = c.self.invariant in
    subst (λ (y : Heap). (false ≡ true → All (λ x. total x < block_size c.args.size) (gaps y.blocks)) × (All (λ x. total x < block_size c.args.size) (gaps y.blocks) → false ≡ true)) c.self.view_is (
      (λ e. absurd (false≢true e)),
      λ a. absurd (full_some (block_size c.args.size) inside.rover new_block.place inside.size (blocks_in inside.region.items) (omega arith) zone.sound.tiles
          (ap (λ n. first_room n (stretches inside.rover (blocks_in inside.region.items))) (sym c.block_size-wanted.ensures.value) ∙ place_is g context ∙ ap result_ok new_block.is) a),
    )

pub returns-clause-others : goal.returns-clause-others
returns-clause-others g c = λ p apart.
    let context = (goal.at.returns-clause-others g c).After-saturating_add-self-inside in
    let new_block = made g context _ c.in_default.is in
    ap (λ (y : Heap). owned_block p y.blocks) new_block.heap ∙ owned_others c.block_size-wanted.result new_block.place (heap_of c.self.inside) (held g context new_block) c.self.invariant.sound (lacks_it g (earlier g context)) new_block.room p apart
    ∙ ap₂ (λ n (y : Heap). block_left (passed_blocks n (stretches y.rover y.blocks)) (owned_block p y.blocks)) c.block_size-wanted.ensures.value c.self.view_is

pub returns-in-Err-clause-full : goal.returns-in-Err-clause-full
returns-in-Err-clause-full g c =
    let context = (goal.at.returns-in-Err-clause-full g c).After-saturating_add-self-inside in
    let inside = c.self.inside in
    subst (λ (y : Heap). (true ≡ true → All (λ x. total x < block_size c.args.size) (gaps y.blocks)) × (All (λ x. total x < block_size c.args.size) (gaps y.blocks) → true ≡ true)) c.self.view_is (
      (λ e. full_none (block_size c.args.size) inside.rover (blocks_in inside.region.items) (omega arith) (ap (λ n. first_room n (stretches inside.rover (blocks_in inside.region.items))) (sym c.block_size-wanted.ensures.value) ∙ place_is g context ∙ ap result_ok c.in-Err.is)),
      λ a. refl,
    )

pub returns-in-Err-clause-report : goal.returns-in-Err-clause-report
returns-in-Err-clause-report g c =
    let full_means = c.serve-outcome.ensures.full in
    let reported = rw c.in-Err.is at full_means in (
      reported.0 ∙ c.block_size-wanted.ensures.value,
      reported.1 ∙ ap (λ xs. widest_from 0 0 (blocks_in xs)) c.deref_mut.ensures.value ∙ widest_is (blocks_in c.self.inside.region.items) ∙ ap (λ (y : Heap). widest (gaps y.blocks)) c.self.view_is,
    )

pub returns-in-Err-clause-err : goal.returns-in-Err-clause-err
returns-in-Err-clause-err g c = none_heap g (goal.at.returns-in-Err-clause-err g c).After-saturating_add-self-inside _ c.in-Err.is
    ∙ ap₂ without_room c.block_size-wanted.ensures.value c.self.view_is

pub returns-in-Err-clause-sound : goal.returns-in-Err-clause-sound
returns-in-Err-clause-sound g c = subst IsSound (sym (none_heap g (goal.at.returns-in-Err-clause-sound g c).After-saturating_add-self-inside _ c.in-Err.is))
    (without_room_sound _ _ c.self.invariant.sound c.self.invariant.least)

pub returns-in-Err-clause-empty : goal.returns-in-Err-clause-empty
returns-in-Err-clause-empty g c =
    let context = (goal.at.returns-in-Err-clause-empty g c).After-saturating_add-self-inside in
    let owner = owner_at g.K.SlotKind.CODE c.args.slot.number in let heap_before = heap_of c.self.inside in
    ap (λ (x : Heap). owned_block owner x.blocks) (none_heap g context _ c.in-Err.is) ∙ owned_searched owner c.block_size-wanted.result heap_before c.self.invariant.sound ∙ ap (block_left (passed_blocks c.block_size-wanted.result (stretches heap_before.rover heap_before.blocks))) (none_owned owner heap_before.blocks (lacks_it g (earlier g context)))

pub returns-in-Err-clause-purged : goal.returns-in-Err-clause-purged
returns-in-Err-clause-purged g c =
    let context = (goal.at.returns-in-Err-clause-purged g c).After-saturating_add-self-inside in
    let wanted_at_least = c.block_size-wanted.ensures.least in
    subst (λ (x : Heap). All (λ (b : Block). is_purgeable b ≡ false) x.blocks) (sym (none_heap g context _ c.in-Err.is))
    (full_all c.block_size-wanted.result (heap_of c.self.inside) c.self.invariant.sound (omega arith) (place_is g context ∙ ap result_ok c.in-Err.is))

pub returns-in-Err-clause-others : goal.returns-in-Err-clause-others
returns-in-Err-clause-others g c = λ p apart.
    let context = (goal.at.returns-in-Err-clause-others g c).After-saturating_add-self-inside in
    ap (λ (x : Heap). owned_block p x.blocks) (none_heap g context _ c.in-Err.is)
    ∙ owned_searched p c.block_size-wanted.result (heap_of c.self.inside) c.self.invariant.sound
    ∙ ap₂ (λ n (y : Heap). block_left (passed_blocks n (stretches y.rover y.blocks)) (owned_block p y.blocks)) c.block_size-wanted.ensures.value c.self.view_is
