-- The zone's fields, and what its calls need and give back.
use Rattle.zone_rules.proofs.Common.{◌≡◌, ℕ, ◌+◌, ◌-◌, ◌*◌, ◌/◌, ◌%◌, ◌<◌, ◌≤◌, false, List, length, map, take, drop, ◌++◌, Global, Option, Some, None, refl, sym, subst, ap, ap₂, ◌∙◌, arith, option_map, inl, inr, ◌==◌, ◌⊎◌, slice_range, IsSome, option_and_then, vec_len, is_some, not, cases_eq, eq-eqb, ne_eqb, length-take, length-drop}
use Rattle.std.specs.declared.vec.Vec.{Vec}
use Rattle.zone_heap.specs.Rules.{AllFit, Block, Heap, Holding, IsLive, IsSound, Owner, Tag, bytes_of, holding_of, is_held_by, owned_block, owner_at, retag_block, same_owner, slot_count, with_bytes, write_block, HEADER_SIZE, word_at}
use Rattle.zone_rules.proofs.{OwnerLemmas.owned_apart, SoundLemmas.in_range_of}
use Rattle.zone_rules.proofs.ChangeLemmas.{retag_keeps, with_bytes_sound, write_keeps}
use Rattle.zone_heap.specs.{declared.homes.Homes.Homes, declared.look.Span.Span}
use Rattle.zone_rules.proofs.OwnerLemmas.{owned_block-map, retag_held, write_held}
use Rattle.zone_heap.specs.{declared.zone.Zone.TheInside.Inside, View.heap_of, View.IsZone}
use Rattle.zone_heap.specs.Headers.{KIND_UNIT, owner_in, live_in, ASKED_AT}
use Rattle.zone_heap.specs.Regions.{blocks_in, IsRing}
use Rattle.zone_heap.specs.Homes.{NO_HOME, home_in, home_of, composites_in, IsSlot, AreExact, AreHome, AreAlike}
use Rattle.zone_heap.proofs.LookLemmas.{IsFound, look, holding_found}
use Rattle.zone_heap.proofs.ChangeLemmas.{asked_fits, bytes_found}
use Rattle.zone_heap.proofs.WriteLemmas.{written_ring, written_blocks}

-- an owner word is read back as its owner
pub owner_back : (kind number : ℕ) → number < KIND_UNIT → owner_in (kind * KIND_UNIT + number) ≡ owner_at kind number
owner_back kind number h =
    let kind_back : (kind * KIND_UNIT + number) / KIND_UNIT ≡ kind = omega arith in
    let number_back : (kind * KIND_UNIT + number) % KIND_UNIT ≡ number = omega arith in
    λ i. record { kind = kind_back i; number = number_back i }

-- a change of blocks that keeps their places and owners keeps homes exact
home_map : (f : Block → Block) (places : (b : Block) → (f b).place ≡ b.place) (x : Option Block) → home_of (option_map f x) ≡ home_of x
home_map f places None = refl
home_map f places (Some b) = places b

-- the homes are exact after such a change, if they were
pub exact_map : (homes : Homes) (bs : List Block) (f : Block → Block) (stays : (o : Owner) (b : Block) → is_held_by o (f b) ≡ is_held_by o b) (places : (b : Block) → (f b).place ≡ b.place) → AreExact homes bs → AreExact homes (map f bs)
exact_map homes bs f stays places e = λ o s. e o s ∙ sym (ap home_of (owned_block-map o f (stays o) bs) ∙ home_map f places (owned_block o bs))

-- so they are after a change of a tag
pub exact_tagged : (homes : Homes) (bs : List Block) (p : Owner) (tag : Tag) → AreExact homes bs → AreExact homes (map (retag_block p tag) bs)
exact_tagged homes bs p tag = exact_map homes bs (retag_block p tag) (λ o. retag_held o p tag) (retag_keeps p tag).place

-- and after a change of a block's bytes
pub exact_written : (homes : Homes) (bs : List Block) (p : Owner) (w : List ℕ) → AreExact homes bs → AreExact homes (map (write_block p w) bs)
exact_written homes bs p w = exact_map homes bs (write_block p w) (λ o. write_held o p w) (write_keeps p w).place

held_some : (x : Option Block) → IsSome (option_and_then (λ (b : Block). b.holding) x) → IsSome x
held_some None k = k
held_some (Some b) k = refl

-- where the bytes of a live slot lie, in the fields of a zone
pub record IsSpan (i : Inside) (z : Heap) (kind number : ℕ) (s : Span) : Type 0 where
  pub view : heap_of i ≡ z
  pub known : kind ≤ 1
  pub inside : number < slot_count (heap_of i) kind
  pub live : IsLive (heap_of i) (owner_at kind number)
  pub from_is : s.from ≡ home_in i.homes kind number + HEADER_SIZE
  pub to_is : s.to ≡ s.from + word_at i.region.items (home_in i.homes kind number + ASKED_AT)

-- what a look-up of a live slot's bytes answers is their span
pub span_is : (i : Inside) (z : Heap) → heap_of i ≡ z → (kind number : ℕ) → kind ≤ 1 → number < slot_count z kind → IsLive z (owner_at kind number)
    → (region : List ℕ) → region ≡ i.region.items → (k n : ℕ) → k ≡ kind → n ≡ number
    → (s : Span) → s.from ≡ home_in i.homes k n + HEADER_SIZE → s.to ≡ s.from + word_at region (home_in i.homes k n + ASKED_AT) → IsSpan i z kind number s
span_is i z view kind number known inside live region region_is k n k_is n_is s from to =
    let home = ap₂ (home_in i.homes) k_is n_is in
    record {
      view = view;
      known = known;
      inside = subst (λ (y : Heap). number < slot_count y kind) (sym view) inside;
      live = subst (λ (y : Heap). IsLive y (owner_at kind number)) (sym view) live;
      from_is = from ∙ ap (λ at. at + HEADER_SIZE) home;
      to_is = to ∙ ap₂ (λ xs at. s.from + word_at xs (at + ASKED_AT)) region_is home;
    }

-- what a call that wrote the bytes of a slot left
pub record IsRewritten (owner : Owner) (old new : Heap) (x w : List ℕ) : Type 0 where
  pub x_is : bytes_of owner old.blocks ≡ Some x
  pub len : length w ≡ length x
  pub zone : new ≡ with_bytes owner w old

-- the list with other items between two places, of which P is so
abbrev pub IsPart : (List ℕ → Type 0) → ℕ → ℕ → List ℕ → List ℕ → Type 0
IsPart P from to old new = (w : List ℕ) × (length w ≡ to - from) × P w × (new ≡ take from old ++ (w ++ drop to old))

module _ (i : Inside) (zone : IsZone i) where
  -- a home for each slot
  pub homes_len : length i.homes.list.items ≡ i.homes.lumps + i.composites
  homes_len = let homes_counted = zone.homes in let vec_length = i.homes.list.ok.0 in omega arith

  pub region_len : length i.region.items ≡ i.size
  region_len = let size_is = zone.region in let vec_length = i.region.ok.0 in omega arith

  pub few : i.homes.lumps ≤ length i.homes.list.items
  few = let homes_length = homes_len in omega arith

  -- those that are not of lumps are of composites
  pub others : composites_in i.homes ≡ i.composites
  others = let homes_length = homes_len in omega arith

  -- the owners of the zone's blocks, and their homes, are right
  pub home_all : AreHome i.homes (blocks_in i.region.items)
  home_all = record { few = few; unique = zone.sound.unique; fits = subst (λ m. AllFit i.homes.lumps m (blocks_in i.region.items)) (sym others) zone.sound.fits; exact = zone.exact }

  -- another region and other homes of as many bytes and slots are a zone's, where the blocks are sound and the homes exact
  pub zone_with : (region : Vec ℕ Global) (homes : Homes) (rover purges : ℕ) → vec_len region ≡ vec_len i.region → AreAlike i.homes homes
      → IsSound (heap_of (record i { region = region; homes = homes; rover = rover; purges = purges })) → IsRing region.items
      → AreExact homes (blocks_in region.items) → IsZone (record i { region = region; homes = homes; rover = rover; purges = purges })
  zone_with region homes rover purges r alike sound ring exact = record {
    sound = sound;
    ring = ring;
    exact = exact;
    region = r ∙ zone.region;
    least = zone.least;
    small = zone.small;
    lumps = let lumps_small = zone.lumps in let lumps_same = alike.0 in omega arith;
    composites = zone.composites;
    homes = let lumps_same = alike.0 in let length_same = alike.1 in let homes_counted = zone.homes in let vec_length = homes.list.ok.0 in
        let vec_length_before = i.homes.list.ok.0 in omega arith;
  }

  module _ (kind number : ℕ) (known : kind ≤ 1) (inside : number < slot_count (heap_of i) kind) where
    -- a number within the range of its kind is a slot
    pub slot_is : IsSlot i.homes (owner_at kind number)
    slot_is = let in_range = in_range_of (heap_of i) kind number known inside in let composites_same = others in
        (in_range.0, λ e. let number_below = in_range.1 e in omega arith, in_range.2)

    -- the number of a slot fits into an owner word
    pub number_small : number < KIND_UNIT
    number_small = go (cases_eq kind 0) (cases_eq kind 1) where
      go : (kind ≡ 0) ⊎ (kind ≡ 0 → ⊥) → (kind ≡ 1) ⊎ (kind ≡ 1 → ⊥) → number < KIND_UNIT
      go (inl e) x = let number_below = (in_range_of (heap_of i) kind number known inside).0 e in let lumps_small = zone.lumps in omega arith
      go (inr e) (inl f) = let number_below = (in_range_of (heap_of i) kind number known inside).1 f in let composites_small = zone.composites in omega arith
      go (inr e) (inr f) = absurd (omega arith)

    module _ (live : IsLive (heap_of i) (owner_at kind number)) where
      pub owned_live : IsSome (owned_block (owner_at kind number) (blocks_in i.region.items))
      owned_live = held_some (owned_block (owner_at kind number) (blocks_in i.region.items)) live

      -- its block stands at its home
      pub found : IsFound i.region.items (owner_at kind number) (home_in i.homes kind number)
      found = look i.region.items zone.ring.laid (owner_at kind number) (home_in i.homes kind number) owned_live (zone.exact (owner_at kind number) slot_is)

    -- whether a slot is live, by its home
    pub live_told : (home : ℕ) → home ≡ home_in i.homes kind number → not (home == NO_HOME) ≡ is_some (holding_of (owner_at kind number) (blocks_in i.region.items))
    live_told home e = go (owned_block (owner_at kind number) (blocks_in i.region.items)) refl where
      at : home ≡ home_of (owned_block (owner_at kind number) (blocks_in i.region.items))
      at = e ∙ zone.exact (owner_at kind number) slot_is

      go : (x : Option Block) → owned_block (owner_at kind number) (blocks_in i.region.items) ≡ x
          → not (home == NO_HOME) ≡ is_some (holding_of (owner_at kind number) (blocks_in i.region.items))
      go None k = ap not (eq-eqb home NO_HOME (at ∙ ap home_of k)) ∙ sym (ap (λ (x : Option Block). is_some (option_and_then (λ (b : Block). b.holding) x)) k)
      go (Some b) k =
          let block_found = look i.region.items zone.ring.laid (owner_at kind number) home (subst IsSome (sym k) refl) at in
          let block_fits = block_found.fits in let block_large = block_found.large in let region_length = region_len in
          let region_small = zone.small in
          ap not (ne_eqb home NO_HOME (λ x. omega arith)) ∙ sym (ap is_some (holding_found i.region.items (owner_at kind number) home block_found))

  -- the span of a live slot
  module _ (z : Heap) (kind number : ℕ) (s : Span) (p : IsSpan i z kind number s) where
    abbrev home : ℕ
    home = home_in i.homes kind number

    abbrev there : IsFound i.region.items (owner_at kind number) home
    there = found kind number p.known p.inside p.live

    fits : word_at there.part ASKED_AT + HEADER_SIZE ≤ length there.part
    fits = asked_fits i.region.items (owner_at kind number) home there i.homes.lumps i.composites zone.sound.fits

    to_word : s.to ≡ home + HEADER_SIZE + word_at there.part ASKED_AT
    to_word = let asked_kept = there.words ASKED_AT (omega arith) in let start_is = p.from_is in let end_is = p.to_is in omega arith

    -- it lies within the region, and has the bytes of the slot
    pub span_bound : s.to ≤ vec_len i.region
    span_bound = let end_is = to_word in let bytes_fit = fits in let block_fits = there.fits in let region_length = region_len in
        let size_is = zone.region in omega arith

    pub span_bytes : bytes_of (owner_at kind number) z.blocks ≡ Some (slice_range i.region.items s.from s.to)
    span_bytes =
        let end_is = to_word in let start_is = p.from_is in let asked_is : word_at there.part ASKED_AT ≡ s.to - s.from = omega arith in
        ap (λ (y : Heap). bytes_of (owner_at kind number) y.blocks) (sym p.view) ∙ bytes_found i.region.items (owner_at kind number) home there i.homes.lumps i.composites zone.sound.fits ∙ ap₂ (λ k q. Some (take k (drop q i.region.items))) asked_is (sym p.from_is)

    span_len : length (slice_range i.region.items s.from s.to) ≡ s.to - s.from
    span_len =
        let taken_length = length-take (s.to - s.from) (drop s.from i.region.items) in
        let dropped_length = length-drop s.from i.region.items in let end_within = span_bound in let region_length = region_len in
        let size_is = zone.region in omega arith

    span_within : (s.from ≡ there.block.place + HEADER_SIZE) × (s.to ≤ there.block.place + there.block.size)
    span_within = let place_is = there.place_is in let block_length = ap (λ (x : Block). x.size) there.block_is in let bytes_fit = fits in
        let end_is = to_word in let start_is = p.from_is in (omega arith, omega arith)

    -- other bytes there
    module _ (w : List ℕ) (len : length w ≡ s.to - s.from) (v : Vec ℕ Global) (is : v.items ≡ take s.from i.region.items ++ (w ++ drop s.to i.region.items))
        (same : vec_len v ≡ vec_len i.region) where
      w_len : length w ≡ word_at there.part ASKED_AT
      w_len = let end_is = to_word in let start_is = p.from_is in omega arith

      items : v.items ≡ take (home + HEADER_SIZE) i.region.items ++ (w ++ drop (home + HEADER_SIZE + word_at there.part ASKED_AT) i.region.items)
      items = is ∙ ap₂ (λ m n. take m i.region.items ++ (w ++ drop n i.region.items)) p.from_is to_word

      blocks : blocks_in v.items ≡ map (write_block (owner_at kind number) w) (blocks_in i.region.items)
      blocks = written_blocks i.region.items (owner_at kind number) home there zone.ring zone.sound.unique w v.items w_len fits items

      written_heap : heap_of (record i { region = v }) ≡ with_bytes (owner_at kind number) w (heap_of i)
      written_heap = λ j. record { size = i.size; lumps = i.homes.lumps; composites = i.composites; blocks = blocks j; rover = i.rover; purges = i.purges }

      pub rewritten : IsRewritten (owner_at kind number) z (heap_of (record i { region = v })) (slice_range i.region.items s.from s.to) w
      rewritten = record { x_is = span_bytes; len = len ∙ sym span_len; zone = written_heap ∙ ap (with_bytes (owner_at kind number) w) p.view }

      right : (h : Holding) → holding_of (owner_at kind number) (blocks_in i.region.items) ≡ Some h → length w ≡ h.asked
      right h e = let holding_is : live_in there.part ≡ h = some_same (live_in there.part) h (sym (holding_found i.region.items (owner_at kind number) home there) ∙ e) in w_len ∙ ap (λ (x : Holding). x.asked) holding_is where
        some_same : (x y : Holding) → ◌≡◌ {A = Option Holding} (Some x) (Some y) → x ≡ y
        some_same x y e = cc

      -- the fields are a zone again
      pub written_zone : IsZone (record i { region = v })
      written_zone =
          zone_with v i.homes i.rover i.purges same (refl, refl) (subst IsSound (sym written_heap) (with_bytes_sound (owner_at kind number) w (heap_of i) zone.sound right))
          (written_ring i.region.items (owner_at kind number) home there zone.ring zone.sound.unique w v.items w_len fits items)
          (subst (AreExact i.homes) (sym blocks) (exact_written i.homes (blocks_in i.region.items) (owner_at kind number) w zone.exact))

    -- the same of what a call with the span's bytes gives back
    module _ (P : List ℕ → Type 0) (v : Vec ℕ Global) (part : IsPart P s.from s.to i.region.items v.items) (same : vec_len v ≡ vec_len i.region) where
      pub part_zone : IsZone (record i { region = v })
      part_zone = written_zone part.0 part.1 v part.3 same

      pub part_rewritten : IsRewritten (owner_at kind number) z (heap_of (record i { region = v })) (slice_range i.region.items s.from s.to) part.0
      part_rewritten = rewritten part.0 part.1 v part.3 same

  -- the parts of two live slots lie apart
  pub spans_apart : (z : Heap) (kind number other n : ℕ) (s t : Span) (p : IsSpan i z kind number s) (q : IsSpan i z other n t)
      → same_owner (owner_at kind number) (owner_at other n) ≡ false → (s.to ≤ t.from) ⊎ (t.to ≤ s.from)
  spans_apart z kind number other n s t p q apart =
      let block_found = there z kind number s p in let other_found = there z other n t q in
      let span_inside = span_within z kind number s p in let other_inside = span_within z other n t q in
      elim (owned_apart (owner_at kind number) (owner_at other n) 0 i.size (blocks_in i.region.items) block_found.block other_found.block apart zone.sound.tiles block_found.owned other_found.owned) [
        | inl d ↦ inl (let span_end = span_inside.1 in let other_start = other_inside.0 in omega arith)
        | inr d ↦ inr (let span_start = span_inside.0 in let other_end = other_inside.1 in omega arith)
      ]
