-- A zone in order stays so: through a request for an item that is not live, and where tags and bytes change.
use Rattle.zone_rules.proofs.Common.{◌≡◌, ℕ, ◌+◌, ◌-◌, ◌<◌, ◌≤◌, Bool, true, false, cond, List, [], ◌∷◌, ◌++◌, Some, refl, sym, subst, ap, ap₂, ◌∙◌, arith, inl, inr, ◌==◌, ◌⊎◌, All, nat_lt, cond-false, ltb-true, ltb-false, ne_eqb, false≢true, append_assoc}
use Rattle.zone_rules.specs.declared.Tag.{Tag}
use Rattle.zone_rules.specs.Zones.{Owner, Holding, Block, Heap, IsSound, Lacks, Unique, Tiles, free_block, block_size, fresh_heap}
use Rattle.zone_rules.specs.Requests.{TakesBlock, cut_block, take_at, with_block, after_search, stretches, first_room, gaps, total, place_after}
use Rattle.zone_rules.specs.Orders.{Item, has_item, AreRoomy, is_listed, AllListed, LiveFirst, is_live, AllLive, LeavesRest, IsInOrder, live_sum, lump_size, KeepsOrder}
use Rattle.zone_rules.proofs.SoundLemmas.{full_some, lacked}
use Rattle.zone_rules.proofs.TakeLemmas.{take_at_is, unique_cut_block}
use Rattle.zone_rules.proofs.OrderSumLemmas.{item, item_block, held_sum, held_sum-append, live_is_held, live_room, full_live, all_live_has, live_behind}
use Rattle.zone_rules.proofs.OrderRequestLemmas.{Below, front_total, front_ends, front_below, exact_first, exact_push, after_front, rest_found, rest_searched}

-- a new zone is in order for every list that it has room for
pub order_fresh : (items : List Item) (size lumps composites : ℕ) → AreRoomy size items → IsInOrder items (fresh_heap size lumps composites)
order_fresh items size lumps composites a =
    record { roomy = a; listed = (refl, tt); first = tt; left = inr (record { front = []; rest = size; is = refl; exact = tt }) }

-- no call, and one after another
pub order_none : (items : List Item) (z : Heap) (taken : ℕ) → IsInOrder items z → KeepsOrder items z z taken taken
order_none items z taken o = record { order = o; stays = λ p l. l; taken = omega arith }

pub order_then : {items : List Item} {a b c : Heap} {x y z : ℕ} → KeepsOrder items a b x y → KeepsOrder items b c y z → KeepsOrder items a c x z
order_then k l = record { order = l.order; stays = λ p e. l.stays p (k.stays p e); taken = omega (arith, k.taken, l.taken) }

listed_parts : (items : List Item) (xs ys : List Block) → AllListed items (xs ++ ys) → AllListed items xs
listed_parts items [] ys l = tt
listed_parts items (b ∷ xs) ys l = (l.0, listed_parts items xs ys l.1)

listed_joined : (items : List Item) (xs ys : List Block) → AllListed items xs → AllListed items ys → AllListed items (xs ++ ys)
listed_joined items [] ys k l = l
listed_joined items (b ∷ xs) ys k l = (k.0, listed_joined items xs ys k.1 l)

-- an item of the list that is not live
module _ (items : List Item) (z : Heap) (s : IsSound z) (ord : IsInOrder items z) (o : Owner) (size : ℕ) (in_list : has_item items o size ≡ true) (dead : is_live z.blocks o ≡ false) where
  abbrev w : ℕ
  w = block_size size

  left_is : LeavesRest z.rover z.blocks
  left_is = elim ord.left [ inl a ↦ absurd (false≢true (sym dead ∙ all_live_has items z.blocks o size a in_list)) | inr r ↦ r ]

  abbrev r : LeavesRest z.rover z.blocks
  r = left_is

  tiles : Tiles 0 z.size (r.front ++ (free_block z.rover r.rest ∷ []))
  tiles = subst (Tiles 0 z.size) r.is s.tiles

  ends : (0 + total r.front ≡ z.rover) × (z.rover + r.rest ≡ z.size)
  ends = front_ends 0 z.size z.rover r.rest r.front tiles

  below : Below z.rover r.front
  below = front_below 0 z.size z.rover r.rest r.front tiles

  front_sum : (f : Item → ℕ) → live_sum f items z.blocks ≡ held_sum f r.front
  front_sum f = let of_blocks = ap (held_sum f) r.is in let of_front_and_rest = held_sum-append f r.front (free_block z.rover r.rest ∷ []) in let of_live = live_is_held f items z.blocks ord.roomy.distinct ord.listed s.unique in omega (arith, of_blocks, of_front_and_rest, of_live)

  used : held_sum item_block r.front ≡ z.rover
  used = let fills = front_total r.front r.exact in let front_end = ends in omega (arith, fills, front_end.0)

  room : w + 64 ≤ r.rest
  room =
      let item_fits = live_room item_block items z.blocks o size in_list dead in
      let live_is_front = front_sum item_block in
      let front_used = used in
      let all_fit = ord.roomy.room in
      let front_end = ends in
      omega (arith, item_fits, live_is_front, front_used, all_fit, front_end.1)

  -- there is room
  found : first_room w (stretches z.rover z.blocks) ≡ Some z.rover
  found = let fits = room in ap (λ bs. first_room w (stretches z.rover bs)) r.is ∙ rest_found w z.rover r.rest (omega arith) (omega arith) r.front r.exact below

  pub order_has_room : All (λ g. total g < w) (gaps z.blocks) → ⊥
  order_has_room a = full_some w z.rover z.rover z.size z.blocks (omega arith) s.tiles found a

  searched : after_search w z ≡ r.front ++ (free_block z.rover r.rest ∷ [])
  searched = let room_fits = room in ap (λ bs. after_search w (record z { blocks = bs })) r.is ∙ rest_searched w z.rover r.rest (omega arith) (omega arith) r.front r.exact below

  module _ (h : Holding) (owner_is : h.owner ≡ o) (asked_is : h.asked ≡ size) where
    abbrev cut : List Block
    cut = cut_block w h (free_block z.rover r.rest)

    abbrev new : List Block
    new = take_at z.rover w h (after_search w z)

    new_is : new ≡ r.front ++ (cut ++ [])
    new_is = ap (take_at z.rover w h) searched ∙ take_at_is z.rover r.rest w h 0 z.size r.front [] tiles

    h_listed : is_listed items (Some h) ≡ true
    h_listed = ap₂ (has_item items) owner_is asked_is ∙ in_list

    cut_listed : AllListed items (cut ++ [])
    cut_listed = go (nat_lt 64 (r.rest - w)) where
      go : (t : Bool) → AllListed items (cond t (record { place = z.rover; size = w; holding = Some h } ∷ free_block (z.rover + w) (r.rest - w) ∷ []) (record { place = z.rover; size = r.rest; holding = Some h } ∷ []) ++ [])
      go true = (h_listed, (refl, tt))
      go false = (h_listed, tt)

    new_listed : AllListed items new
    new_listed = subst (AllListed items) (sym new_is) (listed_joined items r.front (cut ++ []) (listed_parts items r.front _ (subst (AllListed items) r.is ord.listed)) cut_listed)

    new_unique : Unique new
    new_unique = subst Unique (sym new_is) (unique_cut_block z.rover r.rest w h r.front [] (subst (Lacks h.owner) r.is (lacked h.owner z.blocks (ap (is_live z.blocks) owner_is ∙ dead))) (subst Unique r.is s.unique))

    cut_sum : (f : Item → ℕ) → held_sum f (cut ++ []) ≡ f (item o size)
    cut_sum f = go (nat_lt 64 (r.rest - w)) where
      one : f (item h.owner h.asked) ≡ f (item o size)
      one = ap₂ (λ p n. f (item p n)) owner_is asked_is

      go : (t : Bool) → held_sum f (cond t (record { place = z.rover; size = w; holding = Some h } ∷ free_block (z.rover + w) (r.rest - w) ∷ []) (record { place = z.rover; size = r.rest; holding = Some h } ∷ []) ++ []) ≡ f (item o size)
      go true = omega (arith, one)
      go false = omega (arith, one)

    -- the sum of what is live has the item more
    new_sum : (f : Item → ℕ) → live_sum f items new ≡ f (item o size) + live_sum f items z.blocks
    new_sum f =
        let of_live = live_is_held f items new ord.roomy.distinct new_listed new_unique in
        let of_new = ap (held_sum f) new_is in
        let of_parts = held_sum-append f r.front (cut ++ []) in
        let of_cut = cut_sum f in
        let of_front = front_sum f in
        omega (arith, of_live, of_new, of_parts, of_cut, of_front)

    new_first : LiveFirst new
    new_first = subst LiveFirst (sym new_is) (go (nat_lt 64 (r.rest - w))) where
      go : (t : Bool) → LiveFirst (r.front ++ (cond t (record { place = z.rover; size = w; holding = Some h } ∷ free_block (z.rover + w) (r.rest - w) ∷ []) (record { place = z.rover; size = r.rest; holding = Some h } ∷ []) ++ []))
      go true =
          subst LiveFirst (append_assoc r.front (record { place = z.rover; size = w; holding = Some h } ∷ []) (free_block (z.rover + w) (r.rest - w) ∷ []))
          (exact_first (r.front ++ record { place = z.rover; size = w; holding = Some h } ∷ []) (free_block (z.rover + w) (r.rest - w)) (exact_push r.front (record { place = z.rover; size = w; holding = Some h }) r.exact (ap block_size (sym asked_is))))
      go false = exact_first r.front (record { place = z.rover; size = r.rest; holding = Some h }) r.exact

    abbrev taken_block : Block
    taken_block = record { place = z.rover; size = w; holding = Some h }

    -- a rest of more than 64 bytes stays behind the new block, and the rover stands there
    rest_left : 64 < r.rest - w → new ≡ r.front ++ (taken_block ∷ free_block (z.rover + w) (r.rest - w) ∷ []) → LeavesRest (place_after z.rover z.size new) new
    rest_left big is =
        let front_end = ends in
        let next : place_after z.rover z.size new ≡ z.rover + w = ap (place_after z.rover z.size) is ∙ after_front z.rover z.size r.front (free_block (z.rover + w) (r.rest - w) ∷ []) taken_block below refl ∙ cond-false (z.rover + w == z.size) 0 (z.rover + w) (ne_eqb (z.rover + w) z.size (λ x. omega (arith, front_end.1, x, big))) in
        subst (λ n. LeavesRest n new) (sym next) (record {
          front = r.front ++ (taken_block ∷ []);
          rest = r.rest - w;
          is = is ∙ sym (append_assoc r.front (taken_block ∷ []) (free_block (z.rover + w) (r.rest - w) ∷ []));
          exact = exact_push r.front taken_block r.exact (ap block_size (sym asked_is));
        })

    -- a rest of 64 bytes is left only by the last item
    all_left : r.rest - w ≤ 64 → AllLive items new
    all_left small =
        let room_fits = room in
        let item_more = new_sum item_block in
        let live_is_front = front_sum item_block in
        let front_used = used in
        let all_fit = ord.roomy.room in
        let front_end = ends in
        full_live items new (omega (arith, small, room_fits, item_more, live_is_front, front_used, all_fit, front_end.1))

    new_left : AllLive items new ⊎ LeavesRest (place_after z.rover z.size new) new
    new_left = go (nat_lt 64 (r.rest - w)) refl new_is where
      go : (t : Bool) → nat_lt 64 (r.rest - w) ≡ t → new ≡ r.front ++ (cond t (taken_block ∷ free_block (z.rover + w) (r.rest - w) ∷ []) (record { place = z.rover; size = r.rest; holding = Some h } ∷ []) ++ []) → AllLive items new ⊎ LeavesRest (place_after z.rover z.size new) new
      go true x is = inr (rest_left (ltb-true 64 (r.rest - w) x) is)
      go false x is = inl (all_left (ltb-false 64 (r.rest - w) x))

    new_stays : (p : Owner) → is_live z.blocks p ≡ true → is_live new p ≡ true
    new_stays p e = ap (λ bs. is_live bs p) new_is ∙ live_behind p r.front (free_block z.rover r.rest ∷ []) (cut ++ []) (λ x. absurd (false≢true x)) (ap (λ bs. is_live bs p) (sym r.is) ∙ e)

    with_block_order : (before after : ℕ) → after ≤ before + lump_size (item o size) → KeepsOrder items z (with_block w h z.rover z) before after
    with_block_order before after le = record {
      order = record { roomy = ord.roomy; listed = new_listed; first = new_first; left = new_left };
      stays = new_stays;
      taken = let item_more = new_sum lump_size in omega (arith, item_more, le);
    }

  -- a request for it keeps the order, empties no slot, and adds the item to what is live
  module _ (made : Heap) (tag : Tag) (t : TakesBlock z made o size tag) where
    abbrev made_holding : Holding
    made_holding = record { owner = o; tag = tag; asked = size; bytes = t.bytes }

    made_is : made ≡ with_block w made_holding z.rover z
    made_is = let same_some : Some t.place ≡ Some z.rover = sym t.place_is ∙ found in let same_place : t.place ≡ z.rover = cc in t.zone ∙ ap (λ p. with_block w made_holding p z) same_place

    pub order_taken : (before after : ℕ) → after ≤ before + lump_size (item o size) → KeepsOrder items z made before after
    order_taken before after le = subst (λ y. KeepsOrder items z y before after) (sym made_is) (with_block_order made_holding refl refl before after le)
