-- A free block given to a slot, as the bytes of its parts.
use Rattle.zone_rules.proofs.Common.{◌≡◌, ℕ, zero, suc, ◌+◌, ◌-◌, ◌<◌, ◌≤◌, ◌^◌, Bool, true, false, cond, List, [], ◌∷◌, ◌++◌, length, take, drop, Some, None, refl, sym, subst, ap, ap₂, ◌∙◌, arith, inl, ◌==◌, nat_lt, cond-true, cond-false, eq-eqb, ne_eqb, le-ltb, lt-ltb, length-append, length-take, length-drop, drop_at, drop-drop}
use Rattle.zone_heap.specs.Rules.{Block, Holding, RoomAt, Tiles, cut_block, free_block, place_after, take_at, HEADER_SIZE, MIN_FRAGMENT, word_at}
use Rattle.zone_rules.proofs.TakeLemmas.{take_at_is}
use Rattle.zone_heap.specs.declared.headers.Used.{Used}
use Rattle.zone_heap.specs.Headers.{FREE_OWNER, with_word, with_use, block_in, holding_in, live_in, owner_in, code_tag, first_part, second_part, used_holding, ASKED_AT, OWNER_AT, TAG_AT}
use Rattle.zone_heap.specs.Regions.{joined, blocks_in, blocks_from, AllWhole, IsLaid, IsSplit}
use Rattle.zone_heap.proofs.WordLemmas.{word_same, word_other, length-with_word, length-with_use, drop-with_word, used_within, word_within}
use Rattle.zone_heap.proofs.PartLemmas.{blocks_laid, blocks-append, joined-append, whole-append, tiles_laid}
use Rattle.zone_heap.proofs.PurgeLemmas.{length-freed, told-freed, block-freed}

-- the block of a list of blocks, in the region that they are of
pub record IsAmong (region : List ℕ) (place : ℕ) (F R : List Block) (b : Block) : Type 0 where
  pub split : IsSplit region place
  pub part : List ℕ
  pub others : List (List ℕ)
  pub rest_is : split.rest ≡ part ∷ others
  pub front_is : blocks_from 0 split.front ≡ F
  pub part_is : block_in place part ≡ b
  pub others_is : blocks_from (place + length part) others ≡ R

record PartsAre (p : ℕ) (cs : List (List ℕ)) (F R : List Block) (b : Block) : Type 0 where
  front : List (List ℕ)
  part : List ℕ
  others : List (List ℕ)
  is : cs ≡ front ++ (part ∷ others)
  front_is : blocks_from p front ≡ F
  part_is : block_in (p + length (joined front)) part ≡ b
  others_is : blocks_from (p + length (joined front) + length part) others ≡ R

head_eq : (x y : Block) (xs ys : List Block) → x ∷ xs ≡ y ∷ ys → x ≡ y
head_eq x y xs ys e = cc

tail_eq : (x y : Block) (xs ys : List Block) → x ∷ xs ≡ y ∷ ys → xs ≡ ys
tail_eq x y xs ys e = cc

no_block : (b : Block) (F R : List Block) → [] ≡ F ++ (b ∷ R) → ⊥
no_block b [] R e = cc
no_block b (a ∷ F) R e = cc

-- where one of the blocks stands, its part stands among the parts
parts_of : (p : ℕ) (cs : List (List ℕ)) (F R : List Block) (b : Block) → blocks_from p cs ≡ F ++ (b ∷ R) → PartsAre p cs F R b
parts_of p [] F R b e = absurd (no_block b F R e)
parts_of p (c ∷ cs) [] R b e =
    let start_is : p ≡ p + length (joined []) = omega arith in
    record {
      front = [];
      part = c;
      others = cs;
      is = refl;
      front_is = refl;
      part_is = ap (λ n. block_in n c) (sym start_is) ∙ head_eq (block_in p c) b (blocks_from (p + length c) cs) R e;
      others_is = ap (λ n. blocks_from (n + length c) cs) (sym start_is) ∙ tail_eq (block_in p c) b (blocks_from (p + length c) cs) R e;
    }
parts_of p (c ∷ cs) (a ∷ F) R b e =
    let parts_behind = parts_of (p + length c) cs F R b (tail_eq (block_in p c) a (blocks_from (p + length c) cs) (F ++ (b ∷ R)) e) in
    let joined_length = length-append c (joined parts_behind.front) in
    let place_is : p + length (joined (c ∷ parts_behind.front)) ≡ p + length c + length (joined parts_behind.front) = omega arith in
    record {
      front = c ∷ parts_behind.front;
      part = parts_behind.part;
      others = parts_behind.others;
      is = ap (λ xs. c ∷ xs) parts_behind.is;
      front_is = ap₂ ◌∷◌ (head_eq (block_in p c) a (blocks_from (p + length c) cs) (F ++ (b ∷ R)) e) parts_behind.front_is;
      part_is = ap (λ n. block_in n parts_behind.part) place_is ∙ parts_behind.part_is;
      others_is = ap (λ n. blocks_from (n + length parts_behind.part) parts_behind.others) place_is ∙ parts_behind.others_is;
    }

-- whole parts joined were whole in both lists
whole_parts : (xs ys : List (List ℕ)) → AllWhole (xs ++ ys) → AllWhole xs × AllWhole ys
whole_parts [] ys w = (tt, w)
whole_parts (c ∷ xs) ys w = let whole_behind = whole_parts xs ys w.2 in ((w.0, w.1, whole_behind.0), whole_behind.1)

-- each block of a region that is laid out has its part there
pub among : (region : List ℕ) (laid : IsLaid region) (F R : List Block) (b : Block) → blocks_in region ≡ F ++ (b ∷ R) → IsAmong region b.place F R b
among region laid F R b e =
    let its_part = parts_of 0 laid.parts F R b (sym (blocks_laid region laid) ∙ e) in
    let front_length : length (joined its_part.front) ≡ b.place = let place_same = ap (λ (x : Block). x.place) its_part.part_is in omega arith in
    let both_whole = whole_parts its_part.front (its_part.part ∷ its_part.others) (subst AllWhole its_part.is laid.whole) in
    record {
      split = record { front = its_part.front; rest = its_part.part ∷ its_part.others; is = laid.is ∙ ap joined its_part.is ∙ joined-append its_part.front (its_part.part ∷ its_part.others); at_is = front_length; front_whole = both_whole.0; rest_whole = both_whole.1 };
      part = its_part.part;
      others = its_part.others;
      rest_is = refl;
      front_is = its_part.front_is;
      part_is = ap (λ n. block_in n its_part.part) (let place_is : b.place ≡ 0 + length (joined its_part.front) = omega arith in place_is) ∙ its_part.part_is;
      others_is = ap (λ n. blocks_from (n + length its_part.part) its_part.others) (let place_is : b.place ≡ 0 + length (joined its_part.front) = omega arith in place_is) ∙ its_part.others_is;
    }

-- a part of another use
module _ (c : List ℕ) (u : Used) (large : HEADER_SIZE ≤ length c) (asked_small : u.asked < 2 ^ 32) (owner_small : u.owner < 2 ^ 32)
    (tag_small : u.tag < 2 ^ 32) where
  abbrev pub given : List ℕ
  given = with_use c 0 u.asked u.owner u.tag

  abbrev asked_written : List ℕ
  asked_written = with_word c ASKED_AT u.asked

  abbrev owner_written : List ℕ
  owner_written = with_word asked_written OWNER_AT u.owner

  asked_written_len : length asked_written ≡ length c
  asked_written_len = length-with_word c ASKED_AT u.asked (omega arith)

  owner_written_len : length owner_written ≡ length c
  owner_written_len = let asked_kept = asked_written_len in length-with_word asked_written OWNER_AT u.owner (omega arith) ∙ asked_kept

  -- it keeps its length, and tells the same size
  pub length-given : length given ≡ length c
  length-given = length-with_use c 0 u.asked u.owner u.tag (omega arith)

  pub told-given : word_at given 0 ≡ word_at c 0
  told-given = let asked_kept = asked_written_len in let owner_kept = owner_written_len in word_other owner_written TAG_AT u.tag 0 (omega arith) (inl (omega arith)) ∙ word_other asked_written OWNER_AT u.owner 0 (omega arith) (inl (omega arith)) ∙ word_other c ASKED_AT u.asked 0 (omega arith) (inl (omega arith))

  -- as a block it holds what was given
  pub block-given : (p : ℕ) → (u.owner == FREE_OWNER) ≡ false
      → block_in p given ≡ record { place = p; size = length c; holding = Some (used_holding u (drop HEADER_SIZE c)) }
  block-given p live =
      let asked_kept = asked_written_len in let owner_kept = owner_written_len in
      let tag : word_at given TAG_AT ≡ u.tag = word_same owner_written TAG_AT u.tag (omega arith) tag_small in
      let owner : word_at given OWNER_AT ≡ u.owner = word_other owner_written TAG_AT u.tag OWNER_AT (omega arith) (inl (omega arith)) ∙ word_same asked_written OWNER_AT u.owner (omega arith) owner_small in
      let asked_stays : word_at given ASKED_AT ≡ u.asked = word_other owner_written TAG_AT u.tag ASKED_AT (omega arith) (inl (omega arith))
      ∙ word_other asked_written OWNER_AT u.owner ASKED_AT (omega arith) (inl (omega arith)) ∙ word_same c ASKED_AT u.asked (omega arith) asked_small in
      let bytes_stay : drop HEADER_SIZE given ≡ drop HEADER_SIZE c = drop-with_word owner_written TAG_AT u.tag HEADER_SIZE (omega arith) (omega arith)
      ∙ drop-with_word asked_written OWNER_AT u.owner HEADER_SIZE (omega arith) (omega arith) ∙ drop-with_word c ASKED_AT u.asked HEADER_SIZE (omega arith) (omega arith) in
      let size = length-given in
      let given_holds_live : holding_in given ≡ Some (live_in given) =
      cond-false (word_at given OWNER_AT == FREE_OWNER) None (Some (live_in given)) (ap (λ n. n == FREE_OWNER) owner ∙ live) in
      let live_is : live_in given ≡ used_holding u (drop HEADER_SIZE c) =
      λ i. record { owner = owner_in (owner i); tag = code_tag (tag i); asked = asked_stays i; bytes = take (asked_stays i) (bytes_stay i) } in
      λ i. record { place = p; size = size i; holding = (given_holds_live ∙ ap Some live_is) i }

-- a part cut into two
module _ (c : List ℕ) (wanted : ℕ) (large : HEADER_SIZE ≤ wanted) (room : wanted + HEADER_SIZE ≤ length c) (small : length c < 2 ^ 32) where
  length_front : length (take wanted c) ≡ wanted
  length_front = simp length-take (omega arith)

  length_back : length (drop wanted c) ≡ length c - wanted
  length_back = length-drop wanted c

  -- the first part is as long as wanted, and tells so
  pub length-first : length (first_part c wanted) ≡ wanted
  length-first = let front_length = length_front in length-with_word (take wanted c) 0 wanted (omega arith) ∙ front_length

  pub told-first : word_at (first_part c wanted) 0 ≡ wanted
  told-first = let front_length = length_front in word_same (take wanted c) 0 wanted (omega arith) (omega arith)

  abbrev back : List ℕ
  back = with_word (drop wanted c) 0 (length c - wanted)

  length-back : length back ≡ length c - wanted
  length-back = let back_length = length_back in length-with_word (drop wanted c) 0 (length c - wanted) (omega arith) ∙ back_length

  -- the second is as long as what is left, tells so, and is free
  pub length-second : length (second_part c wanted) ≡ length c - wanted
  length-second = let back_length = length-back in length-freed back (omega arith) ∙ back_length

  pub told-second : word_at (second_part c wanted) 0 ≡ length c - wanted
  told-second = let back_length = length-back in let dropped_length = length_back in
      told-freed back (omega arith) ∙ word_same (drop wanted c) 0 (length c - wanted) (omega arith) (omega arith)

  pub block-second : (p : ℕ) → block_in p (second_part c wanted) ≡ free_block p (length c - wanted)
  block-second p = let back_length = length-back in block-freed back (omega arith) p ∙ ap (free_block p) back_length

  -- behind its header the first part is as it was
  pub back-first : drop HEADER_SIZE (first_part c wanted) ≡ drop HEADER_SIZE (take wanted c)
  back-first = let front_length = length_front in drop-with_word (take wanted c) 0 wanted HEADER_SIZE (omega arith) (omega arith)

-- the first bytes behind a header, in a part and in its first part
take_take : (a w : ℕ) (xs : List ℕ) → a ≤ w → take a (take w xs) ≡ take a xs
take_take zero w xs h = refl
take_take (suc a) zero xs h = absurd (omega arith)
take_take (suc a) (suc w) [] h = refl
take_take (suc a) (suc w) (x ∷ xs) h = ap (λ ys. x ∷ ys) (take_take a w xs (omega arith))

nil_take : (w : ℕ) → take {A = ℕ} w [] ≡ []
nil_take zero = refl
nil_take (suc w) = refl

drop_take : (k w : ℕ) (xs : List ℕ) → drop k (take (k + w) xs) ≡ take w (drop k xs)
drop_take zero w xs = ap (λ n. take n xs) (let sum_is : 0 + w ≡ w = omega arith in sum_is)
drop_take (suc k) w [] = ap (λ n. drop {A = ℕ} (suc k) (take n [])) (let sum_is : suc k + w ≡ suc (k + w) = omega arith in sum_is) ∙ sym (nil_take w)
drop_take (suc k) w (x ∷ xs) = ap (λ n. drop (suc k) (take n (x ∷ xs))) (let sum_is : suc k + w ≡ suc (k + w) = omega arith in sum_is) ∙ drop_take k w xs

pub first_bytes : (asked wanted : ℕ) (c : List ℕ) → asked + HEADER_SIZE ≤ wanted → take asked (drop HEADER_SIZE (take wanted c)) ≡ take asked (drop HEADER_SIZE c)
first_bytes asked wanted c h =
    let wanted_is : wanted ≡ HEADER_SIZE + (wanted - HEADER_SIZE) = omega arith in
    ap (λ n. take asked (drop HEADER_SIZE (take n c))) wanted_is ∙ ap (take asked) (drop_take HEADER_SIZE (wanted - HEADER_SIZE) c)
    ∙ take_take asked (wanted - HEADER_SIZE) (drop HEADER_SIZE c) (omega arith)

-- the bytes behind the header of a part between others are that part's
pub bytes_within : (a c b : List ℕ) (p asked : ℕ) → length a ≡ p → asked + HEADER_SIZE ≤ length c
    → take asked (drop (p + HEADER_SIZE) (a ++ (c ++ b))) ≡ take asked (drop HEADER_SIZE c)
bytes_within a c b p asked e h =
    ap (take asked) (sym (drop-drop HEADER_SIZE p (a ++ (c ++ b))) ∙ ap (drop HEADER_SIZE) (drop_at a (c ++ b) p e)) ∙ go HEADER_SIZE c h where
      take_front : (n : ℕ) (xs : List ℕ) → n ≤ length xs → take n (xs ++ b) ≡ take n xs
      take_front zero xs h = refl
      take_front (suc n) [] h = absurd (omega arith)
      take_front (suc n) (x ∷ xs) h = ap (λ ys. x ∷ ys) (take_front n xs (omega arith))

      go : (k : ℕ) (c : List ℕ) → asked + k ≤ length c → take asked (drop k (c ++ b)) ≡ take asked (drop k c)
      go zero c h = take_front asked c (omega arith)
      go (suc k) [] h = absurd (omega arith)
      go (suc k) (x ∷ c) h = go k c (omega arith)

-- the place behind the new block
module _ (place size wanted end' : ℕ) (h : Holding) where
  abbrev pub new_end : ℕ
  new_end = place + cond (nat_lt MIN_FRAGMENT (size - wanted)) wanted size

  -- a block among those that tile a range begins at no place below it
  low : (q : ℕ) (F R : List Block) → Tiles q end' (F ++ (free_block place size ∷ R)) → q ≤ place
  low q [] R t = omega arith
  low q (b ∷ F) R t = let behind_low = low (q + b.size) F R t.2 in omega arith

  -- so the place after it is the next block's, or the first at the end
  pub after_new : (q : ℕ) (F R : List Block) → Tiles q end' (F ++ (free_block place size ∷ R))
      → place_after place end' (F ++ (cut_block wanted h (free_block place size) ++ R)) ≡ cond (new_end == end') 0 new_end
  after_new q [] R t = go (nat_lt MIN_FRAGMENT (size - wanted)) where
    go : (u : Bool) → place_after place end' (cond u (record { place = place; size = wanted; holding = Some h } ∷ free_block (place + wanted) (size - wanted) ∷ []) (record { place = place; size = size; holding = Some h } ∷ []) ++ R) ≡ cond (place + cond u wanted size == end') 0 (place + cond u wanted size)
    go true = cond-true (place == place) _ _ (eq-eqb place place refl)
    go false = cond-true (place == place) _ _ (eq-eqb place place refl)
  after_new q (b ∷ F) R t =
      let behind_low = low (q + b.size) F R t.2 in cond-false (b.place == place) _ _ (ne_eqb b.place place (λ z. omega arith)) ∙ after_new (q + b.size) F R t.2

-- the region with other parts in the place of one
abbrev pub laid_with : (after : List ℕ) (front others : List (List ℕ)) → AllWhole front → AllWhole others → after ≡ joined front ++ joined others → IsLaid after
laid_with after front others a b e = record { parts = front ++ others; is = e ∙ sym (joined-append front others); whole = whole-append front others a b }

pub blocks_with : (after : List ℕ) (place : ℕ) (front others : List (List ℕ)) (a : AllWhole front) (b : AllWhole others) (e : after ≡ joined front ++ joined others) → length (joined front) ≡ place → blocks_in after ≡ blocks_from 0 front ++ blocks_from place others
blocks_with after place front others a b e at = blocks_laid after (laid_with after front others a b e) ∙ blocks-append 0 front others
    ∙ ap (λ n. blocks_from 0 front ++ blocks_from n others) (let place_is : 0 + length (joined front) ≡ place = omega arith in place_is)

module _ (region : List ℕ) (place wanted : ℕ) (laid : IsLaid region) (small : length region < 2 ^ 32) (r : RoomAt place wanted (blocks_in region)) (u : Used)
    (large : u.asked + HEADER_SIZE ≤ wanted) (live : (u.owner == FREE_OWNER) ≡ false) (owner_small : u.owner < 2 ^ 32) (tag_small : u.tag < 2 ^ 32) where
  abbrev pub m : IsAmong region place r.front r.rest (free_block place r.size)
  m = among region laid r.front r.rest (free_block place r.size) r.is

  abbrev c : List ℕ
  c = m.part

  abbrev h : Holding
  h = used_holding u (drop (place + HEADER_SIZE) region)

  -- the part is as long as the free block, and stands in the region
  pub size_is : length c ≡ r.size
  size_is = ap (λ (b : Block). b.size) m.part_is

  pub region_is : region ≡ joined m.split.front ++ (c ++ joined m.others)
  region_is = m.split.is ∙ ap (λ cs. joined m.split.front ++ joined cs) m.rest_is

  whole : AllWhole (c ∷ m.others)
  whole = subst AllWhole m.rest_is m.split.rest_whole

  pub fits : place + r.size ≤ length region
  fits =
      let region_length = ap length region_is ∙ length-append (joined m.split.front) (c ++ joined m.others) in
      let behind_length = length-append c (joined m.others) in let front_length = m.split.at_is in let part_size = size_is in omega arith

  -- the word at the place tells the size of the block
  pub word_here : word_at region place ≡ r.size
  word_here = ap (λ xs. word_at xs place) region_is ∙ word_within (joined m.split.front) c (joined m.others) 0 place (let front_length = m.split.at_is in omega arith) (let part_large = whole.0 in omega arith) ∙ whole.1 ∙ size_is

  -- what is wanted lies in the block, and the block in the region
  pub inside : place + wanted ≤ length region
  inside = let block_fits = fits in let room_large = r.large in omega arith

  pub size_here : (size : ℕ) → size ≡ word_at region place → (wanted ≤ size) × (place + size ≤ length region)
  size_here size e = let size_told = e ∙ word_here in let block_fits = fits in let room_large = r.large in (omega arith, omega arith)

  tiles : Tiles 0 (length region) (r.front ++ (free_block place r.size ∷ r.rest))
  tiles = subst (Tiles 0 (length region)) r.is (subst (Tiles 0 (length region)) (sym (blocks_laid region laid)) (subst (λ n. Tiles 0 n (blocks_from 0 laid.parts)) (let region_length = ap length laid.is in omega arith) (tiles_laid 0 laid.parts laid.whole)))

  -- the blocks with the new one among them
  pub taken_is : take_at place wanted h (blocks_in region) ≡ r.front ++ (cut_block wanted h (free_block place r.size) ++ r.rest)
  taken_is = ap (take_at place wanted h) r.is ∙ take_at_is place r.size wanted h 0 (length region) r.front r.rest tiles

  pub bytes_are : take u.asked (drop (place + HEADER_SIZE) region) ≡ take u.asked (drop HEADER_SIZE c)
  bytes_are =
      let room_large = r.large in let part_size = size_is in
      ap (λ xs. take u.asked (drop (place + HEADER_SIZE) xs)) region_is
      ∙ bytes_within (joined m.split.front) c (joined m.others) place u.asked m.split.at_is (omega arith)

  asked_small : u.asked < 2 ^ 32
  asked_small = let room_large = r.large in let block_fits = fits in omega arith

  -- the whole block given
  module _ (after : List ℕ) (after_is : after ≡ with_use region place u.asked u.owner u.tag) (little : r.size - wanted ≤ MIN_FRAGMENT) where
    abbrev x : List ℕ
    x = given c u (whole.0) asked_small owner_small tag_small

    x_whole : AllWhole (x ∷ m.others)
    x_whole =
        let length_kept = length-given c u whole.0 asked_small owner_small tag_small in let part_large = whole.0 in
        (omega arith, told-given c u whole.0 asked_small owner_small tag_small ∙ whole.1 ∙ sym length_kept, whole.2)

    after_parts : after ≡ joined m.split.front ++ (x ++ joined m.others)
    after_parts =
        after_is ∙ ap (λ xs. with_use xs place u.asked u.owner u.tag) region_is
        ∙ used_within (joined m.split.front) c (joined m.others) place u.asked u.owner u.tag (sym m.split.at_is) (let part_large = whole.0 in omega arith)

    pub whole_laid : IsLaid after
    whole_laid = laid_with after m.split.front (x ∷ m.others) m.split.front_whole x_whole after_parts

    x_block : block_in place x ≡ record { place = place; size = r.size; holding = Some h }
    x_block =
        let block_is = block-given c u whole.0 asked_small owner_small tag_small place live in let part_size = size_is in let bytes_same = bytes_are in
        block_is ∙ (λ i. record { place = place; size = part_size i; holding = Some (record { owner = owner_in u.owner; tag = code_tag u.tag; asked = u.asked; bytes = sym bytes_same i }) })

    pub whole_blocks : blocks_in after ≡ take_at place wanted h (blocks_in region)
    whole_blocks =
        let length_kept = length-given c u whole.0 asked_small owner_small tag_small in
        blocks_with after place m.split.front (x ∷ m.others) m.split.front_whole x_whole after_parts m.split.at_is
        ∙ ap₂ ◌++◌ m.front_is (ap₂ ◌∷◌ x_block (ap (λ k. blocks_from (place + k) m.others) length_kept ∙ m.others_is))
        ∙ sym (taken_is ∙ ap (λ bs. r.front ++ (bs ++ r.rest)) (cond-false _ _ _ (le-ltb MIN_FRAGMENT (r.size - wanted) little)))

    pub whole_rover : cond (place + r.size == length region) 0 (place + r.size) ≡ place_after place (length region) (blocks_in after)
    whole_rover =
        sym (ap (place_after place (length region)) (whole_blocks ∙ taken_is) ∙ after_new place r.size wanted (length region) h 0 r.front r.rest tiles
        ∙ ap (λ n. cond (place + n == length region) 0 (place + n)) (cond-false (nat_lt MIN_FRAGMENT (r.size - wanted)) wanted r.size (le-ltb MIN_FRAGMENT (r.size - wanted) little)))

    pub whole_len : length after ≡ length region
    whole_len = ap length after_is ∙ length-with_use region place u.asked u.owner u.tag (let block_fits = fits in let room_large = r.large in omega arith)

  -- the block cut, and its first part given
  module _ (cut after : List ℕ) (cut_is : cut ≡ joined m.split.front ++ (first_part c wanted ++ (second_part c wanted ++ joined m.others)))
      (after_is : after ≡ with_use cut place u.asked u.owner u.tag) (much : MIN_FRAGMENT < r.size - wanted) where
    room : wanted + HEADER_SIZE ≤ length c
    room = let part_size = size_is in omega arith

    c_small : length c < 2 ^ 32
    c_small = let part_size = size_is in let block_fits = fits in omega arith

    wide : HEADER_SIZE ≤ wanted
    wide = omega arith

    abbrev a : List ℕ
    a = first_part c wanted

    abbrev b : List ℕ
    b = second_part c wanted

    a_len : length a ≡ wanted
    a_len = length-first c wanted wide room c_small

    b_len : length b ≡ length c - wanted
    b_len = length-second c wanted wide room c_small

    a_large : HEADER_SIZE ≤ length a
    a_large = let taken_length = a_len in omega arith

    abbrev y : List ℕ
    y = given a u a_large asked_small owner_small tag_small

    y_len : length y ≡ wanted
    y_len = length-given a u a_large asked_small owner_small tag_small ∙ a_len

    y_whole : AllWhole (y ∷ b ∷ m.others)
    y_whole =
        let given_length = y_len in let rest_length = b_len in let rest_fits = room in
        (omega arith, told-given a u a_large asked_small owner_small tag_small ∙ told-first c wanted wide room c_small ∙ sym given_length, (omega arith, told-second c wanted wide room c_small ∙ sym rest_length, whole.2))

    y_parts : after ≡ joined m.split.front ++ (y ++ (b ++ joined m.others))
    y_parts = after_is ∙ ap (λ xs. with_use xs place u.asked u.owner u.tag) cut_is
        ∙ used_within (joined m.split.front) a (b ++ joined m.others) place u.asked u.owner u.tag (sym m.split.at_is) (let taken_large = a_large in omega arith)

    pub cut_laid : IsLaid after
    cut_laid = laid_with after m.split.front (y ∷ b ∷ m.others) m.split.front_whole y_whole y_parts

    y_block : block_in place y ≡ record { place = place; size = wanted; holding = Some h }
    y_block =
        let block_is = block-given a u a_large asked_small owner_small tag_small place live in let taken_length = a_len in
        let bytes_same : take u.asked (drop HEADER_SIZE a) ≡ take u.asked (drop (place + HEADER_SIZE) region) =
        ap (take u.asked) (back-first c wanted wide room c_small) ∙ first_bytes u.asked wanted c large ∙ sym bytes_are in
        block_is ∙ (λ i. record { place = place; size = taken_length i; holding = Some (record { owner = owner_in u.owner; tag = code_tag u.tag; asked = u.asked; bytes = bytes_same i }) })

    b_block : block_in (place + length y) b ≡ free_block (place + wanted) (r.size - wanted)
    b_block = block-second c wanted wide room c_small (place + length y) ∙ ap₂ (λ p n. free_block (place + p) (n - wanted)) y_len size_is

    pub cut_blocks : blocks_in after ≡ take_at place wanted h (blocks_in region)
    cut_blocks =
        let given_length = y_len in let rest_length = b_len in let rest_fits = room in
        blocks_with after place m.split.front (y ∷ b ∷ m.others) m.split.front_whole y_whole y_parts m.split.at_is
        ∙ ap₂ ◌++◌ m.front_is (ap₂ ◌∷◌ y_block (ap₂ ◌∷◌ b_block (ap (λ z. blocks_from z m.others) (let behind_is : place + length y + length b ≡ place + length c = omega arith in behind_is) ∙ m.others_is)))
        ∙ sym (taken_is ∙ ap (λ bs. r.front ++ (bs ++ r.rest)) (cond-true _ _ _ (lt-ltb MIN_FRAGMENT (r.size - wanted) much)))

    pub cut_rover : cond (place + wanted == length region) 0 (place + wanted) ≡ place_after place (length region) (blocks_in after)
    cut_rover =
        sym (ap (place_after place (length region)) (cut_blocks ∙ taken_is) ∙ after_new place r.size wanted (length region) h 0 r.front r.rest tiles
        ∙ ap (λ n. cond (place + n == length region) 0 (place + n)) (cond-true (nat_lt MIN_FRAGMENT (r.size - wanted)) wanted r.size (lt-ltb MIN_FRAGMENT (r.size - wanted) much)))

    pub cut_len : length after ≡ length region
    cut_len =
        let after_length = ap length y_parts ∙ length-append (joined m.split.front) (y ++ (b ++ joined m.others)) in
        let given_and_rest = length-append y (b ++ joined m.others) in let rest_and_others = length-append b (joined m.others) in
        let region_length = ap length region_is ∙ length-append (joined m.split.front) (c ++ joined m.others) in
        let part_and_others = length-append c (joined m.others) in let given_length = y_len in let rest_length = b_len in let rest_fits = room in omega arith
