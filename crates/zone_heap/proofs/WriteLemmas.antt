-- A live slot's block with other bytes.
use Rattle.zone_rules.proofs.Common.{◌≡◌, ℕ, zero, suc, ◌+◌, ◌≤◌, List, [], ◌∷◌, ◌++◌, length, take, drop, map, refl, sym, subst, ap, ap₂, ◌∙◌, arith, cond-true, cond-false, length-append, length-take, length-drop, append_assoc, take_at, drop_at, get_or_append_left, get_or-take}
use Rattle.zone_heap.specs.Rules.{Owner, Unique, is_held_by, write_block, write_holding, HEADER_SIZE, word_at, WORD_SIZE}
use Rattle.zone_heap.specs.Headers.{block_in, live_in, owner_in, code_tag, ASKED_AT, OWNER_AT, TAG_AT, NEXT_AT, PREVIOUS_AT}
use Rattle.zone_heap.specs.Regions.{joined, blocks_in, IsRing}
use Rattle.zone_heap.proofs.{WordLemmas.same_word, LookLemmas.IsFound}
use Rattle.zone_heap.proofs.ChangeLemmas.{changed_ring, changed_len, changed_blocks, changed_block, map_one}

-- the region up to a byte of a part between others, and from that byte on
take_in : (a c b : List ℕ) (k : ℕ) → k ≤ length c → take (length a + k) (a ++ (c ++ b)) ≡ a ++ take k c
take_in [] c b k h = ap (λ n. take n (c ++ b)) (let sum_is : 0 + k ≡ k = omega arith in sum_is) ∙ front c k h where
  front : (c : List ℕ) (k : ℕ) → k ≤ length c → take k (c ++ b) ≡ take k c
  front c zero h = refl
  front [] (suc k) h = absurd (omega arith)
  front (x ∷ c) (suc k) h = ap (λ ys. x ∷ ys) (front c k (omega arith))
take_in (y ∷ a) c b k h = ap (λ n. take n (y ∷ (a ++ (c ++ b)))) (let sum_is : suc (length a) + k ≡ suc (length a + k) = omega arith in sum_is)
    ∙ ap (λ ys. y ∷ ys) (take_in a c b k h)

drop_in : (a c b : List ℕ) (k : ℕ) → k ≤ length c → drop (length a + k) (a ++ (c ++ b)) ≡ drop k c ++ b
drop_in [] c b k h = ap (λ n. drop n (c ++ b)) (let sum_is : 0 + k ≡ k = omega arith in sum_is) ∙ front c k h where
  front : (c : List ℕ) (k : ℕ) → k ≤ length c → drop k (c ++ b) ≡ drop k c ++ b
  front c zero h = refl
  front [] (suc k) h = absurd (omega arith)
  front (x ∷ c) (suc k) h = front c k (omega arith)
drop_in (y ∷ a) c b k h = ap (λ n. drop n (y ∷ (a ++ (c ++ b)))) (let sum_is : suc (length a) + k ≡ suc (length a + k) = omega arith in sum_is) ∙ drop_in a c b k h

-- other bytes
module _ (region : List ℕ) (o : Owner) (place : ℕ) (f : IsFound region o place) (ring : IsRing region) (unique : Unique (blocks_in region)) (w after : List ℕ) (len : length w ≡ word_at f.part ASKED_AT) (fits : word_at f.part ASKED_AT + HEADER_SIZE ≤ length f.part) (is : after ≡ take (place + HEADER_SIZE) region ++ (w ++ drop (place + HEADER_SIZE + word_at f.part ASKED_AT) region)) where
  abbrev asked : ℕ
  asked = word_at f.part ASKED_AT

  abbrev part : List ℕ
  part = take HEADER_SIZE f.part ++ (w ++ drop (HEADER_SIZE + asked) f.part)

  front_len : length (take HEADER_SIZE f.part) ≡ HEADER_SIZE
  front_len = let part_large = f.large in simp length-take (omega arith)

  -- the part is as long as before, and keeps its header
  same : length part ≡ length f.part
  same =
      let header_and_rest = length-append (take HEADER_SIZE f.part) (w ++ drop (HEADER_SIZE + asked) f.part) in
      let bytes_and_behind = length-append w (drop (HEADER_SIZE + asked) f.part) in
      let behind_length = length-drop (HEADER_SIZE + asked) f.part in let header_length = front_len in omega arith

  word : (k : ℕ) → k + WORD_SIZE ≤ HEADER_SIZE → word_at part k ≡ word_at f.part k
  word k h = let header_length = front_len in same_word part f.part k (λ j a b. get_or_append_left (take HEADER_SIZE f.part) (w ++ drop (HEADER_SIZE + asked) f.part) 0 j (omega arith) ∙ get_or-take HEADER_SIZE f.part j 0 (omega arith))

  parts : after ≡ joined f.split.front ++ (part ++ joined f.others)
  parts =
      let whole = f.split.is ∙ ap (λ cs. joined f.split.front ++ joined cs) f.rest_is in
      let front_length = f.split.at_is in let part_large = f.large in let front = joined f.split.front in
      let other_parts = joined f.others in
      let front_taken : take (place + HEADER_SIZE) region ≡ front ++ take HEADER_SIZE f.part = ap₂ take (let place_is : place + HEADER_SIZE ≡ length front + HEADER_SIZE = omega arith in place_is) whole ∙ take_in front f.part other_parts HEADER_SIZE (omega arith) in
      let behind_dropped : drop (place + HEADER_SIZE + asked) region ≡ drop (HEADER_SIZE + asked) f.part ++ other_parts = ap₂ drop (let place_is : place + HEADER_SIZE + asked ≡ length front + (HEADER_SIZE + asked) = omega arith in place_is) whole ∙ drop_in front f.part other_parts (HEADER_SIZE + asked) (omega arith) in
      is ∙ ap₂ (λ x y. x ++ (w ++ y)) front_taken behind_dropped ∙ append_assoc front (take HEADER_SIZE f.part) (w ++ (drop (HEADER_SIZE + asked) f.part ++ other_parts))
      ∙ ap (λ x. front ++ x) (ap (λ x. take HEADER_SIZE f.part ++ x) (sym (append_assoc w (drop (HEADER_SIZE + asked) f.part) other_parts)) ∙ sym (append_assoc (take HEADER_SIZE f.part) (w ++ drop (HEADER_SIZE + asked) f.part) other_parts))

  pub written_ring : IsRing after
  written_ring = changed_ring region o place f ring part after same (word 0 (omega arith)) (word NEXT_AT (omega arith)) (word PREVIOUS_AT (omega arith)) parts

  pub written_len : length after ≡ length region
  written_len = changed_len region o place f ring part after same (word 0 (omega arith)) (word NEXT_AT (omega arith)) (word PREVIOUS_AT (omega arith)) parts

  -- as a block it holds the other bytes
  block_is : block_in place part ≡ write_block o w f.block
  block_is =
      let asked_same = word ASKED_AT (omega arith) in let owner_same = word OWNER_AT (omega arith) in let tag_same = word TAG_AT (omega arith) in
      let body_is : drop HEADER_SIZE part ≡ w ++ drop (HEADER_SIZE + asked) f.part =
      drop_at (take HEADER_SIZE f.part) (w ++ drop (HEADER_SIZE + asked) f.part) HEADER_SIZE front_len in
      let bytes : take (word_at part ASKED_AT) (drop HEADER_SIZE part) ≡ w = ap₂ take asked_same body_is ∙ take_at w (drop (HEADER_SIZE + asked) f.part) asked len in
      let live_is : live_in part ≡ record { owner = owner_in (word_at f.part OWNER_AT); tag = code_tag (word_at f.part TAG_AT); asked = word_at f.part ASKED_AT; bytes = w } =
      λ i. record { owner = owner_in (owner_same i); tag = code_tag (tag_same i); asked = asked_same i; bytes = bytes i } in
      changed_block region o place f ring part after same (word 0 (omega arith)) (word NEXT_AT (omega arith)) (word PREVIOUS_AT (omega arith)) parts _ owner_same live_is
      ∙ sym (cond-true (is_held_by o f.block) _ _ f.held ∙ ap (λ x. record { place = f.block.place; size = f.block.size; holding = write_holding w x }) f.holds)

  pub written_blocks : blocks_in after ≡ map (write_block o w) (blocks_in region)
  written_blocks =
      changed_blocks region o place f ring part after same (word 0 (omega arith)) (word NEXT_AT (omega arith)) (word PREVIOUS_AT (omega arith)) parts
      ∙ ap (λ b. f.front ++ (b ∷ f.rest)) block_is
      ∙ sym (ap (map (write_block o w)) f.is ∙ map_one o (write_block o w) (λ b e. cond-false (is_held_by o b) _ _ e) f.front f.rest f.block f.held (subst Unique f.is unique))
