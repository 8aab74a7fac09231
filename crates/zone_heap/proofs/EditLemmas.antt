-- Free neighbours joined, and blocks linked, as the bytes of their parts.
use Rattle.zone_rules.proofs.Common.{◌≡◌, ℕ, ◌+◌, ◌<◌, ◌≤◌, ◌^◌, Bool, true, false, cond, ◌&&◌, List, [], ◌∷◌, ◌++◌, length, take, drop, Some, None, refl, sym, subst, ap, ◌∙◌, arith, inl, inr, ◌==◌, cond-true, cond-false, and_from, and_parts, length-append}
use Rattle.zone_heap.specs.Rules.{Block, Holding, free_block, is_free, join_free, join_on, join_pair, HEADER_SIZE, word_at, WORD_SIZE}
use Rattle.zone_heap.specs.Headers.{FREE_OWNER, with_word, block_in, holding_in, live_in, owner_in, code_tag, ASKED_AT, OWNER_AT, TAG_AT, NEXT_AT, PREVIOUS_AT}
use Rattle.zone_heap.specs.Regions.{joined, blocks_in, blocks_from, AreLinked, last_place, ring_place, IsSplit}
use Rattle.zone_heap.proofs.WordLemmas.{word_same, word_other, word_in_front, length-with_word, drop-with_word}

-- how far a pass over the region has joined its blocks: the block at a place ends at the next
pub record JoinedTo (old region : List ℕ) (at next : ℕ) : Type 0 where
  pub split : IsSplit region at
  pub inside : at < length region
  pub size : next ≡ at + word_at region at
  pub len : length region ≡ length old
  pub value : join_free (blocks_in old) ≡ blocks_from 0 split.front ++ join_free (blocks_from at split.rest)

-- how far a pass over the region has linked its blocks
pub record LinkedTo (old region : List ℕ) (at previous : ℕ) : Type 0 where
  pub split : IsSplit region at
  pub low : previous ≤ at
  pub len : length region ≡ length old
  pub linked : AreLinked (length region) 0 0 split.front
  pub last : last_place 0 0 split.front ≡ previous
  pub blocks : blocks_in region ≡ blocks_in old

module _ (b c : Block) where
  abbrev both : Block
  both = free_block b.place (b.size + c.size)

  -- two free neighbours join like one free block of both sizes
  pub join_absorb : (bs : List Block) → is_free b ≡ true → is_free c ≡ true → join_free (b ∷ c ∷ bs) ≡ join_free (both ∷ bs)
  join_absorb bs f g = go (join_free bs) where
    pair : (js : List Block) → join_pair b c js ≡ both ∷ js
    pair js = cond-true (is_free b && is_free c) (both ∷ js) (b ∷ c ∷ js) (and_from (is_free b) (is_free c) f g)

    go : (js : List Block) → join_on b (join_on c js) ≡ join_on both js
    go [] = pair []
    go (d ∷ js) = step (is_free d) refl where
      step : (t : Bool) → is_free d ≡ t → join_on b (join_on c (d ∷ js)) ≡ join_on both (d ∷ js)
      step true e =
          let last_joined : join_on c (d ∷ js) ≡ free_block c.place (c.size + d.size) ∷ js =
          cond-true (is_free c && is_free d) _ _ (and_from (is_free c) (is_free d) g e) in
          let front_joined : join_on b (free_block c.place (c.size + d.size) ∷ js) ≡ free_block b.place (b.size + (c.size + d.size)) ∷ js =
          cond-true (is_free b && true) _ _ (and_from (is_free b) true f refl) in
          let both_joined : join_on both (d ∷ js) ≡ free_block b.place (b.size + c.size + d.size) ∷ js = cond-true (is_free d) _ _ e in
          let sum : b.size + (c.size + d.size) ≡ b.size + c.size + d.size = omega arith in
          ap (join_on b) last_joined ∙ front_joined ∙ ap (λ n. free_block b.place n ∷ js) sum ∙ sym both_joined
      step false e =
          let not_both_free : (is_free c && is_free d) ≡ false = ap (λ t. is_free c && t) e ∙ ap (λ t. t && false) g in
          let last_apart : join_on c (d ∷ js) ≡ c ∷ d ∷ js = cond-false (is_free c && is_free d) _ _ not_both_free in
          let both_apart : join_on both (d ∷ js) ≡ both ∷ d ∷ js = cond-false (is_free d) _ _ e in
          ap (join_on b) last_apart ∙ pair (d ∷ js) ∙ sym both_apart

  -- two blocks that are not both free stay apart
  pub join_passes : (bs : List Block) → (is_free b && is_free c) ≡ false → join_free (b ∷ c ∷ bs) ≡ b ∷ join_free (c ∷ bs)
  join_passes bs apart = go (join_free bs) where
    go : (js : List Block) → join_on b (join_on c js) ≡ b ∷ join_on c js
    go [] = cond-false (is_free b && is_free c) _ _ apart
    go (d ∷ js) = step (is_free c && is_free d) refl where
      step : (t : Bool) → (is_free c && is_free d) ≡ t
          → join_on b (cond t (free_block c.place (c.size + d.size) ∷ js) (c ∷ d ∷ js)) ≡ b ∷ cond t (free_block c.place (c.size + d.size) ∷ js) (c ∷ d ∷ js)
      step true e = let both_free = and_parts (is_free c) (is_free d) e in cond-false (is_free b && true) _ _ (ap (λ t. is_free b && t) (sym both_free.0) ∙ apart)
      step false e = cond-false (is_free b && is_free c) _ _ apart

-- the bytes of a block say the same where its words and what is behind its header are the same
pub same_block : (p : ℕ) (c d : List ℕ) → length d ≡ length c → word_at d ASKED_AT ≡ word_at c ASKED_AT → word_at d OWNER_AT ≡ word_at c OWNER_AT → word_at d TAG_AT ≡ word_at c TAG_AT
    → drop HEADER_SIZE d ≡ drop HEADER_SIZE c → block_in p d ≡ block_in p c
same_block p c d l a o t e = λ i. record {
  place = p;
  size = l i;
  holding = cond (o i == FREE_OWNER) None (Some (record { owner = owner_in (o i); tag = code_tag (t i); asked = a i; bytes = take (a i) (e i) }));
}

-- a part of two
abbrev pub two_parts : List ℕ → List ℕ → List ℕ
two_parts c d = with_word (c ++ d) 0 (length c + length d)

module _ (c d : List ℕ) (large : HEADER_SIZE ≤ length c) where
  pub length-two : length (two_parts c d) ≡ length c + length d
  length-two = let joined_length = length-append c d in length-with_word (c ++ d) 0 (length c + length d) (omega arith) ∙ joined_length

  pub told-two : length c + length d < 2 ^ 32 → word_at (two_parts c d) 0 ≡ length c + length d
  told-two h = word_same (c ++ d) 0 (length c + length d) (let joined_length = length-append c d in omega arith) h

  -- where the first of the two is free, both are one free block
  pub block-two : (p : ℕ) → is_free (block_in p c) ≡ true → block_in p (two_parts c d) ≡ free_block p (length c + length d)
  block-two p f =
      let joined_length = length-append c d in
      let owner : word_at (two_parts c d) OWNER_AT ≡ word_at c OWNER_AT =
      word_other (c ++ d) 0 (length c + length d) OWNER_AT (omega arith) (inr (omega arith)) ∙ word_in_front c d OWNER_AT (omega arith) in
      let holds_nothing : holding_in (two_parts c d) ≡ None = nothing (two_parts c d) (ap (λ n. n == FREE_OWNER) owner ∙ told (word_at c OWNER_AT == FREE_OWNER) (live_in c) f) in
      let size = length-two in
      λ i. record { place = p; size = size i; holding = holds_nothing i } where
        nothing : (e : List ℕ) → (word_at e OWNER_AT == FREE_OWNER) ≡ true → holding_in e ≡ None
        nothing e t = cond-true (word_at e OWNER_AT == FREE_OWNER) None (Some (live_in e)) t

        told : (t : Bool) (h : Holding) → is_free (record { place = p; size = length c; holding = cond t None (Some h) }) ≡ true → t ≡ true
        told true h e = refl
        told false h e = e

-- a part with other links
abbrev pub relinked : List ℕ → ℕ → ℕ → List ℕ
relinked c next previous = with_word (with_word c NEXT_AT next) PREVIOUS_AT previous

module _ (c : List ℕ) (next previous : ℕ) (large : HEADER_SIZE ≤ length c) where
  abbrev pub mid : List ℕ
  mid = with_word c NEXT_AT next

  pub length-mid : length mid ≡ length c
  length-mid = length-with_word c NEXT_AT next (omega arith)

  pub length-relinked : length (relinked c next previous) ≡ length c
  length-relinked = let middle_length = length-mid in length-with_word mid PREVIOUS_AT previous (omega arith) ∙ middle_length

  -- the words before the links stay
  pub word-relinked : (k : ℕ) → k + WORD_SIZE ≤ NEXT_AT → word_at (relinked c next previous) k ≡ word_at c k
  word-relinked k h = let middle_length = length-mid in
      word_other mid PREVIOUS_AT previous k (omega arith) (inl (omega arith)) ∙ word_other c NEXT_AT next k (omega arith) (inl (omega arith))

  pub next-relinked : next < 2 ^ 32 → word_at (relinked c next previous) NEXT_AT ≡ next
  next-relinked h = let middle_length = length-mid in word_other mid PREVIOUS_AT previous NEXT_AT (omega arith) (inl (omega arith)) ∙ word_same c NEXT_AT next (omega arith) h

  pub previous-relinked : previous < 2 ^ 32 → word_at (relinked c next previous) PREVIOUS_AT ≡ previous
  previous-relinked h = let middle_length = length-mid in word_same mid PREVIOUS_AT previous (omega arith) h

  -- links are no part of what a block is
  pub block-relinked : (p : ℕ) → block_in p (relinked c next previous) ≡ block_in p c
  block-relinked p =
      let middle_length = length-mid in
      same_block p c (relinked c next previous) length-relinked (word-relinked ASKED_AT (omega arith)) (word-relinked OWNER_AT (omega arith)) (word-relinked TAG_AT (omega arith))
      (drop-with_word mid PREVIOUS_AT previous HEADER_SIZE (omega arith) (omega arith) ∙ drop-with_word c NEXT_AT next HEADER_SIZE (omega arith) (omega arith))

-- the first part with another previous place
module _ (c : List ℕ) (previous : ℕ) (large : HEADER_SIZE ≤ length c) where
  pub length-ringed : length (with_word c PREVIOUS_AT previous) ≡ length c
  length-ringed = length-with_word c PREVIOUS_AT previous (omega arith)

  pub word-ringed : (k : ℕ) → k + WORD_SIZE ≤ PREVIOUS_AT → word_at (with_word c PREVIOUS_AT previous) k ≡ word_at c k
  word-ringed k h = word_other c PREVIOUS_AT previous k (omega arith) (inl (omega arith))

  pub block-ringed : (p : ℕ) → block_in p (with_word c PREVIOUS_AT previous) ≡ block_in p c
  block-ringed p = same_block p c (with_word c PREVIOUS_AT previous) length-ringed (word-ringed ASKED_AT (omega arith)) (word-ringed OWNER_AT (omega arith))
      (word-ringed TAG_AT (omega arith)) (drop-with_word c PREVIOUS_AT previous HEADER_SIZE (omega arith) (omega arith))

  pub linked-ringed : (e p q : ℕ) (cs : List (List ℕ)) → previous < 2 ^ 32 → AreLinked e q p (c ∷ cs) → AreLinked e previous p (with_word c PREVIOUS_AT previous ∷ cs)
  linked-ringed e p q cs h l =
      let length_kept = length-ringed in
      (word-ringed NEXT_AT (omega arith) ∙ l.0 ∙ ap (λ k. ring_place (p + k) e) (sym length_kept), word_same c PREVIOUS_AT previous (omega arith) h, subst (λ k. AreLinked e p (p + k) cs) (sym length_kept) l.2)

-- linked parts behind linked parts are linked
pub linked-append : (e q p : ℕ) (xs ys : List (List ℕ)) → AreLinked e q p xs → AreLinked e (last_place q p xs) (p + length (joined xs)) ys
    → AreLinked e q p (xs ++ ys)
linked-append e q p [] ys a b = subst (λ n. AreLinked e q n ys) (let place_is : p + length (joined []) ≡ p = omega arith in place_is) b
linked-append e q p (c ∷ xs) ys a b = (a.0, a.1, linked-append e p (p + length c) xs ys a.2 (subst (λ n. AreLinked e (last_place p (p + length c) xs) n ys) (let joined_length = length-append c (joined xs) in omega arith) b))

-- the last place, with one part more
pub last-append : (q p : ℕ) (xs : List (List ℕ)) (c : List ℕ) → last_place q p (xs ++ (c ∷ [])) ≡ p + length (joined xs)
last-append q p [] c = omega arith
last-append q p (d ∷ xs) c = last-append p (p + length d) xs c ∙ (let joined_length = length-append d (joined xs) in omega arith)

pub last-any : (q r p : ℕ) (c : List ℕ) (d : List ℕ) (cs : List (List ℕ)) → length c ≡ length d → last_place q p (c ∷ cs) ≡ last_place r p (d ∷ cs)
last-any q r p c d cs e = ap (λ n. last_place p (p + n) cs) e
