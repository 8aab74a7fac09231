-- A live slot's block with another tag or other bytes.
use Rattle.zone_rules.proofs.Common.{◌≡◌, ℕ, ◌+◌, ◌*◌, ◌/◌, ◌<◌, ◌≤◌, Bool, true, false, cond, List, [], ◌∷◌, ◌++◌, length, take, drop, map, Some, None, refl, sym, subst, ap, ap₂, ◌∙◌, arith, inl, inr, option_map, ◌==◌, cond-true, cond-false, false≢true, length-append}
use Rattle.zone_heap.specs.Rules.{AllFit, Block, FitsHolding, Holding, Lacks, Owner, Tag, Unique, block_size, bytes_of, is_held_by, retag_block, set_tag, HEADER_SIZE, word_at, WORD_SIZE}
use Rattle.zone_rules.proofs.OwnerLemmas.{lacks_held}
use Rattle.zone_heap.specs.Headers.{FREE_OWNER, with_word, block_in, holding_in, live_in, owner_in, code_tag, tag_code, ASKED_AT, OWNER_AT, TAG_AT, NEXT_AT, PREVIOUS_AT}
use Rattle.zone_heap.specs.Regions.{joined, blocks_in, blocks_from, parts_in, AllWhole, AreLinked, IsLaid, IsRing, last_place, ring_place}
use Rattle.zone_heap.proofs.WordLemmas.{word_same, word_other, length-with_word, drop-with_word, written_within}
use Rattle.zone_heap.proofs.{PartLemmas.parts_are, HomeLemmas.fit_at, HomeLemmas.lacks_at}
use Rattle.zone_heap.proofs.TakeLemmas.{laid_with, blocks_with, bytes_within}
use Rattle.zone_heap.proofs.LookLemmas.{IsFound, holding_found}

-- a region is laid out in one way only
laid_is : (region : List ℕ) (l : IsLaid region) → l.parts ≡ parts_in (length region) region
laid_is region l = sym (ap (parts_in (length region)) l.is ∙ parts_are (length region) l.parts (let region_length = ap length l.is in omega arith) l.whole)

-- a part of the same length and links in the place of another keeps the ring
linked_with : (e q p : ℕ) (front others : List (List ℕ)) (c d : List ℕ) → length d ≡ length c → word_at d NEXT_AT ≡ word_at c NEXT_AT → word_at d PREVIOUS_AT ≡ word_at c PREVIOUS_AT
    → AreLinked e q p (front ++ (c ∷ others)) → AreLinked e q p (front ++ (d ∷ others))
linked_with e q p [] others c d n a b l = (a ∙ l.0 ∙ ap (λ k. ring_place (p + k) e) (sym n), b ∙ l.1, subst (λ k. AreLinked e p (p + k) others) (sym n) l.2)
linked_with e q p (x ∷ front) others c d n a b l = (l.0, l.1, linked_with e p (p + length x) front others c d n a b l.2)

last_with : (q p : ℕ) (front others : List (List ℕ)) (c d : List ℕ) → length d ≡ length c
    → last_place q p (front ++ (d ∷ others)) ≡ last_place q p (front ++ (c ∷ others))
last_with q p [] others c d n = ap (λ k. last_place p (p + k) others) n
last_with q p (x ∷ front) others c d n = last_with p (p + length x) front others c d n

-- another part of the same length and links at a found block's place
module _ (region : List ℕ) (o : Owner) (place : ℕ) (f : IsFound region o place) (ring : IsRing region) (part after : List ℕ) (same : length part ≡ length f.part) (told : word_at part 0 ≡ word_at f.part 0) (next : word_at part NEXT_AT ≡ word_at f.part NEXT_AT) (previous : word_at part PREVIOUS_AT ≡ word_at f.part PREVIOUS_AT) (is : after ≡ joined f.split.front ++ (part ++ joined f.others)) where
  whole : AllWhole (f.part ∷ f.others)
  whole = subst AllWhole f.rest_is f.split.rest_whole

  part_whole : AllWhole (part ∷ f.others)
  part_whole = let part_large = f.large in (omega arith, told ∙ whole.1 ∙ sym same, whole.2)

  old_parts : ring.laid.parts ≡ f.split.front ++ (f.part ∷ f.others)
  old_parts = laid_is region ring.laid ∙ sym (laid_is region (laid_with region f.split.front (f.part ∷ f.others) f.split.front_whole whole (f.split.is ∙ ap (λ cs. joined f.split.front ++ joined cs) f.rest_is)))

  pub changed_len : length after ≡ length region
  changed_len =
      let after_length = ap length is ∙ length-append (joined f.split.front) (part ++ joined f.others) in
      let part_and_rest = length-append part (joined f.others) in
      let region_length = ap length (f.split.is ∙ ap (λ cs. joined f.split.front ++ joined cs) f.rest_is)
      ∙ length-append (joined f.split.front) (f.part ++ joined f.others) in
      let old_part_and_rest = length-append f.part (joined f.others) in omega arith

  pub changed_ring : IsRing after
  changed_ring = record {
    laid = laid_with after f.split.front (part ∷ f.others) f.split.front_whole part_whole is;
    linked = subst (λ e. AreLinked e (last_place 0 0 (f.split.front ++ (part ∷ f.others))) 0 (f.split.front ++ (part ∷ f.others))) (sym changed_len)
        (subst (λ q. AreLinked (length region) q 0 (f.split.front ++ (part ∷ f.others))) (sym (last_with 0 0 f.split.front f.others f.part part same))
        (linked_with (length region) (last_place 0 0 (f.split.front ++ (f.part ∷ f.others))) 0 f.split.front f.others f.part part same next previous (subst (λ cs. AreLinked (length region) (last_place 0 0 cs) 0 cs) old_parts ring.linked)));
  }

  pub changed_blocks : blocks_in after ≡ f.front ++ (block_in place part ∷ f.rest)
  changed_blocks =
      blocks_with after place f.split.front (part ∷ f.others) f.split.front_whole part_whole is f.split.at_is
      ∙ ap₂ ◌++◌ f.front_is (ap (λ bs. block_in place part ∷ bs) (ap (λ n. blocks_from (place + n) f.others) same ∙ f.others_is))

  -- that part as a block with another holding
  pub changed_block : (h : Holding) → word_at part OWNER_AT ≡ word_at f.part OWNER_AT → live_in part ≡ h
      → block_in place part ≡ record { place = f.block.place; size = f.block.size; holding = Some h }
  changed_block h owner said =
      let live : (word_at f.part OWNER_AT == FREE_OWNER) ≡ false = live_word (word_at f.part OWNER_AT == FREE_OWNER) (sym (ap (λ (b : Block). b.holding) f.block_is) ∙ f.holds) in
      let part_holds_live : holding_in part ≡ Some (live_in part) =
      cond-false (word_at part OWNER_AT == FREE_OWNER) None (Some (live_in part)) (ap (λ n. n == FREE_OWNER) owner ∙ live) in
      λ i. record { place = sym (ap (λ (b : Block). b.place) f.block_is) i; size = (same ∙ sym (ap (λ (b : Block). b.size) f.block_is)) i; holding = (part_holds_live ∙ ap Some said) i } where
        live_word : (t : Bool) → cond t None (Some (live_in f.part)) ≡ Some (live_in f.part) → t ≡ false
        live_word true e = cc
        live_word false e = refl

-- a change of one owner's blocks changes none where the owner has none, and else the one
map_none : (o : Owner) (g : Block → Block) (fixes : (b : Block) → is_held_by o b ≡ false → g b ≡ b) (bs : List Block) → Lacks o bs → map g bs ≡ bs
map_none o g fixes [] l = refl
map_none o g fixes (b ∷ bs) l = ap₂ ◌∷◌ (fixes b l.0) (map_none o g fixes bs l.1)

pub map_one : (o : Owner) (g : Block → Block) (fixes : (b : Block) → is_held_by o b ≡ false → g b ≡ b) (F R : List Block) (b : Block) → is_held_by o b ≡ true
    → Unique (F ++ (b ∷ R)) → map g (F ++ (b ∷ R)) ≡ F ++ (g b ∷ R)
map_one o g fixes [] R b held u = ap (λ bs. g b ∷ bs) (map_none o g fixes R (lacks_held o b.holding R held u.0))
map_one o g fixes (a ∷ F) R b held u = ap₂ ◌∷◌ (fixes a (other (is_held_by o a) refl)) (map_one o g fixes F R b held u.1) where
  other : (t : Bool) → is_held_by o a ≡ t → t ≡ false
  other true e = absurd (false≢true (sym (lacks_at o F R b (lacks_held o a.holding (F ++ (b ∷ R)) e u.0)) ∙ held))
  other false e = refl

-- the code of a tag is that tag's, and a word
pub code_back : (tag : Tag) → code_tag (tag_code tag) ≡ tag
code_back Tag.Static = refl
code_back Tag.Level = refl
code_back Tag.Cache = refl

code_small : (tag : Tag) → tag_code tag < 4294967296
code_small Tag.Static = omega arith
code_small Tag.Level = omega arith
code_small Tag.Cache = omega arith

-- another tag
module _ (region : List ℕ) (o : Owner) (place : ℕ) (f : IsFound region o place) (ring : IsRing region) (unique : Unique (blocks_in region)) (tag : Tag) where
  abbrev part : List ℕ
  part = with_word f.part TAG_AT (tag_code tag)

  len : length part ≡ length f.part
  len = let part_large = f.large in length-with_word f.part TAG_AT (tag_code tag) (omega arith)

  word : (k : ℕ) → (k + WORD_SIZE ≤ TAG_AT) → word_at part k ≡ word_at f.part k
  word k h = let part_large = f.large in word_other f.part TAG_AT (tag_code tag) k (omega arith) (inl (omega arith))

  behind : (k : ℕ) → NEXT_AT ≤ k → word_at part k ≡ word_at f.part k
  behind k h = let part_large = f.large in word_other f.part TAG_AT (tag_code tag) k (omega arith) (inr (omega arith))

  is : with_word region (place + TAG_AT) (tag_code tag) ≡ joined f.split.front ++ (part ++ joined f.others)
  is =
      let front_length = f.split.at_is in let part_large = f.large in
      ap (λ xs. with_word xs (place + TAG_AT) (tag_code tag)) (f.split.is ∙ ap (λ cs. joined f.split.front ++ joined cs) f.rest_is)
      ∙ written_within (joined f.split.front) f.part (joined f.others) TAG_AT (place + TAG_AT) (tag_code tag) (omega arith) (omega arith)

  pub tagged_ring : IsRing (with_word region (place + TAG_AT) (tag_code tag))
  tagged_ring = changed_ring _ _ _ f ring part _ len (word 0 (omega arith)) (behind NEXT_AT (omega arith)) (behind PREVIOUS_AT (omega arith)) is

  pub tagged_len : length (with_word region (place + TAG_AT) (tag_code tag)) ≡ length region
  tagged_len = changed_len _ _ _ f ring part _ len (word 0 (omega arith)) (behind NEXT_AT (omega arith)) (behind PREVIOUS_AT (omega arith)) is

  block_is : block_in place part ≡ retag_block o tag f.block
  block_is =
      let part_large = f.large in
      let tag_is : code_tag (word_at part TAG_AT) ≡ tag = ap code_tag (word_same f.part TAG_AT (tag_code tag) (omega arith) (code_small tag)) ∙ code_back tag in
      let asked_same = word ASKED_AT (omega arith) in let owner_same = word OWNER_AT (omega arith) in
      let bytes_same : drop HEADER_SIZE part ≡ drop HEADER_SIZE f.part = drop-with_word f.part TAG_AT (tag_code tag) HEADER_SIZE (omega arith) (omega arith) in
      let live_is : live_in part ≡ record { owner = owner_in (word_at f.part OWNER_AT); tag = tag; asked = word_at f.part ASKED_AT; bytes = take (word_at f.part ASKED_AT) (drop HEADER_SIZE f.part) } = λ i. record { owner = owner_in (owner_same i); tag = tag_is i; asked = asked_same i; bytes = take (asked_same i) (bytes_same i) } in
      changed_block _ _ _ f ring part _ len (word 0 (omega arith)) (behind NEXT_AT (omega arith)) (behind PREVIOUS_AT (omega arith)) is _ owner_same live_is
      ∙ sym (cond-true (is_held_by o f.block) _ _ f.held ∙ ap (λ x. record { place = f.block.place; size = f.block.size; holding = set_tag tag x }) f.holds)

  pub tagged_blocks : blocks_in (with_word region (place + TAG_AT) (tag_code tag)) ≡ map (retag_block o tag) (blocks_in region)
  tagged_blocks =
      changed_blocks _ _ _ f ring part _ len (word 0 (omega arith)) (behind NEXT_AT (omega arith)) (behind PREVIOUS_AT (omega arith)) is
      ∙ ap (λ b. f.front ++ (b ∷ f.rest)) block_is
      ∙ sym (ap (map (retag_block o tag)) f.is ∙ map_one o (retag_block o tag) (λ b e. cond-false (is_held_by o b) _ _ e) f.front f.rest f.block f.held (subst Unique f.is unique))

-- where the bytes of a live slot's block lie
module _ (region : List ℕ) (o : Owner) (place : ℕ) (f : IsFound region o place) (l m : ℕ) (fits : AllFit l m (blocks_in region)) where
  abbrev pub asked_of : ℕ
  asked_of = word_at f.part ASKED_AT

  -- they lie within the block, and are those that the rules name
  pub asked_fits : asked_of + HEADER_SIZE ≤ length f.part
  asked_fits =
      let holding_fits : FitsHolding l m f.block.size (Some (live_in f.part)) =
      subst (FitsHolding l m f.block.size) f.holds (fit_at l m f.front f.rest f.block (subst (AllFit l m) f.is fits)) in
      let block_length = ap (λ (b : Block). b.size) f.block_is in
      let size_fits : block_size asked_of ≤ f.block.size = holding_fits.0 in let rounded_up = round_up asked_of in
      omega arith where
        round_up : (n : ℕ) → n + HEADER_SIZE ≤ (n + 3) / WORD_SIZE * WORD_SIZE + HEADER_SIZE
        round_up n = omega arith

  pub bytes_found : bytes_of o (blocks_in region) ≡ Some (take asked_of (drop (place + HEADER_SIZE) region))
  bytes_found =
      let region_is = f.split.is ∙ ap (λ cs. joined f.split.front ++ joined cs) f.rest_is in
      let bytes_fit = asked_fits in
      ap (option_map (λ (h : Holding). h.bytes)) (holding_found region o place f)
      ∙ ap Some (sym (ap (λ xs. take asked_of (drop (place + HEADER_SIZE) xs)) region_is ∙ bytes_within (joined f.split.front) f.part (joined f.others) place asked_of f.split.at_is bytes_fit))
