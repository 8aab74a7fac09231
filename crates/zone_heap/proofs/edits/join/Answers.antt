use Rattle.zone_rules.proofs.Common.{arith, rules, ◌≡◌, ◌<◌, ◌≤◌, ◌+◌, ◌-◌, ◌++◌, ◌∷◌, [], ◌&&◌, ◌∙◌, ap, ap₂, sym, subst, refl, length, drop, true, false, ℕ, List, and_parts, append_assoc, length-append}
use Rattle.zone_heap.specs.Rules.{is_free, join_free, HEADER_SIZE, word_at}
use Rattle.zone_heap.specs.Headers.{with_word, header_in, block_in, is_free_header}
use Rattle.zone_heap.specs.Regions.{joined, blocks_from, IsSplit}
use Rattle.zone_heap.proofs.WordLemmas.{written_within, length-with_word, word_same}
use Rattle.zone_heap.proofs.PartLemmas.{Opened, opened_word, head_fits, nothing_left, split_first, split_laid, blocks_laid, blocks_split, blocks-append, opened_is, whole_rest, free_told}
use Rattle.zone_heap.proofs.EditLemmas.{JoinedTo, join_absorb, join_passes, two_parts, length-two, told-two, block-two}
use Rattle.zone_heap.proofs.edits.join.Goals as goal

pub word_at-next-requires : goal.word_at-next-requires
word_at-next-requires c = let header_fits = head_fits c.args.region.now 0 (split_first c.args.region.now c.requires.laid) c.requires.some in omega arith

pub loop-next-init : goal.loop-next-init
loop-next-init c = record {
  split = split_first c.args.region.now c.requires.laid;
  inside = c.requires.some;
  size = let size_told = c.word_at-next.ensures in omega arith;
  len = refl;
  value = ap join_free (blocks_laid c.args.region.now c.requires.laid);
}

-- the block at the place, and the one behind it
module _ (region : List ℕ) (at next : ℕ) (s : IsSplit region at) (inside : at < length region) (size : next ≡ at + word_at region at) where
  abbrev first : Opened region at s (word_at region at)
  first = opened_word region at s inside (word_at region at) refl

  abbrev behind : IsSplit region next
  behind = record { front = first.next.front; rest = first.next.rest; is = first.next.is; at_is = first.next.at_is ∙ sym size; front_whole = first.next.front_whole; rest_whole = first.next.rest_whole }

  module _ (more : next < length region) where
    abbrev second : Opened region next behind (word_at region next)
    second = opened_word region next behind more (word_at region next) refl

    blocks_are : blocks_from at s.rest ≡ block_in at first.part ∷ block_in next second.part ∷ blocks_from (next + word_at region next) second.next.rest
    blocks_are = first.blocks ∙ ap (λ n. block_in at first.part ∷ blocks_from n first.next.rest) (sym size) ∙ ap (λ bs. block_in at first.part ∷ bs) second.blocks

    bounds : (at + HEADER_SIZE ≤ length region) × (next + HEADER_SIZE ≤ length region) × (next + word_at region next ≤ length region) × (HEADER_SIZE ≤ word_at region next) × (HEADER_SIZE ≤ word_at region at)
    bounds = let first_large = first.large in let first_fits = first.fits in let second_large = second.large in let second_fits = second.fits in
        (omega arith, omega arith, second_fits, second_large, first_large)

    tests : (is_free_header (header_in (drop at region)) && is_free_header (header_in (drop next region))) ≡ (is_free (block_in at first.part) && is_free (block_in next second.part))
    tests = ap₂ ◌&&◌ (ap is_free_header first.header ∙ sym (free_told at first.part)) (ap is_free_header second.header ∙ sym (free_told next second.part))

    -- the two blocks made one
    module _ (n : ℕ) (n_is : n ≡ length first.part + length second.part) (small : length first.part + length second.part < 4294967296) where
      abbrev both : List ℕ
      both = two_parts first.part second.part

      large : HEADER_SIZE ≤ length first.part
      large = let part_length = first.len in let block_large = first.large in omega arith

      after_is : with_word region at n ≡ joined s.front ++ (both ++ joined second.next.rest)
      after_is =
          let part_large = large in let front_length = s.at_is in let both_length = length-append first.part second.part in
          let whole : region ≡ joined s.front ++ ((first.part ++ second.part) ++ joined second.next.rest) =
          opened_is region at (word_at region at) s first ∙ ap (λ cs. joined s.front ++ (first.part ++ joined cs)) second.rest
          ∙ ap (λ xs. joined s.front ++ xs) (sym (append_assoc first.part second.part (joined second.next.rest))) in
          ap₂ (λ xs k. with_word xs at k) whole n_is ∙ written_within (joined s.front) (first.part ++ second.part) (joined second.next.rest) 0 at (length first.part + length second.part) (omega arith) (omega arith)

      abbrev joint : IsSplit (with_word region at n) at
      joint = record {
        front = s.front;
        rest = both ∷ second.next.rest;
        is = after_is;
        at_is = s.at_is;
        front_whole = s.front_whole;
        rest_whole = (let both_length = length-two first.part second.part large in let part_large = large in omega arith, told-two first.part second.part large small ∙ sym (length-two first.part second.part large), (whole_rest region next (word_at region next) behind second).2);
      }

      joint_len : length (with_word region at n) ≡ length region
      joint_len = length-with_word region at n (let header_fits = bounds.0 in omega arith)

      joint_word : word_at (with_word region at n) at ≡ n
      joint_word = word_same region at n (let header_fits = bounds.0 in omega arith) (let size_is = n_is in omega arith)

      joint_value : is_free (block_in at first.part) ≡ true → is_free (block_in next second.part) ≡ true
          → join_free (blocks_from at s.rest) ≡ join_free (blocks_from at joint.rest)
      joint_value f g =
          let both_length = length-two first.part second.part large in let first_length = first.len in
          let second_length = second.len in let next_is = size in
          ap join_free blocks_are ∙ join_absorb (block_in at first.part) (block_in next second.part) (blocks_from (next + word_at region next) second.next.rest) f g
          ∙ ap₂ (λ x p. join_free (x ∷ blocks_from p second.next.rest)) (sym (block-two first.part second.part large at f)) (let behind_is : next + word_at region next ≡ at + length both = omega arith in behind_is)

    passed_value : (is_free (block_in at first.part) && is_free (block_in next second.part)) ≡ false
        → blocks_from 0 s.front ++ join_free (blocks_from at s.rest) ≡ blocks_from 0 behind.front ++ join_free (blocks_from next behind.rest)
    passed_value f =
        let front_length = s.at_is in let blocks_behind = blocks_from (next + word_at region next) second.next.rest in
        let joined_apart = ap join_free blocks_are ∙ join_passes (block_in at first.part) (block_in next second.part) blocks_behind f
        ∙ ap (λ bs. block_in at first.part ∷ join_free bs) (sym second.blocks) in
        let front_blocks = ap (blocks_from 0) first.front ∙ blocks-append 0 s.front (first.part ∷ [])
        ∙ ap (λ p. blocks_from 0 s.front ++ (block_in p first.part ∷ [])) (let place_is : 0 + length (joined s.front) ≡ at = omega arith in place_is) in
        ap (λ bs. blocks_from 0 s.front ++ bs) joined_apart ∙ sym (append_assoc (blocks_from 0 s.front) (block_in at first.part ∷ []) (join_free (blocks_from next behind.rest))) ∙ ap (λ bs. bs ++ join_free (blocks_from next behind.rest)) (sym front_blocks)

  last_value : length region ≤ next → join_free (blocks_from at s.rest) ≡ blocks_from at s.rest
  last_value le =
      let no_parts_left = nothing_left region next behind le in
      let blocks_are_one = first.blocks ∙ ap (λ cs. block_in at first.part ∷ blocks_from (at + word_at region at) cs) no_parts_left in
      ap join_free blocks_are_one ∙ sym blocks_are_one

pub word_at-requires : goal.word_at-requires
word_at-requires c = let so_far = c.loop-next.invariant in let bounds_hold = bounds _ _ _ so_far.split so_far.inside so_far.size c.loop-next-test.true in
    let next_fits = bounds_hold.1 in omega arith

pub are_free-requires-clause-first : goal.are_free-requires-clause-first
are_free-requires-clause-first c = let so_far = c.loop-next.invariant in (bounds _ _ _ so_far.split so_far.inside so_far.size c.loop-next-test.true).0

pub are_free-requires-clause-second : goal.are_free-requires-clause-second
are_free-requires-clause-second c = let so_far = c.loop-next.invariant in (bounds _ _ _ so_far.split so_far.inside so_far.size c.loop-next-test.true).1

-- the size of the joined block
grown : (region : List ℕ) (at next : ℕ) (s : IsSplit region at) (inside : at < length region) (size : next ≡ at + word_at region at) (more : next < length region) (n : ℕ) → n ≡ word_at region next → next + n - at ≡ length (first region at next s inside size).part + length (second region at next s inside size more).part
grown region at next s inside size more n e =
    let first_length = (first region at next s inside size).len in
    let second_length = (second region at next s inside size more).len in omega arith

pub overflow_cast-after-then-are_free : goal.overflow_cast-after-then-are_free
overflow_cast-after-then-are_free c =
    let so_far = c.loop-next.invariant in
    let bounds_hold = bounds _ _ _ so_far.split so_far.inside so_far.size c.loop-next-test.true in
    let next_fits = bounds_hold.2 in let size_told = c.word_at.ensures in let length_kept = so_far.len in
    let size_small : c.loop-next.next + c.word_at.result - c.loop-next.at < 4294967296 = omega arith in
    search rules

pub set_word-requires : goal.set_word-requires
set_word-requires c = let so_far = c.loop-next.invariant in let bounds_hold = bounds _ _ _ so_far.split so_far.inside so_far.size c.loop-next-test.true in
    let header_fits = bounds_hold.0 in omega arith

pub loop-next-smaller-then-are_free : goal.loop-next-smaller-then-are_free
loop-next-smaller-then-are_free c =
    let so_far = c.loop-next.invariant in
    let bounds_hold = bounds _ _ _ so_far.split so_far.inside so_far.size c.loop-next-test.true in
    let header_fits = bounds_hold.0 in let next_large = bounds_hold.3 in let size_told = c.word_at.ensures in
    let length_kept = ap length c.set_word.ensures
    ∙ length-with_word c.loop-next.region c.loop-next.at (c.loop-next.next + c.word_at.result - c.loop-next.at) (omega arith) in
    omega arith

pub loop-next-smaller : goal.loop-next-smaller
loop-next-smaller c =
    let so_far = c.loop-next.invariant in
    let bounds_hold = bounds _ _ _ so_far.split so_far.inside so_far.size c.loop-next-test.true in
    let next_large = bounds_hold.3 in let size_told = c.word_at.ensures in omega arith

pub loop-next-preserved-then-are_free : goal.loop-next-preserved-then-are_free
loop-next-preserved-then-are_free c =
    let so_far = c.loop-next.invariant in let region = c.loop-next.region in let place = c.loop-next.at in
    let next = c.loop-next.next in let next_inside = c.loop-next-test.true in let size_joined = next + c.word_at.result - place in
    let bounds_hold = bounds _ _ _ so_far.split so_far.inside so_far.size next_inside in
    let next_fits = bounds_hold.2 in let size_told = c.word_at.ensures in let length_kept = so_far.len in
    let size_is = grown _ _ _ so_far.split so_far.inside so_far.size next_inside c.word_at.result size_told in
    let joint_small : length (first _ _ _ so_far.split so_far.inside so_far.size).part + length (second _ _ _ so_far.split so_far.inside so_far.size next_inside).part < 4294967296 = omega arith in
    let free = and_parts _ _ (sym (tests _ _ _ so_far.split so_far.inside so_far.size next_inside) ∙ sym c.are_free.ensures ∙ c.if-are_free.true) in
    let joint_length = joint_len _ _ _ so_far.split so_far.inside so_far.size next_inside size_joined size_is joint_small in
    let word_written = joint_word _ _ _ so_far.split so_far.inside so_far.size next_inside size_joined size_is joint_small in
    let next_is = so_far.size in
    subst (λ xs. JoinedTo c.args.region.now xs place (next + c.word_at.result)) (sym c.set_word.ensures) (record {
      split = joint _ _ _ so_far.split so_far.inside so_far.size next_inside size_joined size_is joint_small;
      inside = let inside_before = so_far.inside in omega arith;
      size = omega arith;
      len = joint_length ∙ length_kept;
      value = so_far.value ∙ ap (λ bs. blocks_from 0 so_far.split.front ++ bs) (joint_value _ _ _ so_far.split so_far.inside so_far.size next_inside size_joined size_is joint_small free.0 free.1);
    })

pub loop-next-preserved : goal.loop-next-preserved
loop-next-preserved c =
    let so_far = c.loop-next.invariant in let next_inside = c.loop-next-test.true in
    record {
      split = behind _ _ _ so_far.split so_far.inside so_far.size;
      inside = next_inside;
      size = ap (λ k. c.loop-next.next + k) c.word_at.ensures;
      len = so_far.len;
      value = so_far.value ∙ passed_value _ _ _ so_far.split so_far.inside so_far.size next_inside (sym (tests _ _ _ so_far.split so_far.inside so_far.size next_inside) ∙ sym c.are_free.ensures ∙ c.if-are_free.false);
    }

pub returns : goal.returns
returns c =
    let so_far = c.loop-next.invariant in let region = c.loop-next.region in
    let last = last_value region c.loop-next.at c.loop-next.next so_far.split so_far.inside so_far.size (omega arith) in
    record {
      laid = split_laid region c.loop-next.at so_far.split;
      blocks = blocks_split region c.loop-next.at so_far.split ∙ ap (λ bs. blocks_from 0 so_far.split.front ++ bs) (sym last) ∙ sym so_far.value;
      len = so_far.len;
    }
