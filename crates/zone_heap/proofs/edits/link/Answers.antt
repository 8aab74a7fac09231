use Rattle.zone_rules.proofs.Common.{arith, rules, ◌≡◌, ◌<◌, ◌≤◌, ◌+◌, ◌++◌, ◌∷◌, [], ◌∙◌, ap, ap₂, sym, subst, refl, length, ℕ, List, append-nil, append_assoc, length-append}
use Rattle.zone_heap.specs.{Rules.word_at, Headers.with_word, Headers.block_in, Rules.HEADER_SIZE, Headers.NEXT_AT, Headers.PREVIOUS_AT}
use Rattle.zone_heap.specs.Regions.{joined, blocks_from, blocks_in, AllWhole, AreLinked, last_place, ring_place, IsSplit, IsLaid, IsRing}
use Rattle.zone_heap.proofs.WordLemmas.{written_within, written_in_front, length-with_word}
use Rattle.zone_heap.proofs.PartLemmas.{split_le, Opened, opened_word, head_fits, nothing_left, split_first, blocks_laid, blocks_split, opened_is, whole_rest, split_next, blocks_next, length_after}
use Rattle.zone_heap.proofs.EditLemmas.{LinkedTo, relinked, length-relinked, word-relinked, next-relinked, previous-relinked, block-relinked, length-mid, linked-append, last-append, last-any, length-ringed, word-ringed, block-ringed, linked-ringed}
use Rattle.zone_heap.proofs.edits.link.Goals as goal

pub loop-at-init : goal.loop-at-init
loop-at-init c = record { split = split_first c.args.region.now c.requires.laid; low = omega arith; len = refl; linked = tt; last = refl; blocks = refl }

pub word_at-requires : goal.word_at-requires
word_at-requires c = let header_fits = head_fits c.loop-at.region c.loop-at.at c.loop-at.invariant.split c.loop-at-test.true in omega arith

pub overflow_cast-ring_place : goal.overflow_cast-ring_place
overflow_cast-ring_place c =
    let block = opened_word c.loop-at.region c.loop-at.at c.loop-at.invariant.split c.loop-at-test.true c.word_at.result c.word_at.ensures in
    let block_fits = block.fits in let length_kept = c.loop-at.invariant.len in let ring_bound = c.ring_place.ensures.bound in
    let place_small : c.ring_place.result < 4294967296 = omega arith in search rules

pub set_word-requires : goal.set_word-requires
set_word-requires c = let header_fits = head_fits c.loop-at.region c.loop-at.at c.loop-at.invariant.split c.loop-at-test.true in omega arith

pub set_word-requires-in-loop-at : goal.set_word-requires-in-loop-at
set_word-requires-in-loop-at c =
    let header_fits = head_fits c.loop-at.region c.loop-at.at c.loop-at.invariant.split c.loop-at-test.true in
    let length_kept = ap length c.set_word.ensures ∙ length-with_word c.loop-at.region (c.loop-at.at + NEXT_AT) c.ring_place.result (omega arith) in
    omega arith

-- one block more linked
module _ (region : List ℕ) (at n : ℕ) (s : IsSplit region at) (o : Opened region at s n) (previous : ℕ) (end' : ℕ) (len : length region ≡ end') (small : end' < 4294967296) (low : previous < 4294967296) (ring : ring_place (at + n) end' < 4294967296) (linked : AreLinked end' 0 0 s.front) (last : last_place 0 0 s.front ≡ previous) where
  abbrev part : List ℕ
  part = relinked o.part (ring_place (at + n) end') previous

  large : HEADER_SIZE ≤ length o.part
  large = let part_length = o.len in let block_large = o.large in omega arith

  same : length part ≡ n
  same = length-relinked o.part (ring_place (at + n) end') previous large ∙ o.len

  told : word_at part 0 ≡ n
  told = word-relinked o.part (ring_place (at + n) end') previous large 0 (omega arith) ∙ (whole_rest region at n s o).1 ∙ o.len

  abbrev after : List ℕ
  after = with_word (with_word region (at + NEXT_AT) (ring_place (at + n) end')) (at + PREVIOUS_AT) previous

  after_is : after ≡ joined s.front ++ (part ++ joined o.next.rest)
  after_is =
      let front_length = s.at_is in let part_large = large in
      let middle_length = length-mid o.part (ring_place (at + n) end') previous large in
      ap (λ xs. with_word (with_word xs (at + NEXT_AT) (ring_place (at + n) end')) (at + PREVIOUS_AT) previous) (opened_is region at n s o)
      ∙ ap (λ xs. with_word xs (at + PREVIOUS_AT) previous) (written_within (joined s.front) o.part (joined o.next.rest) NEXT_AT (at + NEXT_AT) (ring_place (at + n) end') (omega arith) (omega arith))
      ∙ written_within (joined s.front) (with_word o.part NEXT_AT (ring_place (at + n) end')) (joined o.next.rest) PREVIOUS_AT (at + PREVIOUS_AT) previous (omega arith) (omega arith)

  abbrev next : IsSplit after (at + n)
  next = split_next region at n s o part same told after after_is

  next_len : length after ≡ length region
  next_len = length_after region at n s o part same told after after_is

  next_linked : AreLinked end' 0 0 next.front
  next_linked =
      let front_length = s.at_is in let part_length = same in
      linked-append end' 0 0 s.front (part ∷ []) linked (
        next-relinked o.part (ring_place (at + n) end') previous large ring
            ∙ ap (λ p. ring_place p end') (let behind_is : at + n ≡ 0 + length (joined s.front) + length part = omega arith in behind_is),
        previous-relinked o.part (ring_place (at + n) end') previous large low ∙ sym last,
        tt,
      )

  next_last : last_place 0 0 next.front ≡ at
  next_last = let front_length = s.at_is in last-append 0 0 s.front part ∙ omega arith

  next_blocks : blocks_in after ≡ blocks_in region
  next_blocks =
      let front_length = s.at_is in let blocks_behind = blocks_from (at + n) o.next.rest in
      blocks_split after (at + n) next ∙ ap (λ bs. bs ++ blocks_behind) (blocks_next region at n s o part same told after after_is)
      ∙ append_assoc (blocks_from 0 s.front) (block_in at part ∷ []) blocks_behind
      ∙ ap (λ b. blocks_from 0 s.front ++ (b ∷ blocks_behind)) (block-relinked o.part (ring_place (at + n) end') previous large at)
      ∙ ap (λ bs. blocks_from 0 s.front ++ bs) (sym o.blocks) ∙ sym (blocks_split region at s)

-- the ring closed
record Closed (region : List ℕ) (previous : ℕ) : Type 0 where
  ring : IsRing (with_word region PREVIOUS_AT previous)
  blocks : blocks_in (with_word region PREVIOUS_AT previous) ≡ blocks_in region
  len : length (with_word region PREVIOUS_AT previous) ≡ length region

closed : (region : List ℕ) (at previous : ℕ) (s : IsSplit region at) → s.rest ≡ [] → 0 < at → previous < 4294967296 → AreLinked (length region) 0 0 s.front
    → last_place 0 0 s.front ≡ previous → Closed region previous
closed region at previous s none pos low linked last = go s.front refl s.front_whole linked last where
  go : (front : List (List ℕ)) → s.front ≡ front → AllWhole front → AreLinked (length region) 0 0 front → last_place 0 0 front ≡ previous → Closed region previous
  go [] e w l m = absurd (let front_empty = ap (λ cs. length (joined cs)) (sym e) in let front_length = s.at_is in omega arith)
  go (c ∷ cs) e w l m =
      let large : HEADER_SIZE ≤ length c = w.0 in
      let region_is : region ≡ c ++ joined cs = s.is ∙ ap₂ (λ xs ys. joined xs ++ joined ys) e none ∙ append-nil (c ++ joined cs) in
      let ringed_part = with_word c PREVIOUS_AT previous in let length_same = length-ringed c previous large in
      let parts_are : with_word region PREVIOUS_AT previous ≡ ringed_part ++ joined cs =
      ap (λ xs. with_word xs PREVIOUS_AT previous) region_is ∙ written_in_front c (joined cs) PREVIOUS_AT previous (omega arith) in
      let laid_after_write : IsLaid (with_word region PREVIOUS_AT previous) =
      record { parts = ringed_part ∷ cs; is = parts_are; whole = (omega arith, word-ringed c previous large 0 (omega arith) ∙ w.1 ∙ sym length_same, w.2) } in
      let len = length-with_word region PREVIOUS_AT previous (let region_length = ap length region_is ∙ length-append c (joined cs) in omega arith) in
      record {
        ring = record {
          laid = laid_after_write;
          linked = subst (λ n. AreLinked n (last_place 0 0 (ringed_part ∷ cs)) 0 (ringed_part ∷ cs)) (sym len) (subst (λ n. AreLinked (length region) n 0 (ringed_part ∷ cs)) (sym m ∙ last-any 0 0 0 c ringed_part cs (sym length_same)) (linked-ringed c previous large (length region) 0 0 cs low l));
        };
        blocks = blocks_laid (with_word region PREVIOUS_AT previous) laid_after_write
            ∙ ap₂ (λ b n. b ∷ blocks_from (0 + n) cs) (block-ringed c previous large 0) length_same
            ∙ sym (blocks_laid region (record { parts = c ∷ cs; is = region_is; whole = w }));
        len = len;
      }

pub loop-at-smaller : goal.loop-at-smaller
loop-at-smaller c =
    let so_far = c.loop-at.invariant in
    let block = opened_word c.loop-at.region c.loop-at.at so_far.split c.loop-at-test.true c.word_at.result c.word_at.ensures in
    let block_large = block.large in let block_fits = block.fits in
    let header_fits = head_fits c.loop-at.region c.loop-at.at so_far.split c.loop-at-test.true in
    let next_written_length = ap length c.set_word.ensures ∙ length-with_word c.loop-at.region (c.loop-at.at + NEXT_AT) c.ring_place.result (omega arith) in
    let previous_written_length = ap length c.set_word-in-loop-at.ensures
    ∙ length-with_word c.set_word.new.region (c.loop-at.at + PREVIOUS_AT) c.loop-at.previous (omega arith) in
    omega arith

pub set_word-requires-2 : goal.set_word-requires-2
set_word-requires-2 c = let header_fits = head_fits c.args.region.now 0 (split_first c.args.region.now c.requires.laid) c.requires.some in
    let length_kept = c.loop-at.invariant.len in omega arith

pub loop-at-preserved : goal.loop-at-preserved
loop-at-preserved c =
    let so_far = c.loop-at.invariant in let place = c.loop-at.at in let size = c.word_at.result in let region = c.loop-at.region in
    let end' = length region in let block = opened_word region place so_far.split c.loop-at-test.true size c.word_at.ensures in
    let block_fits = block.fits in let low = so_far.low in let len = so_far.len in
    let region_written : c.set_word-in-loop-at.new.region
    ≡ with_word (with_word region (place + NEXT_AT) (ring_place (place + size) end')) (place + PREVIOUS_AT) c.loop-at.previous = c.set_word-in-loop-at.ensures
    ∙ ap (λ xs. with_word xs (place + PREVIOUS_AT) c.loop-at.previous) (c.set_word.ensures ∙ ap (with_word region (place + NEXT_AT)) c.ring_place.ensures.value) in
    let ring : ring_place (place + size) end' < 4294967296 =
    subst (λ k. k < 4294967296) c.ring_place.ensures.value (let ring_bound = c.ring_place.ensures.bound in omega arith) in
    let end_small : end' < 4294967296 = omega arith in let lower : c.loop-at.previous < 4294967296 = omega arith in
    let length_step = next_len region place size so_far.split block c.loop-at.previous end' refl end_small lower ring so_far.linked so_far.last in
    subst (λ xs. LinkedTo c.args.region.now xs (place + size) place) (sym region_written) (record {
      split = next region place size so_far.split block c.loop-at.previous end' refl end_small lower ring so_far.linked so_far.last;
      low = omega arith;
      len = length_step ∙ len;
      linked = subst (λ k. AreLinked k 0 0
          (next region place size so_far.split block c.loop-at.previous end' refl end_small lower ring so_far.linked so_far.last).front)
          (sym length_step) (next_linked region place size so_far.split block c.loop-at.previous end' refl end_small lower ring so_far.linked so_far.last);
      last = next_last region place size so_far.split block c.loop-at.previous end' refl end_small lower ring so_far.linked so_far.last;
      blocks = next_blocks region place size so_far.split block c.loop-at.previous end' refl end_small lower ring so_far.linked so_far.last ∙ so_far.blocks;
    })

pub returns : goal.returns
returns c =
    let so_far = c.loop-at.invariant in
    let none_left = nothing_left c.loop-at.region c.loop-at.at so_far.split (omega arith) in
    let len = so_far.len in let place_within_region = split_le c.loop-at.region c.loop-at.at so_far.split in let low = so_far.low in
    let ring_closed = closed c.loop-at.region c.loop-at.at c.loop-at.previous so_far.split none_left (omega arith) (omega arith) so_far.linked so_far.last in
    record {
      ring = subst IsRing (sym c.set_word-2.ensures) ring_closed.ring;
      blocks = ap blocks_in c.set_word-2.ensures ∙ ring_closed.blocks ∙ so_far.blocks;
      len = ap length c.set_word-2.ensures ∙ ring_closed.len ∙ len;
    }
