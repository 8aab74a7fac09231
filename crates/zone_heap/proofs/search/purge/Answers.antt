use Rattle.zone_rules.proofs.Common.{arith, ◌≡◌, ◌++◌, ◌≤◌, ◌∷◌, [], ◌∙◌, ap, ap₂, sym, refl, length, take, drop, map, count_by, List, ℕ, zero, suc, append-nil}
use Rattle.zone_heap.specs.{Rules.Block, Rules.is_purgeable, Rules.purge_block, Regions.blocks_from}
use Rattle.zone_heap.proofs.WordLemmas.{length-with_use}
use Rattle.zone_heap.proofs.PartLemmas.{split_le, opened, head_fits, nothing_left, rest_same, front_same, split_laid, purgeable_at}
use Rattle.zone_heap.proofs.PurgeLemmas.{purged_blocks, passed_step, freed_step, slot_there}
use Rattle.zone_heap.proofs.search.purge.Goals.{then-is_purgeable, else-is_purgeable}
use Rattle.zone_heap.specs.Headers.{FREE_OWNER}
use Rattle.zone_heap.proofs.search.purge.Goals as goal

pub loop-at-init : goal.loop-at-init
loop-at-init c = record {
  purged = record {
    split = c.requires.split;
    len = refl;
    alike = (refl, refl);
    home = c.requires.home;
    low = omega arith;
    few = omega arith;
    front = λ s. ap (blocks_from 0) (front_same c.args.region.now c.args.from c.requires.split s) ∙ sym (append-nil (blocks_from 0 s.front));
    rest = λ s. ap (blocks_from c.args.from) (rest_same c.args.region.now c.args.from c.requires.split s);
    count_is = λ s. refl;
  };
  within = omega arith;
}

pub header_at-header-requires : goal.header_at-header-requires
header_at-header-requires c = head_fits c.loop-at.region c.loop-at.at c.loop-at.invariant.purged.split c.loop-at-test.true

pub free_at-requires-clause-fits : goal.free_at-requires-clause-fits
free_at-requires-clause-fits c = head_fits c.loop-at.region c.loop-at.at c.loop-at.invariant.purged.split c.loop-at-test.true

pub free_at-requires-clause-slot : goal.free_at-requires-clause-slot
free_at-requires-clause-slot c =
    let purged_so_far = c.loop-at.invariant.purged in let header = c.header_at-header.result in
    let block = opened c.loop-at.region c.loop-at.at purged_so_far.split c.loop-at-test.true header c.header_at-header.ensures in
    let purgeable_there = sym (purgeable_at c.loop-at.region c.loop-at.at purged_so_far.split header.size block header c.header_at-header.ensures)
    ∙ sym c.is_purgeable.ensures ∙ c.if-is_purgeable.true in
    slot_there _ _ _ _ _ _ _ _ purged_so_far header.size block purgeable_there

pub loop-at-smaller : goal.loop-at-smaller
loop-at-smaller c =
    let purged_so_far = c.loop-at.invariant.purged in let header = c.header_at-header.result in
    let block = opened c.loop-at.region c.loop-at.at purged_so_far.split c.loop-at-test.true header c.header_at-header.ensures in
    let block_large = block.large in let block_fits = block.fits in
    elim c.if-is_purgeable.branch [
      | then-is_purgeable w ↦ (let length_kept = ap length w.region-is ∙ ap length w.free_at.ensures.region ∙ length-with_use c.loop-at.region c.loop-at.at 0 FREE_OWNER 0 (omega arith) in omega arith)
      | else-is_purgeable w ↦ (let length_kept = ap length w.region-is in omega arith)
    ]

pub loop-at-preserved : goal.loop-at-preserved
loop-at-preserved c =
    let purged_so_far = c.loop-at.invariant.purged in let place = c.loop-at.at in let header = c.header_at-header.result in
    let block = opened c.loop-at.region place purged_so_far.split c.loop-at-test.true header c.header_at-header.ensures in
    let purgeable_is = c.is_purgeable.ensures ∙ purgeable_at c.loop-at.region place purged_so_far.split header.size block header c.header_at-header.ensures in
    record {
      purged = elim c.if-is_purgeable.branch [
        | then-is_purgeable w ↦ rw (w.region-is, w.free_at.ensures.region, w.homes-is, w.count-is)
            (freed_step _ _ _ _ _ _ _ _ purged_so_far header.size block (sym purgeable_is ∙ w.if-is_purgeable.true) w.free_at.new.homes w.free_at.ensures.home)
        | else-is_purgeable w ↦ rw (w.region-is, w.homes-is, w.count-is)
            (passed_step _ _ _ _ _ _ _ _ purged_so_far header.size block (sym purgeable_is ∙ w.if-is_purgeable.false))
      ];
      within = omega arith;
    }

-- so many blocks, or all of them
whole : (bs : List Block) (k n : ℕ) → [] ≡ drop k bs → k ≤ n → (take n bs ≡ take k bs) × (drop n bs ≡ drop k bs)
whole [] zero zero e h = (refl, refl)
whole [] zero (suc n) e h = (refl, refl)
whole [] (suc k) zero e h = absurd (omega arith)
whole [] (suc k) (suc n) e h = (refl, refl)
whole (b ∷ bs) zero n e h = cc
whole (b ∷ bs) (suc k) zero e h = absurd (omega arith)
whole (b ∷ bs) (suc k) (suc n) e h = let behind_same = whole bs k n e (omega arith) in (ap (λ xs. b ∷ xs) behind_same.0, behind_same.1)

pub returns-else-passed-most-clause-laid : goal.returns-else-passed-most-clause-laid
returns-else-passed-most-clause-laid c = split_laid c.loop-at.region c.loop-at.at c.loop-at.invariant.purged.split

pub returns-else-passed-most-clause-blocks : goal.returns-else-passed-most-clause-blocks
returns-else-passed-most-clause-blocks c = λ s.
    let purged_so_far = c.loop-at.invariant.purged in let within_most = c.loop-at.invariant.within in
    let all_passed : c.loop-at.passed ≡ c.args.most = omega arith in let blocks_ahead = blocks_from c.args.from s.rest in
    purged_blocks _ _ _ _ _ _ _ _ purged_so_far s
    ∙ ap (λ n. blocks_from 0 s.front ++ (map purge_block (take n blocks_ahead) ++ drop n blocks_ahead)) all_passed

pub returns-else-passed-most-clause-count : goal.returns-else-passed-most-clause-count
returns-else-passed-most-clause-count c = λ s.
    let within_most = c.loop-at.invariant.within in let all_passed : c.loop-at.passed ≡ c.args.most = omega arith in
    c.loop-at.invariant.purged.count_is s ∙ ap (λ n. count_by is_purgeable (take n (blocks_from c.args.from s.rest))) all_passed

pub returns-else-passed-most-clause-bound : goal.returns-else-passed-most-clause-bound
returns-else-passed-most-clause-bound c = let purged_so_far = c.loop-at.invariant.purged in let count_few = purged_so_far.few in let passed_low = purged_so_far.low in let at_inside = split_le c.loop-at.region c.loop-at.at purged_so_far.split in let length_kept = purged_so_far.len in omega arith

pub returns-after-loop-at-clause-laid : goal.returns-after-loop-at-clause-laid
returns-after-loop-at-clause-laid c = split_laid c.loop-at.region c.loop-at.at c.loop-at.invariant.purged.split

pub returns-after-loop-at-clause-blocks : goal.returns-after-loop-at-clause-blocks
returns-after-loop-at-clause-blocks c = λ s.
    let purged_so_far = c.loop-at.invariant.purged in
    let none_left = ap (blocks_from c.loop-at.at) (nothing_left c.loop-at.region c.loop-at.at purged_so_far.split (omega arith)) in
    let blocks_ahead = blocks_from c.args.from s.rest in
    let most_is_all = whole blocks_ahead c.loop-at.passed c.args.most (sym none_left ∙ purged_so_far.rest s) c.loop-at.invariant.within in
    purged_blocks _ _ _ _ _ _ _ _ purged_so_far s
    ∙ ap₂ (λ xs ys. blocks_from 0 s.front ++ (map purge_block xs ++ ys)) (sym most_is_all.0) (sym most_is_all.1)

pub returns-after-loop-at-clause-count : goal.returns-after-loop-at-clause-count
returns-after-loop-at-clause-count c = λ s.
    let purged_so_far = c.loop-at.invariant.purged in
    let none_left = ap (blocks_from c.loop-at.at) (nothing_left c.loop-at.region c.loop-at.at purged_so_far.split (omega arith)) in
    let most_is_all = whole (blocks_from c.args.from s.rest) c.loop-at.passed c.args.most (sym none_left ∙ purged_so_far.rest s) c.loop-at.invariant.within in
    purged_so_far.count_is s ∙ ap (count_by is_purgeable) (sym most_is_all.0)

pub returns-after-loop-at-clause-bound : goal.returns-after-loop-at-clause-bound
returns-after-loop-at-clause-bound c = let purged_so_far = c.loop-at.invariant.purged in let count_few = purged_so_far.few in let passed_low = purged_so_far.low in let at_inside = split_le c.loop-at.region c.loop-at.at purged_so_far.split in let length_kept = purged_so_far.len in omega arith
