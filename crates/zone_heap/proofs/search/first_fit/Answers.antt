use Rattle.zone_rules.proofs.Common.{arith, ◌≡◌, ◌+◌, ◌==◌, ◌<◌, ◌≤◌, length, Some, ap, sym, ◌∙◌, cond-true, cond-false, eq-eqb, ne_eqb, le-leb, lt-leb}
use Rattle.zone_heap.specs.{Regions.blocks_from, Walks.fit_from, Walks.run_place}
use Rattle.zone_heap.proofs.PartLemmas.{opened, less_left, head_fits, nothing_left, pinned_at, rest_same}
use Rattle.zone_heap.proofs.search.first_fit.Goals.{then-is_pinned, else-is_pinned+else-wanted-sum, then-sum-eq0, else-sum-eq0}
use Rattle.zone_heap.proofs.search.first_fit.Goals as goal

pub loop-at-init : goal.loop-at-init
loop-at-init c = record { split = c.requires.split; small = omega arith; few = omega arith; value = λ s. ap (λ cs. fit_from c.args.wanted 0 0 0 (blocks_from c.args.from cs)) (rest_same c.args.region.now c.args.from s c.requires.split) }

pub header_at-header-requires : goal.header_at-header-requires
header_at-header-requires c = head_fits c.args.region.now c.loop-at.at c.loop-at.invariant.split c.loop-at-test.true

pub loop-at-smaller : goal.loop-at-smaller
loop-at-smaller c = less_left c.args.region.now c.loop-at.at c.loop-at.invariant.split c.loop-at-test.true c.header_at-header.result c.header_at-header.ensures

pub returns-then-wanted-sum : goal.returns-then-wanted-sum
returns-then-wanted-sum c =
    let place = c.loop-at.at in let header = c.header_at-header.result in
    let block = opened c.args.region.now place c.loop-at.invariant.split c.loop-at-test.true header c.header_at-header.ensures in
    let pinned_told = c.is_pinned.ensures ∙ pinned_at c.args.region.now place c.loop-at.invariant.split header.size block header c.header_at-header.ensures in
    let length_step = block.len in
    let place_is : c.if-sum-eq0.place ≡ run_place c.loop-at.place c.loop-at.sum place = elim c.if-sum-eq0.branch [
      | then-sum-eq0 w ↦ w.place-is ∙ sym (cond-true (c.loop-at.sum == 0) place c.loop-at.place (eq-eqb _ _ w.if-sum-eq0.true))
      | else-sum-eq0 w ↦ w.place-is ∙ sym (cond-false (c.loop-at.sum == 0) place c.loop-at.place (ne_eqb _ _ w.if-sum-eq0.false))
    ] in
    let enough : c.args.wanted ≤ c.loop-at.sum + length block.part = omega arith in
    record {
      value = λ s. ap (λ n. Some (n, c.loop-at.end + 1)) place_is
          ∙ sym (c.loop-at.invariant.value s ∙ ap (fit_from c.args.wanted c.loop-at.place c.loop-at.sum c.loop-at.end) block.blocks ∙ cond-false _ _ _ (sym pinned_told ∙ c.if-is_pinned.false) ∙ cond-true _ _ _ (le-leb _ _ enough));
    }

pub loop-at-preserved : goal.loop-at-preserved
loop-at-preserved c =
    let place = c.loop-at.at in let header = c.header_at-header.result in
    let block = opened c.args.region.now place c.loop-at.invariant.split c.loop-at-test.true header c.header_at-header.ensures in
    let pinned_told = c.is_pinned.ensures ∙ pinned_at c.args.region.now place c.loop-at.invariant.split header.size block header c.header_at-header.ensures in
    let length_step = block.len in let header_within_part = block.large in let blocks_behind = blocks_from (place + header.size) block.next.rest in
    elim c.if-is_pinned.branch [
      | then-is_pinned w ↦ record {
        split = block.next;
        small = omega arith;
        few = omega arith;
        value = λ s. rw (w.place-is, w.sum-is) (c.loop-at.invariant.value s ∙ ap (fit_from c.args.wanted c.loop-at.place c.loop-at.sum c.loop-at.end) block.blocks ∙ cond-true _ _ _ (sym pinned_told ∙ w.if-is_pinned.true));
      }
      | else-is_pinned+else-wanted-sum w ↦
          let place_is : w.if-sum-eq0.place ≡ run_place c.loop-at.place c.loop-at.sum place = elim w.if-sum-eq0.branch [
            | then-sum-eq0 v ↦ v.place-is ∙ sym (cond-true (c.loop-at.sum == 0) place c.loop-at.place (eq-eqb _ _ v.if-sum-eq0.true))
            | else-sum-eq0 v ↦ v.place-is ∙ sym (cond-false (c.loop-at.sum == 0) place c.loop-at.place (ne_eqb _ _ v.if-sum-eq0.false))
          ] in
          let sum_below_wanted : c.loop-at.sum + length block.part < c.args.wanted = omega arith in
          record {
            split = block.next;
            small = omega arith;
            few = omega arith;
            value = λ s. rw (w.place-is, w.sum-is, w.from-sum.ensures, place_is) (c.loop-at.invariant.value s ∙ ap (fit_from c.args.wanted c.loop-at.place c.loop-at.sum c.loop-at.end) block.blocks ∙ cond-false _ _ _ (sym pinned_told ∙ w.if-is_pinned.false) ∙ cond-false _ _ _ (lt-leb _ _ sum_below_wanted) ∙ ap (λ n. fit_from c.args.wanted (run_place c.loop-at.place c.loop-at.sum place) (c.loop-at.sum + n) (c.loop-at.end + 1) blocks_behind) length_step);
          }
    ]

pub returns : goal.returns
returns c = record { value = λ s. sym (c.loop-at.invariant.value s ∙ ap (λ cs. fit_from c.args.wanted c.loop-at.place c.loop-at.sum c.loop-at.end (blocks_from c.loop-at.at cs)) (nothing_left c.args.region.now c.loop-at.at c.loop-at.invariant.split (omega arith))) }
