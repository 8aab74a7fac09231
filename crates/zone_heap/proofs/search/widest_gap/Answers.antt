use Rattle.zone_rules.proofs.Common.{arith, ◌+◌, ◌∙◌, ap, sym, max, cond-true, cond-false}
use Rattle.zone_heap.specs.{Regions.blocks_from, Walks.widest_from}
use Rattle.zone_heap.proofs.PartLemmas.{opened, less_left, head_fits, nothing_left, split_first, blocks_laid, pinned_at}
use Rattle.zone_heap.proofs.search.widest_gap.Goals.{After-is_pinned, then-is_pinned, else-is_pinned}
use Rattle.zone_heap.proofs.search.widest_gap.Goals as goal

pub loop-at-init : goal.loop-at-init
loop-at-init c = record { split = split_first c.args.region.now c.requires.laid; small = omega arith; value = ap (widest_from 0 0) (blocks_laid c.args.region.now c.requires.laid) }

pub header_at-header-requires : goal.header_at-header-requires
header_at-header-requires c = head_fits c.args.region.now c.loop-at.at c.loop-at.invariant.split c.loop-at-test.true

pub loop-at-smaller : goal.loop-at-smaller
loop-at-smaller c = less_left c.args.region.now c.loop-at.at c.loop-at.invariant.split c.loop-at-test.true c.header_at-header.result c.header_at-header.ensures

pub loop-at-preserved : goal.loop-at-preserved
loop-at-preserved c =
    let place = c.loop-at.at in let best_so_far = c.loop-at.best in let run = c.loop-at.run in let header = c.header_at-header.result in
    let block = opened c.args.region.now place c.loop-at.invariant.split c.loop-at-test.true header c.header_at-header.ensures in
    let pinned_told = c.is_pinned.ensures ∙ pinned_at c.args.region.now place c.loop-at.invariant.split header.size block header c.header_at-header.ensures in
    let blocks_behind = blocks_from (place + header.size) block.next.rest in
    let step = c.loop-at.invariant.value ∙ ap (widest_from best_so_far run) block.blocks in
    let length_step = block.len in
    elim c.if-is_pinned.branch [
      | then-is_pinned w ↦ record {
        split = block.next;
        small = omega arith;
        value = rw (w.best-is, w.run-is) (step ∙ cond-true _ _ _ (sym pinned_told ∙ w.if-is_pinned.true));
      }
      | else-is_pinned w ↦ record {
        split = block.next;
        small = omega arith;
        value = rw (w.best-is, w.run-is, w.max-best.ensures, w.from-run.ensures) (step ∙ cond-false _ _ _ (sym pinned_told ∙ w.if-is_pinned.false) ∙ ap (λ n. widest_from (max best_so_far (run + n)) (run + n) blocks_behind) length_step);
      }
    ]

pub returns : goal.returns
returns c = sym (c.loop-at.invariant.value ∙ ap (λ cs. widest_from c.loop-at.best c.loop-at.run (blocks_from c.loop-at.at cs)) (nothing_left c.args.region.now c.loop-at.at c.loop-at.invariant.split (omega arith)))
