use Rattle.zone_rules.proofs.Common.{arith, ◌≤◌, ap, sym, ◌∙◌, refl, cond-true, cond-false, le-leb, lt-leb}
use Rattle.zone_heap.specs.Regions.{blocks_from}
use Rattle.zone_rules.specs.Requests.{place_around}
use Rattle.zone_heap.proofs.PartLemmas.{opened_word, head_fits, nothing_left, split_first, blocks_laid}
use Rattle.zone_heap.proofs.edits.place_in.Goals as goal

pub loop-at-init : goal.loop-at-init
loop-at-init c = record { split = split_first c.args.region.now c.requires.laid; low = omega arith; value = ap (place_around c.args.place 0) (blocks_laid c.args.region.now c.requires.laid) }

pub word_at-requires : goal.word_at-requires
word_at-requires c = let header_fits = head_fits c.args.region.now c.loop-at.at c.loop-at.invariant.split c.loop-at-test.true in omega arith

pub loop-at-smaller : goal.loop-at-smaller
loop-at-smaller c =
    let block = opened_word c.args.region.now c.loop-at.at c.loop-at.invariant.split c.loop-at-test.true c.word_at.result c.word_at.ensures in
    let block_large = block.large in let block_fits = block.fits in omega arith

pub loop-at-preserved : goal.loop-at-preserved
loop-at-preserved c =
    let place_now = c.loop-at.at in
    let block = opened_word c.args.region.now place_now c.loop-at.invariant.split c.loop-at-test.true c.word_at.result c.word_at.ensures in
    let block_before_place : place_now ≤ c.args.place = omega arith in
    record { split = block.next; low = omega arith; value = c.loop-at.invariant.value ∙ ap (place_around c.args.place c.loop-at.around) block.blocks ∙ cond-true _ _ _ (le-leb _ _ block_before_place) }

pub returns-then-place-at : goal.returns-then-place-at
returns-then-place-at c =
    let place_now = c.loop-at.at in
    let block = opened_word c.args.region.now place_now c.loop-at.invariant.split c.loop-at-test.true _ refl in
    record {
      value = sym (c.loop-at.invariant.value ∙ ap (place_around c.args.place c.loop-at.around) block.blocks ∙ cond-false _ _ _ (lt-leb _ _ c.if-place-at.true));
      bound = c.loop-at.invariant.low;
    }

pub returns : goal.returns
returns c = record {
  value = sym (c.loop-at.invariant.value ∙ ap (λ cs. place_around c.args.place c.loop-at.around (blocks_from c.loop-at.at cs)) (nothing_left c.args.region.now c.loop-at.at c.loop-at.invariant.split (omega arith)));
  bound = c.loop-at.invariant.low;
}
