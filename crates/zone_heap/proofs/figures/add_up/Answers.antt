use Rattle.std.proofs.Common.{arith, rules}
use Rattle.zone_heap.specs.Rules.{is_free, is_pinned, is_purgeable}
use Rattle.zone_heap.specs.Headers.{is_free_header, is_pinned_header, is_purgeable_header}
use Rattle.zone_heap.proofs.PartLemmas.{less_left, head_fits, free_told, pinned_told, purgeable_told}
use Rattle.zone_heap.proofs.SumLemmas.{sum_first, sum_then, sum_small, sum_all}
use Rattle.zone_heap.proofs.figures.add_up.Goals as goal

pub loop-at-init : goal.loop-at-init
loop-at-init c =
    record { pins = sum_first is_pinned _ c.requires.laid; purges = sum_first is_purgeable _ c.requires.laid; frees = sum_first is_free _ c.requires.laid }

pub header_at-header-requires : goal.header_at-header-requires
header_at-header-requires c = head_fits c.args.region.now c.loop-at.at c.loop-at.invariant.pins.split c.loop-at-test.true

pub loop-at-smaller : goal.loop-at-smaller
loop-at-smaller c = less_left _ _ c.loop-at.invariant.pins.split c.loop-at-test.true _ c.header_at-header.ensures

pub loop-at-preserved : goal.loop-at-preserved
loop-at-preserved c = record {
  pins = sum_then is_pinned _ _ _ c.loop-at.invariant.pins c.loop-at-test.true _ c.header_at-header.ensures is_pinned_header pinned_told _ c.is_pinned.ensures _ c.size_if-pinned.ensures.value c.size_if-pinned.ensures.most;
  purges = sum_then is_purgeable _ _ _ c.loop-at.invariant.purges c.loop-at-test.true _ c.header_at-header.ensures is_purgeable_header purgeable_told _ c.is_purgeable.ensures _ c.size_if-purgeable.ensures.value c.size_if-purgeable.ensures.most;
  frees = sum_then is_free _ _ _ c.loop-at.invariant.frees c.loop-at-test.true _ c.header_at-header.ensures is_free_header free_told _ c.is_free.ensures _ c.size_if-free.ensures.value c.size_if-free.ensures.most;
}

pub overflow_add-pinned : goal.overflow_add-pinned
overflow_add-pinned c = let sum_fits = sum_small is_pinned _ _ _ c.loop-at.invariant.pins c.loop-at-test.true _ c.header_at-header.ensures c.requires.small _ c.size_if-pinned.ensures.most in search rules

pub overflow_add-purgeable : goal.overflow_add-purgeable
overflow_add-purgeable c = let sum_fits = sum_small is_purgeable _ _ _ c.loop-at.invariant.purges c.loop-at-test.true _ c.header_at-header.ensures c.requires.small _ c.size_if-purgeable.ensures.most in search rules

pub overflow_add-free : goal.overflow_add-free
overflow_add-free c = let sum_fits = sum_small is_free _ _ _ c.loop-at.invariant.frees c.loop-at-test.true _ c.header_at-header.ensures c.requires.small _ c.size_if-free.ensures.most in search rules

pub returns : goal.returns
returns c = record {
  pinned = sum_all is_pinned _ _ _ c.loop-at.invariant.pins (omega arith);
  purgeable = sum_all is_purgeable _ _ _ c.loop-at.invariant.purges (omega arith);
  free = sum_all is_free _ _ _ c.loop-at.invariant.frees (omega arith);
}
