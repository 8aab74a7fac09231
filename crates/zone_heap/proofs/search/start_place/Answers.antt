use Rattle.std.proofs.Common.{arith}
use Rattle.zone_heap.proofs.PartLemmas.{opened, less_left, head_fits, passed_none, passed_then, start_here, start_last}
use Rattle.zone_heap.proofs.search.start_place.Goals as goal

pub loop-at-init : goal.loop-at-init
loop-at-init c = passed_none c.args.rover c.args.region.now c.requires.laid

pub header_at-header-requires : goal.header_at-header-requires
header_at-header-requires c = head_fits c.args.region.now c.loop-at.at c.loop-at.invariant.split c.loop-at-test.true

pub starts_search-requires : goal.starts_search-requires
starts_search-requires c =
    let block = opened c.args.region.now c.loop-at.at c.loop-at.invariant.split c.loop-at-test.true c.header_at-header.result c.header_at-header.ensures in
    let block_fits = block.fits in omega arith

pub loop-at-smaller : goal.loop-at-smaller
loop-at-smaller c = less_left c.args.region.now c.loop-at.at c.loop-at.invariant.split c.loop-at-test.true c.header_at-header.result c.header_at-header.ensures

pub returns-then-starts_search : goal.returns-then-starts_search
returns-then-starts_search c =
    record { split = start_here _ _ _ c.loop-at.invariant c.loop-at-test.true _ c.header_at-header.ensures _ c.starts_search.ensures c.if-starts_search.true }

pub loop-at-preserved : goal.loop-at-preserved
loop-at-preserved c = passed_then _ _ _ c.loop-at.invariant c.loop-at-test.true _ c.header_at-header.ensures _ c.starts_search.ensures c.if-starts_search.false

pub returns : goal.returns
returns c = record { split = start_last _ _ _ c.loop-at.invariant (omega arith) }
