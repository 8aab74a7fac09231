use Rattle.std.proofs.Common.{arith, ◌+◌, ap}
use Rattle.zone_heap.specs.{Rules.owner_at, Rules.word_at, Headers.ASKED_AT}
use Rattle.zone_heap.proofs.LookLemmas.{homed_live}
use Rattle.zone_heap.proofs.look.live_span.Goals as goal

pub span_at-requires : goal.span_at-requires
span_at-requires c =
    let found_there = homed_live _ c.requires.laid c.args.homes.now (owner_at c.args.kind c.args.number) c.requires.homed _ c.of-home.ensures c.requires.live in
    let part_fits = found_there.fits in let part_large = found_there.large in omega arith

pub returns-clause-to : goal.returns-clause-to
returns-clause-to c =
    let word_same = ap (λ n. word_at c.args.region.now (n + ASKED_AT)) c.of-home.ensures in
    let start_is = c.span_at.ensures.from in let end_is = c.span_at.ensures.to in omega arith
