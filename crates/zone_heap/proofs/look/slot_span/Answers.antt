use Rattle.zone_rules.proofs.Common.{arith, ◌≡◌, ◌-◌, ◌∙◌, ap, ap₂, sym, option_map, Some, take, drop, option_and_then}
use Rattle.zone_heap.specs.{Rules.Block, Rules.Holding, Rules.owner_at, Rules.word_at, Headers.ASKED_AT}
use Rattle.zone_heap.specs.Homes.{composites_in}
use Rattle.zone_heap.proofs.LookLemmas.{IsFound, homed_found, homed_none}
use Rattle.zone_heap.proofs.ChangeLemmas.{asked_fits, bytes_found}
use Rattle.zone_heap.proofs.look.slot_span.Goals.{Else-home}
use Rattle.zone_heap.proofs.look.slot_span.Goals as goal

it : (c : Else-home) → IsFound c.args.region.now (owner_at c.args.kind c.args.number) c.of-home.result
it c = homed_found _ c.requires.laid c.args.homes.now _ c.requires.homed _ c.of-home.ensures c.if-home.false

pub span_at-requires : goal.span_at-requires
span_at-requires c =
    let found_there = it (goal.at.span_at-requires c).Else-home in let part_fits = found_there.fits in let part_large = found_there.large in omega arith

pub returns-then-home-clause-value : goal.returns-then-home-clause-value
returns-then-home-clause-value c =
    ap (λ x. option_map (λ (h : Holding). h.bytes) (option_and_then (λ (b : Block). b.holding) x)) (homed_none _ c.requires.laid c.args.homes.now _ c.requires.homed _ c.of-home.ensures c.requires.small c.if-home.true)

pub returns-else-home-clause-value : goal.returns-else-home-clause-value
returns-else-home-clause-value c =
    let found_there = it (goal.at.returns-else-home-clause-value c).Else-home in
    let owner = owner_at c.args.kind c.args.number in let place = c.of-home.result in
    let asked_kept = found_there.words ASKED_AT (omega arith) in let start_is = c.span_at.ensures.from in
    let end_is = c.span_at.ensures.to in
    let asked_is : word_at found_there.part ASKED_AT ≡ c.span_at.result.to - c.span_at.result.from = omega arith in
    bytes_found c.args.region.now owner place found_there c.args.homes.now.lumps (composites_in c.args.homes.now) c.requires.fits
    ∙ ap₂ (λ k p. Some (take k (drop p c.args.region.now))) asked_is (sym start_is)

pub returns-else-home-clause-bound : goal.returns-else-home-clause-bound
returns-else-home-clause-bound c =
    let found_there = it (goal.at.returns-else-home-clause-bound c).Else-home in
    let bytes_fit = asked_fits c.args.region.now (owner_at c.args.kind c.args.number) c.of-home.result found_there c.args.homes.now.lumps (composites_in c.args.homes.now) c.requires.fits in
    let asked_kept = found_there.words ASKED_AT (omega arith) in let start_is = c.span_at.ensures.from in
    let end_is = c.span_at.ensures.to in let part_fits = found_there.fits in (omega arith, omega arith)
