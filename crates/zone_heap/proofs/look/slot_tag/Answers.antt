use Rattle.zone_rules.proofs.Common.{arith, ◌∙◌, ap, sym, option_map, Some, option_and_then}
use Rattle.zone_heap.specs.{Rules.Block, Rules.Holding, Rules.owner_at, Headers.code_tag, Headers.TAG_AT}
use Rattle.zone_heap.proofs.LookLemmas.{IsFound, homed_found, homed_none, holding_found}
use Rattle.zone_heap.proofs.look.slot_tag.Goals.{Else-home}
use Rattle.zone_heap.proofs.look.slot_tag.Goals as goal

it : (c : Else-home) → IsFound c.args.region.now (owner_at c.args.kind c.args.number) c.of-home.result
it c = homed_found _ c.requires.laid c.args.homes.now _ c.requires.homed _ c.of-home.ensures c.if-home.false

pub word_at-requires : goal.word_at-requires
word_at-requires c =
    let found_there = it (goal.at.word_at-requires c).Else-home in let part_fits = found_there.fits in let part_large = found_there.large in omega arith

pub returns-then-home : goal.returns-then-home
returns-then-home c =
    sym (ap (λ x. option_map (λ (h : Holding). h.tag) (option_and_then (λ (b : Block). b.holding) x)) (homed_none _ c.requires.laid c.args.homes.now _ c.requires.homed _ c.of-home.ensures c.requires.small c.if-home.true))

pub returns-else-home : goal.returns-else-home
returns-else-home c =
    let found_there = it (goal.at.returns-else-home c).Else-home in
    ap Some (c.code_tag.ensures ∙ ap code_tag (c.word_at.ensures ∙ found_there.words TAG_AT (omega arith)))
    ∙ sym (ap (option_map (λ (h : Holding). h.tag)) (holding_found c.args.region.now (owner_at c.args.kind c.args.number) c.of-home.result found_there))
