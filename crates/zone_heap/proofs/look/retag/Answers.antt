use Rattle.std.proofs.Common.{arith, ◌+◌, ◌∙◌, ap, sym, subst}
use Rattle.zone_heap.specs.{Rules.owner_at, Headers.with_word, Regions.blocks_in, Regions.IsRing, Headers.TAG_AT}
use Rattle.zone_heap.proofs.LookLemmas.{IsFound, homed_live}
use Rattle.zone_heap.proofs.ChangeLemmas.{tagged_ring, tagged_blocks}
use Rattle.zone_heap.proofs.look.retag.Goals.{After-of-home}
use Rattle.zone_heap.proofs.look.retag.Goals as goal

it : (c : After-of-home) → IsFound c.args.region.now (owner_at c.args.kind c.args.number) c.of-home.result
it c = homed_live _ c.requires.ring.laid c.args.homes.now _ c.requires.homed _ c.of-home.ensures c.requires.live

pub set_word-requires : goal.set_word-requires
set_word-requires c =
    let found_there = it (goal.at.set_word-requires c).After-of-home in let part_fits = found_there.fits in let part_large = found_there.large in omega arith

pub returns-clause-ring : goal.returns-clause-ring
returns-clause-ring c =
    let context = (goal.at.returns-clause-ring c).After-of-home in
    subst IsRing (sym (c.set_word.ensures ∙ ap (with_word c.args.region.now (c.of-home.result + TAG_AT)) c.tag_code.ensures)) (tagged_ring _ _ _ (it context) c.requires.ring c.requires.unique c.args.tag)

pub returns-clause-blocks : goal.returns-clause-blocks
returns-clause-blocks c =
    let context = (goal.at.returns-clause-blocks c).After-of-home in
    ap blocks_in (c.set_word.ensures ∙ ap (with_word c.args.region.now (c.of-home.result + TAG_AT)) c.tag_code.ensures)
    ∙ tagged_blocks _ _ _ (it context) c.requires.ring c.requires.unique c.args.tag
