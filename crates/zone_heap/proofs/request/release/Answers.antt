use Rattle.std.proofs.Common.{arith, ◌∙◌, ap, sym, subst}
use Rattle.zone_heap.specs.{Rules.join_free, Rules.owner_at, Regions.blocks_in, Regions.IsLaid}
use Rattle.zone_heap.specs.Homes.{AreHome}
use Rattle.zone_heap.proofs.{HomeLemmas.joined_home, request.release.Goals.After-of-home}
use Rattle.zone_heap.proofs.LookLemmas.{IsFound, look, found_small, found_laid, found_blocks, found_home}
use Rattle.zone_heap.proofs.request.release.Goals as goal

it : (c : After-of-home) → IsFound c.args.region.now (owner_at c.args.kind c.args.number) c.of-home.result
it c = look c.args.region.now c.requires.laid (owner_at c.args.kind c.args.number) _ c.requires.live (c.of-home.ensures ∙ c.requires.home.exact (owner_at c.args.kind c.args.number) c.requires.slot)

pub free_at-requires-clause-fits : goal.free_at-requires-clause-fits
free_at-requires-clause-fits c = let found_there = it (goal.at.free_at-requires-clause-fits c).After-of-home in let part_large = found_there.large in
    let part_fits = found_there.fits in omega arith

pub free_at-requires-clause-slot : goal.free_at-requires-clause-slot
free_at-requires-clause-slot c = found_small _ _ _ _ (it (goal.at.free_at-requires-clause-slot c).After-of-home) c.requires.home

pub join-requires-clause-laid : goal.join-requires-clause-laid
join-requires-clause-laid c = subst IsLaid (sym c.free_at.ensures.region) (found_laid _ _ _ _ (it (goal.at.join-requires-clause-laid c).After-of-home) c.requires.home)

pub returns-clause-home : goal.returns-clause-home
returns-clause-home c =
    let home_freed = found_home _ _ _ _ (it (goal.at.returns-clause-home c).After-of-home) c.requires.home c.free_at.new.homes c.free_at.ensures.home in
    subst (AreHome c.free_at.new.homes) (sym (c.link.ensures.blocks ∙ c.join.ensures.blocks)) (joined_home c.free_at.new.homes (blocks_in c.free_at.new.region) (subst (λ xs. AreHome c.free_at.new.homes (blocks_in xs)) (sym c.free_at.ensures.region) home_freed))

pub returns-clause-blocks : goal.returns-clause-blocks
returns-clause-blocks c =
    c.link.ensures.blocks ∙ c.join.ensures.blocks ∙ ap (λ xs. join_free (blocks_in xs)) c.free_at.ensures.region
    ∙ ap join_free (found_blocks _ _ _ _ (it (goal.at.returns-clause-blocks c).After-of-home) c.requires.home)
