use Rattle.std.proofs.Common.{length}
use Rattle.level_scene.specs.{Rules.SectorFlat, Rules.flats_of, Rules.sector_flats, Bounds.AreThere}
use Rattle.level_scene.proofs.EachLemmas.{each-first, each-more}
use Rattle.level_scene.proofs.flats.find_flats.Goals as goal

pub returns-in-None-clause-answers : goal.returns-in-None-clause-answers
unfolding sector_flats
returns-in-None-clause-answers c = each-first _ SectorFlat _ _ _ _ c.loop-i.invariant.so_far c.loop-i-test.true c.index-sectors-i.is _ c.in-None.ensures.found

pub loop-i-preserved : goal.loop-i-preserved
loop-i-preserved c = let one_flat_more = each-more (flats_of c.args.dir.now.lumps) SectorFlat _ _ _ _ c.loop-i.invariant.so_far c.loop-i-test.true c.index-sectors-i.is (AreThere (length c.args.dir.now.lumps)) _ _ c.loop-i.invariant.count c.loop-i.invariant.there c.in-Some.ensures.found c.in-Some.ensures.there c.in_ok-push-in-Some.ensures.items in record { so_far = one_flat_more.so_far; count = one_flat_more.count; there = one_flat_more.all }
