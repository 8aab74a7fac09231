use Rattle.std.proofs.Common.{length}
use Rattle.level_scene.specs.Rules.{SideTexture, side_textures, textures_of}
use Rattle.level_scene.specs.Bounds.{AreBelow}
use Rattle.level_scene.proofs.EachLemmas.{each-first, each-more}
use Rattle.level_scene.proofs.sides.number_sides.Goals as goal

pub returns-in-None-clause-answers : goal.returns-in-None-clause-answers
unfolding side_textures
returns-in-None-clause-answers c = each-first _ SideTexture _ _ _ _ c.loop-i.invariant.so_far c.loop-i-test.true c.index-sides-i.is _ c.in-None.ensures.found

pub loop-i-preserved : goal.loop-i-preserved
loop-i-preserved c = let one_side_more = each-more (textures_of c.args.lists.now.textures) SideTexture _ _ _ _ c.loop-i.invariant.so_far c.loop-i-test.true c.index-sides-i.is (AreBelow (length c.args.lists.now.textures)) _ _ c.loop-i.invariant.count c.loop-i.invariant.below c.in-Some.ensures.found c.in-Some.ensures.below c.in_ok-push-in-Some.ensures.items in record { so_far = one_side_more.so_far; count = one_side_more.count; below = one_side_more.all }
