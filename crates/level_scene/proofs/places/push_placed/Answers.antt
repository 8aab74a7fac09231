use Rattle.art_rules.proofs.Common.{All-push, length}
use Rattle.scene_rules.specs.Words.{placed_in}
use Rattle.level_scene.specs.Groups.{IsIn}
use Rattle.level_scene.proofs.places.push_placed.Goals as goal

pub returns-in_ok-push-clause-there : goal.returns-in_ok-push-clause-there
unfolding placed_in
returns-in_ok-push-clause-there c =
    rw c.in_ok-push.ensures.items (All-push (IsIn (length c.args.level.now.sectors)) c.args.all.now.items c.placed_in.result c.requires (rw c.placed_in.ensures c.sector_at-sector.ensures.there))
