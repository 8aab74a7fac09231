use Rattle.art_rules.proofs.Common.{All-nil, ap, length, List, sym}
use Rattle.scene_rules.specs.Words.{placed_from, placed_things, Thing}
use Rattle.level_scene.specs.Groups.{IsIn}
use Rattle.level_scene.proofs.places.place_all.Goals as goal

pub loop-number-init : goal.loop-number-init
unfolding placed_things
loop-number-init c = rw c.new-all.ensures.items (record {
  placed = ap (λ (things : List Thing). placed_from c.args.level.now c.args.table.now c.args.skill 0 things) (sym c.things-things.ensures.value);
  there = All-nil (IsIn (length c.args.level.now.sectors));
})
