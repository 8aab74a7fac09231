use Rattle.art_rules.proofs.Common.{All, drop, length, ◌++◌, ◌≡◌}
use Rattle.scene_rules.specs.Words.{placed_from, placed_things}
use Rattle.level_scene.specs.Groups.{IsIn}
use Rattle.level_scene.proofs.places.place_all.Given as goal

-- those so far, and those of the rest, are all
abbrev pub invariant-loop-number : goal.invariant-loop-number
invariant-loop-number l = record {
  placed : placed_things l.level l.table l.skill ≡ l.all.items ++ placed_from l.level l.table l.skill l.number (drop l.number l.things);
  there : All (IsIn (length l.level.sectors)) l.all.items;
}
