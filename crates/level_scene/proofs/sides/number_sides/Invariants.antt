use Rattle.art_rules.proofs.Common.{All, drop, length, ◌≡◌}
use Rattle.level_scene.specs.{Rules.SideTexture, Rules.each_or, Rules.textures_of, Bounds.AreBelow}
use Rattle.scene_rules.proofs.NumberedLemmas.{each_after}
use Rattle.level_scene.proofs.sides.number_sides.Given as goal

-- the numbers so far, one a side, and those of the sides from i on, are those of all sides
abbrev pub invariant-loop-i : goal.invariant-loop-i
invariant-loop-i l = record {
  so_far : each_or (textures_of l.lists.textures) SideTexture l.sides ≡ each_after (textures_of l.lists.textures) SideTexture l.numbers.items l.i (drop l.i l.sides);
  count : length l.numbers.items ≡ l.i;
  below : All (AreBelow (length l.lists.textures)) l.numbers.items;
}
