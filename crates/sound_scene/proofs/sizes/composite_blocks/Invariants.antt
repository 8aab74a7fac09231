use Rattle.art_rules.proofs.Common.{sum_by, take, ◌*◌, ◌^◌, ◌≡◌, ◌≤◌}
use Rattle.scene_rules.specs.Words.{composite_block, greatest_by}
use Rattle.sound_scene.proofs.sizes.composite_blocks.Given as goal

-- the blocks of the textures so far, each of at most 2 ^ 17 bytes
abbrev pub invariant-loop-number : goal.invariant-loop-number
invariant-loop-number l = record {
  greatest : l.blocks.greatest ≡ greatest_by composite_block (take l.number l.textures.prepared);
  sum : l.blocks.sum ≡ sum_by composite_block (take l.number l.textures.prepared);
  greatest_fits : l.blocks.greatest ≤ 2 ^ 17;
  sum_fits : l.blocks.sum ≤ l.number * 2 ^ 17;
}
