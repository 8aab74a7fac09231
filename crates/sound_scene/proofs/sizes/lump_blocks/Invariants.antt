use Rattle.art_rules.proofs.Common.{sum_by, take, ◌*◌, ◌^◌, ◌≡◌, ◌≤◌}
use Rattle.sound_scene.specs.Rules.{LumpNo, greatest_by, lump_block}
use Rattle.sound_scene.proofs.sizes.lump_blocks.Given as goal

-- the blocks of the lumps so far, each of at most 2 ^ 33 bytes
abbrev pub invariant-loop-lump : goal.invariant-loop-lump
invariant-loop-lump l = record {
  greatest : l.blocks.greatest ≡ greatest_by (λ (lump : LumpNo). lump_block l.dir.lumps lump.0) (take l.lump-index l.lumps);
  sum : l.blocks.sum ≡ sum_by (λ (lump : LumpNo). lump_block l.dir.lumps lump.0) (take l.lump-index l.lumps);
  greatest_fits : l.blocks.greatest ≤ 2 ^ 33;
  few : l.lump-index ≤ 2 ^ 16;
  sum_fits : l.blocks.sum ≤ l.lump-index * 2 ^ 33;
}
