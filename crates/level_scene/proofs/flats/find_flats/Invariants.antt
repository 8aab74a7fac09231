use Rattle.art_rules.proofs.Common.{All, drop, length, ◌≡◌}
use Rattle.level_scene.specs.{Rules.SectorFlat, Rules.each_or, Rules.flats_of, Bounds.AreThere}
use Rattle.scene_rules.proofs.NumberedLemmas.{each_after}
use Rattle.level_scene.proofs.flats.find_flats.Given as goal

-- the flats so far, one pair a sector, and those of the sectors from i on, are those of all sectors
abbrev pub invariant-loop-i : goal.invariant-loop-i
invariant-loop-i l = record {
  so_far : each_or (flats_of l.dir.lumps) SectorFlat l.sectors ≡ each_after (flats_of l.dir.lumps) SectorFlat l.flats.items l.i (drop l.i l.sectors);
  count : length l.flats.items ≡ l.i;
  there : All (AreThere (length l.dir.lumps)) l.flats.items;
}
