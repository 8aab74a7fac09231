use Rattle.std.proofs.Common.{◌≡◌, length, take}
use Rattle.scene_rules.specs.Words.{surfaces_of}
use Rattle.level_scene.proofs.flats.make_surfaces.Given as goal

-- the surfaces of the sectors so far
abbrev pub invariant-loop-i : goal.invariant-loop-i
invariant-loop-i l = record {
  surfaces : l.surfaces.items ≡ surfaces_of (take l.i l.sectors) (take l.i l.flats);
  count : length l.surfaces.items ≡ l.i;
}
