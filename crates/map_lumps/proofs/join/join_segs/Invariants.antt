use Rattle.std.proofs.Common.{◌≡◌, map, take}
use Rattle.level_rules.specs.maps.Levels.{seg_of}
use Rattle.map_lumps.proofs.join.join_segs.Given as goal

abbrev pub invariant-loop-seg : goal.invariant-loop-seg
invariant-loop-seg l = l.joined.items ≡ map (seg_of l.sides l.lines l.vertexes) (take l.seg-index l.segs)
