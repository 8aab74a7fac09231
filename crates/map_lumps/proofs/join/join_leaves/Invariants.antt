use Rattle.std.proofs.Common.{◌≡◌, map, take}
use Rattle.level_rules.specs.maps.Levels.{leaf_of}
use Rattle.map_lumps.proofs.join.join_leaves.Given as goal

abbrev pub invariant-loop-leaf : goal.invariant-loop-leaf
invariant-loop-leaf l = l.joined.items ≡ map (leaf_of l.segs) (take l.leaf-index l.leaves)
