use Rattle.level_scene.proofs.places.+leaf_from.Given as goal

-- the levels that are left
abbrev pub decreases-leaf_from : goal.decreases-leaf_from
decreases-leaf_from l = l.levels
