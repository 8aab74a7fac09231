use Rattle.std.proofs.Common.{◌≡◌, [], map, replicate}
use Rattle.level_scene.proofs.places.empty_groups.Given as goal

abbrev pub invariant-loop-i : goal.invariant-loop-i
invariant-loop-i l = map (λ group. group.items) l.groups.items ≡ replicate l._i []
