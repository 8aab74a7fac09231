use Rattle.std.proofs.Common.{◌≡◌, ◌-◌, length, drop}
use Rattle.level_scene.specs.Groups.{AreGroupsOf}
use Rattle.level_scene.proofs.places.group_things.Given as goal

-- as many last things as were yielded are in their lists
abbrev pub invariant-loop-placed : goal.invariant-loop-placed
invariant-loop-placed l = record {
  count : length l.groups.items ≡ l.count;
  groups : AreGroupsOf (drop (length l.all - length l.yielded) l.all) l.groups.items;
}
