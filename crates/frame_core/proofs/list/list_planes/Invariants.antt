use Rattle.picture_rules.proofs.Common.{take, vec_capacity, vec_len, ◌≡◌, ◌≤◌}
use Rattle.picture_rules.specs.declared.plane.TheConstants.{MOST_VISPLANES}
use Rattle.frame_core.specs.ViewLists.{listed_planes}
use Rattle.frame_core.proofs.list.list_planes.Given as goal

-- the planes so far, with their makers
abbrev pub invariant-loop-index : goal.invariant-loop-index
invariant-loop-index l = record {
  items : l.listed.items ≡ listed_planes l.planes.planes (take l.index l.makers);
  count : vec_len l.listed ≡ l.index;
  capacity : MOST_VISPLANES ≤ vec_capacity l.listed;
}
