use Rattle.picture_rules.proofs.Common.{count_by, is_some, take, ◌≡◌, ◌≤◌}
use Rattle.visplanes.specs.Planes.{plane_at}
use Rattle.frame_core.proofs.list.marked_columns.Given as goal

-- the columns so far that have a run
abbrev pub invariant-loop-x : goal.invariant-loop-x
invariant-loop-x l = record {
  counted : l.columns ≡ count_by is_some (take l.x (plane_at l.planes.planes l.plane.0).runs);
  few : l.columns ≤ l.x;
}
