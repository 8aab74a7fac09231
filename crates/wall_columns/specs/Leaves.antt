-- The planes of a leaf, one at a time: found where it is entered, checked where a fragment marks.
use Rattle.std.specs.Prelude.{ℕ, nat_lt, cond, List, Option, Some, None, length}
use Rattle.wall_columns.specs.Rules.{FragmentNumbers, OverLimit, Plane, PlaneChoice, PlaneKey, PlanesNow, ceiling_found, checked_plane, find, floor_found, openings_count, planes_count, with_ceiling, with_floor}
use Rattle.visplanes.specs.Planes.{PlanesView}
use Rattle.wall_columns.specs.{declared.column_state.ColumnState.ColumnState, Columns.plane_number}

-- the planes with that of a key, and its number
unfoldable pub planes_found : List Plane → Option PlaneKey → List Plane
planes_found planes None = planes
planes_found planes (Some key) = (find planes key).planes

unfoldable pub number_found : List Plane → Option PlaneKey → Option ℕ
number_found planes None = None
number_found planes (Some key) = Some (find planes key).number

-- the planes, and the number of the plane, after a check
unfoldable pub planes_checked : List Plane → Option PlaneChoice → List Plane
planes_checked planes None = planes
planes_checked planes (Some c) = c.planes

unfoldable pub number_checked : Option ℕ → Option PlaneChoice → Option ℕ
number_checked number None = number
number_checked number (Some c) = Some c.number

-- the planes and the current ones
abbrev pub now_of : ColumnState → PlanesView → PlanesNow
now_of state planes = record {
  planes = planes.planes;
  floor = plane_number state.floor;
  ceiling = plane_number state.ceiling;
}

-- a fragment's checks, the ceiling's and then the floor's
unfoldable pub ceiling_check : FragmentNumbers → ℕ → ℕ → PlanesNow → PlanesNow
ceiling_check n first last s =
    with_ceiling (checked_plane n.ceiling_mark s.planes s.ceiling first last) s

unfoldable pub floor_check : FragmentNumbers → ℕ → ℕ → PlanesNow → PlanesNow
floor_check n first last s =
    with_floor (checked_plane n.floor_mark s.planes s.floor first last) s

abbrev pub both_checks : FragmentNumbers → ℕ → ℕ → PlanesNow → PlanesNow
both_checks n first last s = floor_check n first last (ceiling_check n first last s)

-- a count, of planes or else of openings, that passes its room
unfoldable pub over_room : (ℕ → OverLimit) → ℕ → ℕ → Option OverLimit → Option OverLimit
over_room limit room count next = cond (nat_lt room count) (Some (limit count)) next

abbrev pub planes_over : ℕ → ℕ → Option OverLimit → Option OverLimit
planes_over = over_room planes_count

abbrev pub openings_over : ℕ → ℕ → Option OverLimit → Option OverLimit
openings_over = over_room openings_count

-- what a leaf's two steps, and what a fragment's three, tell
unfoldable pub leaf_over : ℕ → PlanesNow → Option PlaneKey → Option PlaneKey → Option OverLimit
leaf_over room s floor ceiling =
    planes_over room (length (floor_found floor s).planes)
    (planes_over room (length (ceiling_found ceiling (floor_found floor s)).planes) None)

unfoldable pub checks_over : ℕ → FragmentNumbers → ℕ → ℕ → PlanesNow → Option OverLimit
checks_over room n first last s =
    planes_over room (length (ceiling_check n first last s).planes)
    (planes_over room (length (both_checks n first last s).planes) None)
