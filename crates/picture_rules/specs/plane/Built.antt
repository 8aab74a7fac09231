-- The planes of a view as its leaves and walls build them (R_Subsector, r_bsp.c; R_StoreWallRange, R_RenderSegLoop, r_segs.c).
use Rattle.std.specs.Prelude.{◌≡◌, ℕ, zero, suc, ◌+◌, ◌-◌, ◌<◌, ◌≤◌, Bool, true, false, List, [], ◌∷◌, Option, Some, None, length}
use Rattle.picture_rules.specs.declared.plane.PlaneKey.{PlaneKey}
use Rattle.picture_rules.specs.plane.Planes.{Plane, PlaneChoice, find, check, mark, AreWide}

-- what a drawn fragment does with planes: its columns, its marks, and the rows that it marks in a column
pub record PlaneWall : Type 0 where
  pub first : ℕ
  pub last : ℕ
  pub ceiling_mark : Bool
  pub floor_mark : Bool
  pub ceiling_rows : ℕ → Option (ℕ × ℕ)
  pub floor_rows : ℕ → Option (ℕ × ℕ)

pub data PlaneEvent : Type 0 where
  -- a leaf finds its floor and its ceiling, where they are seen
  Finds : (floor ceiling : Option PlaneKey) → PlaneEvent
  -- a drawn fragment checks and marks
  Draws : PlaneWall → PlaneEvent

-- the planes, and the current ones of the leaf
pub record PlanesNow : Type 0 where
  pub planes : List Plane
  pub floor : Option ℕ
  pub ceiling : Option ℕ

abbrev pub no_planes : PlanesNow
no_planes = record { planes = []; floor = None; ceiling = None }

-- the floor is found, and then the ceiling
unfoldable pub floor_found : Option PlaneKey → PlanesNow → PlanesNow
floor_found None s = record { planes = s.planes; floor = None; ceiling = s.ceiling }
floor_found (Some key) s = let c = find s.planes key in record { planes = c.planes; floor = Some c.number; ceiling = s.ceiling }

unfoldable pub ceiling_found : Option PlaneKey → PlanesNow → PlanesNow
ceiling_found None s = record { planes = s.planes; floor = s.floor; ceiling = None }
ceiling_found (Some key) s = let c = find s.planes key in record { planes = c.planes; floor = s.floor; ceiling = Some c.number }

-- the current plane of a leaf that a fragment marks is checked against its columns
unfoldable pub checked_plane : Bool → List Plane → Option ℕ → ℕ → ℕ → Option PlaneChoice
checked_plane false planes i first last = None
checked_plane true planes None first last = None
checked_plane true planes (Some i) first last = Some (check planes i first last)

unfoldable pub with_ceiling : Option PlaneChoice → PlanesNow → PlanesNow
with_ceiling None s = s
with_ceiling (Some c) s = record { planes = c.planes; floor = s.floor; ceiling = Some c.number }

unfoldable pub with_floor : Option PlaneChoice → PlanesNow → PlanesNow
with_floor None s = s
with_floor (Some c) s = record { planes = c.planes; floor = Some c.number; ceiling = s.ceiling }

unfoldable pub ceiling_checked : PlaneWall → PlanesNow → PlanesNow
ceiling_checked w s = with_ceiling (checked_plane w.ceiling_mark s.planes s.ceiling w.first w.last) s

unfoldable pub floor_checked : PlaneWall → PlanesNow → PlanesNow
floor_checked w s = with_floor (checked_plane w.floor_mark s.planes s.floor w.first w.last) s

-- a run is set where there is a plane and there are rows
unfoldable pub set_run : List Plane → Option ℕ → ℕ → Option (ℕ × ℕ) → List Plane
set_run planes None x rows = planes
set_run planes (Some i) x None = planes
set_run planes (Some i) x (Some rows) = mark planes i x rows

-- in a column the ceiling's run is set, and then the floor's
unfoldable pub column_marked : PlaneWall → Option ℕ → Option ℕ → ℕ → List Plane → List Plane
column_marked w ceiling floor x planes = set_run (set_run planes ceiling x (w.ceiling_rows x)) floor x (w.floor_rows x)

-- n columns from the fragment's first on
unfoldable pub columns_marked : PlaneWall → Option ℕ → Option ℕ → ℕ → List Plane → List Plane
columns_marked w ceiling floor zero planes = planes
columns_marked w ceiling floor (suc n) planes = column_marked w ceiling floor (w.first + n) (columns_marked w ceiling floor n planes)

unfoldable pub wall_marked : PlaneWall → PlanesNow → PlanesNow
wall_marked w s =
    record { planes = columns_marked w s.ceiling s.floor (w.last + 1 - w.first) s.planes; floor = s.floor; ceiling = s.ceiling }

unfoldable pub after_event : PlanesNow → PlaneEvent → PlanesNow
after_event s (Finds floor ceiling) = ceiling_found ceiling (floor_found floor s)
after_event s (Draws w) = wall_marked w (floor_checked w (ceiling_checked w s))

unfoldable pub after_events : PlanesNow → List PlaneEvent → PlanesNow
after_events s [] = s
after_events s (e ∷ es) = after_events (after_event s e) es

-- the planes that a list of events builds
unfoldable pub planes_of : List PlaneEvent → List Plane
planes_of events = (after_events no_planes events).planes

-- how many planes there are after the two steps of an event in which a plane can be made
unfoldable pub plane_counts : PlanesNow → PlaneEvent → List ℕ
plane_counts s (Finds floor ceiling) =
    length (floor_found floor s).planes ∷ length (ceiling_found ceiling (floor_found floor s)).planes ∷ []
plane_counts s (Draws w) =
    length (ceiling_checked w s).planes ∷ length (floor_checked w (ceiling_checked w s)).planes ∷ []

-- two fragments that differ at most in the rows of columns that they do not have do the same with planes
pub record MarkAlike (a b : PlaneWall) : Type 0 where
  pub first : a.first ≡ b.first
  pub last : a.last ≡ b.last
  pub ceiling_mark : a.ceiling_mark ≡ b.ceiling_mark
  pub floor_mark : a.floor_mark ≡ b.floor_mark
  pub ceiling_rows : (x : ℕ) → a.first ≤ x → x ≤ a.last → a.ceiling_rows x ≡ b.ceiling_rows x
  pub floor_rows : (x : ℕ) → a.first ≤ x → x ≤ a.last → a.floor_rows x ≡ b.floor_rows x

-- the current plane is one of the planes
abbrev pub IsAmongPlanes : List Plane → Option ℕ → Type 0
IsAmongPlanes planes None = Unit {0}
IsAmongPlanes planes (Some i) = i < length planes

-- the planes are as wide as a frame, and the current ones are among them: so they stay, by the laws
pub record IsSoundNow (s : PlanesNow) : Type 0 where
  pub wide : AreWide s.planes
  pub floor : IsAmongPlanes s.planes s.floor
  pub ceiling : IsAmongPlanes s.planes s.ceiling
