-- The columns of a fragment: clips and planes as they are drawn one by one, and what is saved.
use Rattle.std.specs.Prelude.{◌≡◌, ◌<◌, ◌≤◌, ◌+◌, ◌-◌, ◌&&◌, ℕ, Bool, List, nat_le, nat_lt, cond, Option, None, option_map, IfSome, length, take}
use Rattle.wall_columns.specs.Rules.{ColumnClip, Edges, FRAME_WIDTH, FragmentNumbers, IsAmongPlanes, Plane, PlaneWall, ViewValue, WallFacts, ceiling_rows, clip_after, columns_marked, edges_at, floor_rows, listed_from, marked_rows, texture_column}
use Rattle.visplanes.specs.{Planes.PlanesView, Planes.with_planes, declared.planes.PlaneNo.PlaneNo}
use Rattle.wall_edges.specs.Fragments.{FragmentValue, fragment_of}
use Rattle.wall_columns.specs.declared.columns.MarkedPlanes.{MarkedPlanes}
use Rattle.wall_columns.specs.declared.notes.SavePlaces.{SavePlaces}
use Rattle.wall_columns.specs.declared.column_state.ColumnState.{ColumnState}
use Rattle.wall_columns.specs.Windows.{ceilings_in, floors_in, window_at}
use Rattle.wall_columns.specs.{Places.places_of, Saved.OpeningsView, Saved.lists_saved}

-- the number of a plane, where there is one
abbrev pub plane_number : Option PlaneNo → Option ℕ
plane_number o = option_map (λ (plane : PlaneNo). plane.0) o

-- the plane of the leaf, where the fragment marks it
abbrev pub marked_plane : Bool → Option PlaneNo → Option PlaneNo
marked_plane marks plane = cond marks plane None

-- the ceiling's and the floor's
abbrev pub marked_planes : FragmentNumbers → Option PlaneNo → Option PlaneNo → MarkedPlanes
marked_planes n ceiling floor = record {
  ceiling = marked_plane n.ceiling_mark ceiling;
  floor = marked_plane n.floor_mark floor;
}

-- the planes of the leaf that is entered are among those that there are
abbrev pub AreLeafPlanes : List Plane → ColumnState → Type 0
AreLeafPlanes planes state = IsAmongPlanes planes (plane_number state.floor)
    × IsAmongPlanes planes (plane_number state.ceiling)

-- how many columns a fragment has
abbrev pub columns_of : FragmentValue → ℕ
columns_of f = f.last + 1 - f.first

-- the edges of a fragment at a column of the view
unfoldable pub column_edges : FragmentValue → ℕ → Edges
column_edges f x = edges_at f.shape f.numbers (x - f.first)

-- what it leaves open of one of its columns, of which this was open
unfoldable pub column_after : ℕ → FragmentValue → (ℕ → ColumnClip) → ℕ → ColumnClip
column_after height f before x = clip_after height f.numbers (before x) (column_edges f x)

-- what is open of a column when k columns of the fragment are drawn
unfoldable pub clip_along : ℕ → FragmentValue → (ℕ → ColumnClip) → ℕ → ℕ → ColumnClip
clip_along height f before k x =
    cond (nat_le f.first x && nat_lt x (f.first + k)) (column_after height f before x) (before x)

-- what the fragment does with planes
unfoldable pub marks_along : FragmentValue → (ℕ → ColumnClip) → PlaneWall
marks_along f before = record {
  first = f.first;
  last = f.last;
  ceiling_mark = f.numbers.ceiling_mark;
  floor_mark = f.numbers.floor_mark;
  ceiling_rows = λ x. marked_rows f.numbers.ceiling_mark
      (ceiling_rows (before x) (column_edges f x));
  floor_rows = λ x. marked_rows f.numbers.floor_mark
      (floor_rows (before x) (column_edges f x));
}

-- k columns are drawn: what is open of each column, and the planes that are marked
pub record HasMarked (f : FragmentValue) (k : ℕ) (start now : ColumnState)
    (before later : PlanesView) : Type 0 where
  pub windows : (x : ℕ) → x < FRAME_WIDTH → window_at now.windows x
      ≡ clip_along start.windows.height f (window_at start.windows) k x
  pub height : now.windows.height ≡ start.windows.height
  pub planes : later ≡ with_planes (columns_marked (marks_along f (window_at start.windows))
      (plane_number start.ceiling) (plane_number start.floor) k before.planes) before
  pub count : length later.planes ≡ length before.planes
  pub floor : now.floor ≡ start.floor
  pub ceiling : now.ceiling ≡ start.ceiling

-- the lists of a fragment in columns first to last are saved, and nothing else is changed
pub record HasSaved (v : ViewValue) (f : FragmentValue) (first last : ℕ) (places : SavePlaces)
    (start now : ColumnState) : Type 0 where
  pub saved : (facts : WallFacts) → f ≡ fragment_of v facts first last →
      now.openings.saved ≡ lists_saved places (listed_from (texture_column v facts) first last)
      (ceilings_in now.windows first last) (floors_in now.windows first last)
      start.openings.saved
  pub room : now.openings.room ≡ start.openings.room
  pub windows : now.windows ≡ start.windows
  pub floor : now.floor ≡ start.floor
  pub ceiling : now.ceiling ≡ start.ceiling

-- a list of n entries lies among the openings, where it is saved
abbrev pub IsPlaceIn : ℕ → ℕ → Option ℕ → Type 0
IsPlaceIn n total place = IfSome place (λ (p : ℕ). p + n ≤ total)

-- so do the three lists of a fragment of n columns
pub record ArePlacesIn (n total : ℕ) (places : SavePlaces) : Type 0 where
  pub masked : IsPlaceIn n total places.masked
  pub top : IsPlaceIn n total places.top
  pub bottom : IsPlaceIn n total places.bottom

-- the openings of a fragment's lists are taken, and those before them are as they were
pub record HasTaken (n : FragmentNumbers) (columns : ℕ) (old new : OpeningsView)
    (places : SavePlaces) : Type 0 where
  pub are : places ≡ places_of n (length old.saved) columns
  pub within : ArePlacesIn columns (length new.saved) places
  pub count : length new.saved ≡ places.end
  pub front : take (length old.saved) new.saved ≡ old.saved
