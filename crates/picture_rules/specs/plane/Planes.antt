-- The planes of a view: each has a key, and a run of rows at each of its columns (R_FindPlane, R_CheckPlane, r_plane.c).
use Rattle.std.specs.Prelude.{◌≡◌, ℕ, ◌+◌, Bool, cond, List, [], ◌∷◌, ◌++◌, Option, Some, None, is_none, length, replicate, position, slice_range, slice_get, slice_set, slice_index_or}
use Rattle.std.specs.List.{list_all, All}
use Rattle.view_rules.specs.declared.TheConstants.{FRAME_WIDTH}
use Rattle.picture_rules.specs.{declared.plane.PlaneKey.PlaneKey, plane.Keys.same_key}

pub record Plane : Type 0 where
  pub key : PlaneKey
  -- the first and the last row at each column of a frame
  pub runs : List (Option (ℕ × ℕ))

-- the planes, and the number of the one that was asked for
pub record PlaneChoice : Type 0 where
  pub number : ℕ
  pub planes : List Plane

-- a plane with no marked column
unfoldable pub empty_plane : PlaneKey → Plane
empty_plane key = record { key = key; runs = replicate FRAME_WIDTH None }

-- a new empty plane behind the others
unfoldable pub add : List Plane → PlaneKey → PlaneChoice
add planes key = record { number = length planes; planes = planes ++ empty_plane key ∷ [] }

-- the plane of this number, or else a new one
unfoldable pub number_or_add : List Plane → PlaneKey → Option ℕ → PlaneChoice
number_or_add planes key None = add planes key
number_or_add planes key (Some i) = record { number = i; planes = planes }

-- the first plane of equal key
unfoldable pub number_of : List Plane → PlaneKey → Option ℕ
number_of planes key = position (λ p. same_key p.key key) planes

unfoldable pub find : List Plane → PlaneKey → PlaneChoice
find planes key = number_or_add planes key (number_of planes key)

-- none of the columns first to last is marked
unfoldable pub is_free : List (Option (ℕ × ℕ)) → ℕ → ℕ → Bool
is_free runs first last = list_all (λ r. is_none r) (slice_range runs first (last + 1))

-- plane i itself where the columns are free, else a new one of its key
unfoldable pub check_plane : List Plane → ℕ → Plane → ℕ → ℕ → PlaneChoice
check_plane planes i p first last = cond (is_free p.runs first last) (record { number = i; planes = planes }) (add planes p.key)

unfoldable pub check_some : List Plane → ℕ → Option Plane → ℕ → ℕ → PlaneChoice
check_some planes i None first last = record { number = i; planes = planes }
check_some planes i (Some p) first last = check_plane planes i p first last

unfoldable pub check : List Plane → ℕ → ℕ → ℕ → PlaneChoice
check planes i first last = check_some planes i (slice_get planes i) first last

-- the plane with its run of column x replaced
unfoldable pub with_run : Plane → ℕ → ℕ × ℕ → Plane
with_run p x rows = record { key = p.key; runs = slice_set p.runs x (Some rows) }

unfoldable pub mark_some : List Plane → ℕ → Option Plane → ℕ → ℕ × ℕ → List Plane
mark_some planes i None x rows = planes
mark_some planes i (Some p) x rows = slice_set planes i (with_run p x rows)

unfoldable pub mark : List Plane → ℕ → ℕ → ℕ × ℕ → List Plane
mark planes i x rows = mark_some planes i (slice_get planes i) x rows

unfoldable pub column : Plane → ℕ → Option (ℕ × ℕ)
column p x = slice_index_or p.runs x None

-- each plane has a place for each column of a frame
abbrev pub AreWide : List Plane → Type 0
AreWide planes = All (λ p. length p.runs ≡ FRAME_WIDTH) planes
