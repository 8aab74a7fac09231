-- The walls of a view and its planes as the drawn fragments so far make them.
use Rattle.std.specs.Prelude.{◌≡◌, ◌≤◌, ◌<◌, ◌++◌, ℕ, List, [], ◌∷◌, All, Option, None, find, length, map}
use Rattle.wall_columns.specs.Rules.{Finds, IsSoundNow, Limits, MAX_DRAWSEGS, OverLimit, Plane, PlaneKey, PlanesNow, Step, ViewValue, Wall, clip_before, openings_counts, openings_list, passes_limit, plane_counts, planes_count, view_notes, wall_of, wall_step}
use Rattle.visplanes.specs.Planes.{PlanesView}
use Rattle.wall_columns.specs.Walls.{WallsView, clip_at}

-- a fragment that is drawn in the view
pub record IsDrawn (v : ViewValue) (w : Wall) : Type 0 where
  pub is : w ≡ wall_of v w.facts w.first w.last
  pub ordered : w.first ≤ w.last
  pub within : w.last < v.shape.width

-- The fragments are drawn: what they noted and saved is there, what they left open is open, and the
-- planes are those of a leaf that is entered.
pub record IsBuilt (v : ViewValue) (walls : List Wall) (s : PlanesNow) (state : WallsView)
    (list : List Plane) : Type 0 where
  pub drawn : All (IsDrawn v) walls
  pub notes : state.notes ≡ view_notes v walls
  pub openings : state.openings ≡ openings_list v walls
  pub clips : (x : ℕ) → x < v.shape.width →
      clip_at state x ≡ clip_before v.shape walls (length walls) x
  pub height : state.height ≡ v.shape.height
  pub floor : state.floor ≡ s.floor
  pub ceiling : state.ceiling ≡ s.ceiling
  pub planes : list ≡ s.planes
  pub sound : IsSoundNow s

-- the fragments with one more, and the step that this one is
abbrev pub with_wall : List Wall → Wall → List Wall
with_wall walls w = walls ++ w ∷ []

abbrev pub step_of_wall : ViewValue → List Wall → Wall → Step
step_of_wall v walls w = wall_step v (with_wall walls w) (length walls) w

-- these fragments and planes are there, and a fragment more has room behind them
abbrev pub AreBehind : ViewValue → WallsView → List Plane → List Wall × PlanesNow → Type 0
AreBehind v state list behind = IsBuilt v behind.0 behind.1 state list × (length behind.0 < MAX_DRAWSEGS)

-- the step of a leaf that is entered
abbrev pub step_of_leaf : Option PlaneKey → Option PlaneKey → Step
step_of_leaf floor ceiling = record { event = Finds floor ceiling; openings = None }

-- how much there is room for
abbrev pub limits_of : WallsView → PlanesView → Limits
limits_of state planes = record { planes = planes.room; openings = state.room }

-- the first count of a step that passes its limit, if any
abbrev pub step_over : Limits → PlanesNow → ℕ → Step → Option OverLimit
step_over limits s openings e =
    find (passes_limit limits)
    (openings_counts openings e.openings ++ map planes_count (plane_counts s e.event))
