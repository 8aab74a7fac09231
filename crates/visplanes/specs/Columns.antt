-- How a plane keeps its runs: a byte for the top and one for the bottom of each column of a frame, and the least and the
-- greatest marked column.
use Rattle.std.specs.Prelude.{◌≡◌, ℕ, ◌<◌, ◌≤◌, ◌≢◌, ◌==◌, ◌⊎◌, cond, List, Option, Some, None, length, slice_index}
use Rattle.visplanes.specs.Rules.{FRAME_HEIGHT, FRAME_WIDTH, Plane, PlaneKey, listed}
use Rattle.visplanes.specs.declared.columns.TheConstants.{NO_RUN}

-- the run of column x
unfoldable pub run_at : List ℕ → List ℕ → ℕ → Option (ℕ × ℕ)
run_at tops bottoms x = cond (slice_index tops x == NO_RUN) None (Some (slice_index tops x, slice_index bottoms x))

unfoldable pub runs_of : List ℕ → List ℕ → List (Option (ℕ × ℕ))
runs_of tops bottoms = listed (run_at tops bottoms) FRAME_WIDTH

-- the plane that is kept so
abbrev pub plane_of : PlaneKey → List ℕ → List ℕ → Plane
plane_of key tops bottoms = record { key = key; runs = runs_of tops bottoms }

pub record IsKept (tops bottoms : List ℕ) (first last : ℕ) : Type 0 where
  pub top_bytes : length tops ≡ FRAME_WIDTH
  pub bottom_bytes : length bottoms ≡ FRAME_WIDTH
  -- outside first to last no column is marked
  pub before : (x : ℕ) → x < FRAME_WIDTH → x < first → slice_index tops x ≡ NO_RUN
  pub after : (x : ℕ) → x < FRAME_WIDTH → last < x → slice_index tops x ≡ NO_RUN
  -- first and last are marked, and are the frame's width and 0 where no column is
  pub start : first ≤ FRAME_WIDTH
  pub within : last < FRAME_WIDTH
  pub least : first < FRAME_WIDTH → slice_index tops first ≢ NO_RUN
  pub greatest : first < FRAME_WIDTH → slice_index tops last ≢ NO_RUN
  pub none : first ≡ FRAME_WIDTH → last ≡ 0
  -- a run has a row, and its rows are in a frame
  pub ordered : (x : ℕ) → x < FRAME_WIDTH → (slice_index tops x ≡ NO_RUN) ⊎ (slice_index tops x ≤ slice_index bottoms x)
  pub rows : (x : ℕ) → x < FRAME_WIDTH → slice_index bottoms x < FRAME_HEIGHT

-- one of the columns first to last is marked
pub record HasRun (tops : List ℕ) (first last : ℕ) : Type 0 where
  pub x : ℕ
  pub from : first ≤ x
  pub to : x ≤ last
  pub run : slice_index tops x ≢ NO_RUN
