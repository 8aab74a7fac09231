-- The spans of a plane's rows (R_MakeSpans, r_plane.c).
use Rattle.std.specs.Prelude.{◌≡◌, ℕ, zero, suc, ◌-◌, ◌&&◌, nat_le, nat_lt, Bool, false, not, cond, List, map, Option, Some, None, refl}
use Rattle.picture_rules.specs.Rules.{FRAME_WIDTH, fragments}
use Rattle.picture_rules.specs.plane.Planes.{Plane, column}

-- the run holds row y
unfoldable pub holds_row : Option (ℕ × ℕ) → ℕ → Bool
holds_row None y = false
holds_row (Some r) y = nat_le r.0 y && nat_le y r.1

unfoldable pub holds : Plane → ℕ → ℕ → Bool
holds p y x = holds_row (column p x) y

-- the least column from which on every column to x passes, x itself taken as passing
unfoldable pub span_start : (ℕ → Bool) → ℕ → ℕ
span_start passes zero = 0
span_start passes (suc x) = cond (passes x) (span_start passes x) (suc x)

-- the columns that do not hold row y, as covered ones
unfoldable pub plane_gaps : Plane → ℕ → List Bool
plane_gaps p y = map (λ r. not (holds_row r y)) p.runs

-- the maximal runs of columns that hold row y, from left to right
unfoldable pub row_runs : Plane → ℕ → List (ℕ × ℕ)
row_runs p y = fragments (plane_gaps p y) 0 (FRAME_WIDTH - 1)

-- columns 2, 3 and 4 pass: from 5 back the span begins at 2
pub span_start_gap : span_start (λ x. nat_lt 1 x) 5 ≡ 2
unfolding span_start
span_start_gap = refl
