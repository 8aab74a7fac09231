-- A stepper: what it answers, what it is then, and where on a fragment it stands (R_RenderSegLoop, r_segs.c).
use Rattle.std.specs.Prelude.{◌≡◌, ℕ, zero, suc, ◌+◌, ◌-◌, ◌%◌, ◌^◌, ◌<◌, ◌==◌, cond, Option, Some, None}
use Rattle.picture_rules.specs.Words.{edges_at, edges_plus, edges_step, FRAME_WIDTH}
use Rattle.picture_rules.specs.declared.wall.Edges.{Edges}
use Rattle.wall_edges.specs.{Fragments.FragmentValue, declared.stepper.Stepper.Stepper}

-- its edges, where a column is left
unfoldable pub next_edges : Stepper → Option Edges
next_edges s = cond (s.left == 0) None (Some s.now)

-- one column on, where one is left
abbrev pub one_column_on : Stepper → Stepper
one_column_on s = record { x = (s.x + 1) % 2 ^ 16; left = s.left - 1; now = edges_plus s.now s.step; step = s.step }

unfoldable pub next_stepper : Stepper → Stepper
next_stepper s = cond (s.left == 0) s (one_column_on s)

-- the stepper after so many answers
unfoldable pub stepper_after : ℕ → Stepper → Stepper
stepper_after zero s = s
stepper_after (suc k) s = next_stepper (stepper_after k s)

-- it stands at column number k of a fragment, or behind its last one
pub record IsAt (f : FragmentValue) (k : ℕ) (s : Stepper) : Type 0 where
  pub x : s.x ≡ f.first + k
  pub left : s.x + s.left ≡ f.last + 1
  pub within : f.last < FRAME_WIDTH
  pub now : s.now ≡ edges_at f.shape f.numbers k
  pub step : s.step ≡ edges_step f.numbers
