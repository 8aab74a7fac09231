-- Laws of the nine shapes: a view lies within the frame.
use Rattle.word_rules.proofs.Common.{arith, Bool, cond, false, nat_tests, refl, subst, sym, true, ℕ, ◌*◌, ◌+◌, ◌-◌, ◌/◌, ◌<◌, ◌==◌, ◌≡◌, ◌≤◌}
use Rattle.view_rules.specs.declared.TheConstants.{MIN_SIZE, MAX_SIZE, WIDEST_SIZE, FRAME_HEIGHT, ROWS_ABOVE_BAR, ROWS_STEP}
use Rattle.view_rules.specs.{declared.ViewShape.ViewShape, Sound.IsShape, Sound.IsWithinFrame}
use Rattle.view_rules.specs.Shape.{width_of_size, height_of_size, left_of_size, top_of_size, shape_of_size}

height_cases : (size : ℕ) (b : Bool) → MIN_SIZE ≤ size → size ≤ MAX_SIZE → (size == MAX_SIZE) ≡ b →
    (0 < cond b FRAME_HEIGHT (size * ROWS_ABOVE_BAR / WIDEST_SIZE / ROWS_STEP * ROWS_STEP))
    × (cond b 0 ((ROWS_ABOVE_BAR - cond b FRAME_HEIGHT (size * ROWS_ABOVE_BAR / WIDEST_SIZE / ROWS_STEP * ROWS_STEP)) / 2)
    + cond b FRAME_HEIGHT (size * ROWS_ABOVE_BAR / WIDEST_SIZE / ROWS_STEP * ROWS_STEP) ≤ FRAME_HEIGHT)
    × (cond b FRAME_HEIGHT (size * ROWS_ABOVE_BAR / WIDEST_SIZE / ROWS_STEP * ROWS_STEP) / 2
    + cond b FRAME_HEIGHT (size * ROWS_ABOVE_BAR / WIDEST_SIZE / ROWS_STEP * ROWS_STEP) / 2
    ≡ cond b FRAME_HEIGHT (size * ROWS_ABOVE_BAR / WIDEST_SIZE / ROWS_STEP * ROWS_STEP))
height_cases size true l g e = (omega arith, omega arith, refl)
height_cases size false l g e = (omega arith, grind (arith, nat_tests), omega arith)

size_within : (size : ℕ) → MIN_SIZE ≤ size → size ≤ MAX_SIZE → IsWithinFrame (shape_of_size size)
unfolding shape_of_size width_of_size height_of_size left_of_size top_of_size
size_within size l g =
    let height_bounds = height_cases size (size == MAX_SIZE) l g refl in
    record {
      width = omega arith;
      height = height_bounds.1;
      columns = omega arith;
      rows = height_bounds.0;
      centre_x = omega arith;
      centre_y = height_bounds.2;
    }

-- a view of one of the nine shapes lies within the frame, and its centre is in its middle
pub within_frame : (shape : ViewShape) → IsShape shape → IsWithinFrame shape
within_frame shape s = subst IsWithinFrame (sym s.is) (size_within s.size s.least s.greatest)
