-- Laws of a stepper: it begins at the first column of its fragment, and goes on from column to column.
use Rattle.picture_rules.proofs.Common.{ap, arith, Bool, cond, eq-false_positive, false, FitsSigned, nat_tests, None, refl, Some, subst, suc, sym, w32, zero, ℕ, ◌+◌, ◌-◌, ◌<◌, ◌==◌, ◌∙◌, ◌≡◌, ◌≤◌}
use Rattle.picture_rules.specs.Words.{edges_at, edges_first, edges_plus, edges_step, FRAME_WIDTH}
use Rattle.picture_rules.specs.declared.wall.Edges.{Edges}
use Rattle.picture_rules.proofs.wall.EdgeLemmas.{edges_at-zero, edges_at-more}
use Rattle.wall_edges.specs.{declared.stepper.Stepper.Stepper, Fragments.FragmentValue}
use Rattle.wall_edges.specs.Steppers.{next_edges, one_column_on, next_stepper, stepper_after, IsAt}

begins : (f : FragmentValue) → f.first ≤ f.last → f.last < FRAME_WIDTH → FitsSigned w32 f.numbers.scale1 →
    IsAt f 0 (record { x = f.first; left = f.last - f.first + 1; now = edges_first f.shape f.numbers; step = edges_step f.numbers })
begins f ordered within fits = record {
  x = omega arith;
  left = omega arith;
  within = within;
  now = edges_at-zero f.shape f.numbers fits;
  step = refl;
}

-- the first column; a fragment f is what contracts see as g
pub at_first : (f g : FragmentValue) → f ≡ g → f.first ≤ f.last → f.last < FRAME_WIDTH → FitsSigned w32 f.numbers.scale1 →
    IsAt g 0 (record { x = f.first; left = f.last - f.first + 1; now = edges_first f.shape f.numbers; step = edges_step f.numbers })
at_first f g e ordered within fits =
    let is_at_first : FragmentValue → Type 0 = λ h. IsAt h 0 (record { x = f.first; left = f.last - f.first + 1; now = edges_first f.shape f.numbers; step = edges_step f.numbers }) in
    subst is_at_first e (begins f ordered within fits)

edges_on : (f : FragmentValue) (k : ℕ) (now step : Edges) → now ≡ edges_at f.shape f.numbers k → step ≡ edges_step f.numbers →
    edges_plus now step ≡ edges_at f.shape f.numbers (k + 1)
edges_on f k now step e g = let edges_one_more = edges_at-more f.shape f.numbers k (k + 1) refl in cc

-- one column on
pub at_next : (f : FragmentValue) (k : ℕ) (s : Stepper) → IsAt f k s → 0 < s.left → IsAt f (k + 1) (one_column_on s)
at_next f k s h l = record {
  x = omega arith;
  left = omega arith;
  within = h.within;
  now = edges_on f k s.now s.step h.now h.step;
  step = h.step;
}

at_more : (f : FragmentValue) (k : ℕ) (s : Stepper) → IsAt f k s → 0 < s.left → IsAt f (k + 1) (next_stepper s)
unfolding next_stepper
at_more f k s h l =
    let is_at_next : Bool → Type 0 = λ b. IsAt f (k + 1) (cond b s (one_column_on s)) in
    subst is_at_next (sym (eq-false_positive s.left l)) (at_next f k s h l)

-- a stepper that began at the first column stands, after k answers, at column number k, or behind the last one
pub at_column : (f : FragmentValue) (s : Stepper) (k : ℕ) → IsAt f 0 s → f.first + k ≤ f.last + 1 → IsAt f k (stepper_after k s)
unfolding stepper_after
at_column f s zero h l = h
at_column f s (suc k) h l =
    let is_at_column = at_column f s k h (omega arith) in
    let columns_are_left : 0 < (stepper_after k s).left = omega (arith, is_at_column.x, is_at_column.left) in
    let next_is : k + 1 ≡ suc k = omega arith in
    let next_is_at : ℕ → Type 0 = λ n. IsAt f n (next_stepper (stepper_after k s)) in
    subst next_is_at next_is (at_more f k (stepper_after k s) is_at_column columns_are_left)
