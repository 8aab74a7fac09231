-- Tables that nothing refuses are sound.
use Rattle.word_rules.proofs.Common.{and-second_false, ap, arith, Bool, cases_lt, cond, div_below, false, inl, inr, int_lt, ints, le-from_lt_false, nat_le, nat_lt, nat_tests, negsuc, None, Option, or_else-none, pos, refl, slice_index_or, Some, suc, true, zero, ℕ, ℤ, ≤ℤ_refl, ◌%◌, ◌*◌, ◌+◌, ◌-◌, ◌/◌, ◌<◌, ◌^◌, ◌||◌, ◌∙◌, ◌≡◌, ◌≤ℤ◌, ◌≤◌}
use Rattle.word_rules.specs.{Words.div, Words.ang90, Least.least}
use Rattle.word_rules.proofs.LeastLemmas.{none-below, least-is}
use Rattle.view_rules.specs.declared.TheConstants.{TANGENTS, EDGE_TANGENT, MIN_EDGE_TANGENT}
use Rattle.view_rules.specs.declared.TablesRefusal.{TablesRefusal}
use Rattle.view_rules.specs.declared.TablesRefusal.TheVariants.{Tangent}
use Rattle.view_rules.specs.{declared.ViewShape.ViewShape, Angles.Angles, Angles.tangent_at}
use Rattle.view_rules.specs.{Shape.shape_of_size, Shape.width_of_size, Sound.IsShape, Sound.IsSound}
use Rattle.view_rules.specs.Tables.{focal_length, column_of_angle, is_seen_by, first_seen_by, fine_of_column, angle_of_column, clip_angle}
use Rattle.view_rules.specs.Refusals.{is_wrong_tangent, is_wrong_edge, is_wrong_left, is_wrong_view, refused_at, tangent_refusal, view_refusal, angles_refusal}
use Rattle.view_rules.proofs.ColumnLemmas.{projection_is, raw_column-falls, within_view-mono}

refused_at-none : (f : ℕ → TablesRefusal) (o : Option ℕ) → refused_at f o ≡ None → o ≡ None
refused_at-none f None e = refl
refused_at-none f (Some i) e = cc

or-false : (a b : Bool) → (a || b) ≡ false → (a ≡ false) × (b ≡ false)
or-false true b e = cc
or-false false b e = (refl, e)

cond-none : (b : Bool) (r : TablesRefusal) → cond b (Some r) None ≡ None → b ≡ false
cond-none true r e = cc
cond-none false r e = refl

positive : (n : ℕ) → 0 < n → nat_lt 0 n ≡ true
positive n h = grind (arith, nat_tests)

not_lt : (a b : ℤ) → int_lt a b ≡ false → b ≤ℤ a
not_lt a b e = grind (arith, ints)

-- no tangent is below the one before it
rise : (t : Angles) → tangent_refusal t.tangent ≡ None → (n : ℕ) → 0 < n → n < TANGENTS → tangent_at t (n - 1) ≤ℤ tangent_at t n
unfolding tangent_refusal is_wrong_tangent tangent_at
rise t e n p h =
    let none_wrong = refused_at-none Tangent (least (is_wrong_tangent t.tangent) TANGENTS) e in
    let tangent_not_wrong = none-below (is_wrong_tangent t.tangent) TANGENTS none_wrong n h in
    not_lt (slice_index_or t.tangent n (pos 0)) (slice_index_or t.tangent (n - 1) (pos 0)) (and-second_false (nat_lt 0 n) _ (positive n p) tangent_not_wrong)

rising : (t : Angles) → ((n : ℕ) → 0 < n → n < TANGENTS → tangent_at t (n - 1) ≤ℤ tangent_at t n) → (i k : ℕ) → i ≤ k → k < TANGENTS → tangent_at t i ≤ℤ tangent_at t k
rising t step i zero h l = let index_is_zero : i ≡ 0 = omega arith in rw index_is_zero (≤ℤ_refl (tangent_at t 0))
rising t step i (suc k) h l =
    elim (cases_lt i (suc k)) [
      | inl b ↦
          let index_back_is : suc k - 1 ≡ k = omega arith in
          let last_step_rises : tangent_at t k ≤ℤ tangent_at t (suc k) = rw index_back_is at (step (suc k) (omega arith) l) in
          let rises_before = rising t step i k (omega arith) (omega arith) in
          omega (arith, ints)
      | inr a ↦ let index_is : i ≡ suc k = omega arith in rw index_is (≤ℤ_refl (tangent_at t (suc k)))
    ]

div_is : (p n : ℕ) → p / 2 ^ 14 < n → div (pos p) (pos n) ≡ pos (p * 65536 / n)
unfolding div
div_is p n h = let quotient_small : nat_le n (p / 2 ^ 14) ≡ false = grind (arith, nat_tests) in rw quotient_small

-- the focal length of a tangent that is no less than a half
quotient_is : (p : ℕ) (edge : ℤ) → p ≤ 10485760 → pos 32768 ≤ℤ edge → (m : ℕ) × (m ≤ 20971520) × (div (pos p) edge ≡ pos m)
quotient_is p (pos n) b l =
    let at_least_half : 32768 ≤ n = omega (arith, ints) in
    let quotient_below = div_below (p * 65536) n 20971521 (omega arith) (omega arith) in
    (p * 65536 / n, omega arith, div_is p n (omega arith))
quotient_is p (negsuc n) b l = absurd (omega (arith, ints))

centre_bound : (shape : ViewShape) → IsShape shape → shape.centre_x ≤ 160
unfolding shape_of_size width_of_size
centre_bound shape s =
    let centre_is : shape.centre_x ≡ width_of_size s.size / 2 = ap (λ (r : ViewShape). r.centre_x) s.is in omega arith

focal_is : (t : Angles) (shape : ViewShape) → IsShape shape → is_wrong_edge t ≡ false → (m : ℕ) × (m ≤ 20971520) × (focal_length t shape ≡ pos m)
unfolding focal_length is_wrong_edge
focal_is t shape s e =
    let centre_within = centre_bound shape s in
    let edge_at_least = not_lt (tangent_at t EDGE_TANGENT) MIN_EDGE_TANGENT (or-false _ _ e).0 in
    let focal_quotient = quotient_is (shape.centre_x * 65536) (tangent_at t EDGE_TANGENT) (omega arith) edge_at_least in
    (focal_quotient.0, focal_quotient.1, ap (λ (p : ℤ). div p (tangent_at t EDGE_TANGENT)) (projection_is shape centre_within) ∙ focal_quotient.2)

falling : (t : Angles) (shape : ViewShape) (m : ℕ) → shape.centre_x ≤ 160 → m ≤ 20971520 → focal_length t shape ≡ pos m → (i k : ℕ) → tangent_at t i ≤ℤ tangent_at t k → column_of_angle t shape k ≤ column_of_angle t shape i
unfolding column_of_angle
falling t shape m c b e i k h =
    rw e (within_view-mono shape _ _ (raw_column-falls shape m (tangent_at t i) (tangent_at t k) c b h))

left_is : (o : Option ℕ) → is_wrong_left o ≡ false → (i : ℕ) × (o ≡ Some i) × (2049 ≤ i)
left_is None e = cc
left_is (Some i) e = (i, refl, le-from_lt_false i 2049 e)

edge_angle : (i : ℕ) → 2049 ≤ i → i < 4096 → (i * 2 ^ 19 + (2 ^ 32 - 2 ^ 30)) % 2 ^ 32 < 2 ^ 30
edge_angle i l h = omega arith

clipped : (t : Angles) (shape : ViewShape) → is_wrong_left (first_seen_by t shape 0) ≡ false → clip_angle t shape < ang90
unfolding clip_angle angle_of_column fine_of_column first_seen_by
clipped t shape e =
    let left_seen = left_is (first_seen_by t shape 0) e in
    let least_seen = least-is (is_seen_by t shape (focal_length t shape) 0) TANGENTS left_seen.0 left_seen.1 in
    rw (left_seen.1) (edge_angle left_seen.0 left_seen.2 least_seen.0)

-- tables that nothing refuses are sound
pub sound_by_refusal : (t : Angles) (shape : ViewShape) → IsShape shape → angles_refusal t shape ≡ None → IsSound t shape
unfolding angles_refusal view_refusal is_wrong_view
sound_by_refusal t shape s e =
    let after_sines = (or_else-none _ _ e).1 in
    let tangents = or_else-none _ _ after_sines in
    let view = cond-none _ _ (or_else-none _ _ tangents.1).1 in
    let both_false = or-false _ _ view in
    let focal = focal_is t shape s both_false.0 in
    record {
      shaped = s;
      falling = λ i k h l. falling t shape focal.0 (centre_bound shape s) focal.1 focal.2 i k (rising t (rise t tangents.0) i k h l);
      clip = clipped t shape both_false.1;
    }
