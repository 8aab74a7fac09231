-- Laws of `column_range`: its columns are in order and within the view.
use Rattle.word_rules.proofs.Common.{arith, Bool, cond, false, inl, inr, nat_le, nat_lt, nat_tests, None, Option, refl, Some, true, ℕ, ◌/◌, ◌<◌, ◌^◌, ◌≡◌, ◌≤◌, ◌⊎◌}
use Rattle.word_rules.specs.Words.{turn, turn_back, ang90, fine_angle}
use Rattle.view_rules.specs.{View.ViewValue}
use Rattle.view_rules.specs.declared.ColumnRange.TheVariants.{Columns}
use Rattle.view_rules.specs.{Tables.clip_angle, Tables.column_of_angle, Sound.IsSound}
use Rattle.view_rules.specs.Ranges.{clipped_end, clipped_left, clipped_right, column_at_angle, range_between, range_in_front}
use Rattle.view_rules.proofs.ColumnLemmas.{within_view-bound}

-- an angle of the view, counted from the right edge of what its tangents reach
abbrev reach : ℕ → ℕ
reach angle = turn angle ang90

end_cases : (twice past angle edge l : ℕ) (cut gone : Bool) → nat_lt twice past ≡ cut → cond cut (cond gone None (Some edge)) (Some angle) ≡ Some l → (l ≡ edge) ⊎ ((l ≡ angle) × (past ≤ twice))
end_cases twice past angle edge l true true t e = cc
end_cases twice past angle edge l true false t e = inl (cc)
end_cases twice past angle edge l false gone t e = let past_is_within : past ≤ twice = grind (arith, nat_tests) in inr (cc, past_is_within)

-- an end of a range is the edge, or its own angle where that is not past its edge
end_is : (clip span past angle edge l : ℕ) → clipped_end clip span past angle edge ≡ Some l → (l ≡ edge) ⊎ ((l ≡ angle) × (past ≤ turn clip clip))
unfolding clipped_end
end_is clip span past angle edge l e = end_cases (turn clip clip) past angle edge l (nat_lt (turn clip clip) past) (nat_le span (turn_back past (turn clip clip))) refl e

span_is : (a b w : ℕ) → a < 2 ^ 32 → b < 2 ^ 32 → w < 2 ^ 32 → turn_back a b ≡ turn_back (turn_back a w) (turn_back b w)
span_is a b w p q r = omega arith

both_within : (c a b : ℕ) → c < 2 ^ 30 → a < 2 ^ 32 → b < 2 ^ 32 → turn_back a b < 2 ^ 31 → turn a c ≤ turn c c → turn_back c b ≤ turn c c → (reach b ≤ reach a) × (reach a < 2 ^ 31)
both_within c a b h p q s l r = (omega arith, omega arith)

left_cut : (c b : ℕ) → c < 2 ^ 30 → b < 2 ^ 32 → turn_back c b ≤ turn c c → (reach b ≤ reach c) × (reach c < 2 ^ 31)
left_cut c b h q r = (omega arith, omega arith)

right_cut : (c a : ℕ) → c < 2 ^ 30 → a < 2 ^ 32 → turn a c ≤ turn c c → (reach (turn_back 0 c) ≤ reach a) × (reach a < 2 ^ 31)
right_cut c a h p l = (omega arith, omega arith)

both_cut : (c : ℕ) → c < 2 ^ 30 → (reach (turn_back 0 c) ≤ reach c) × (reach c < 2 ^ 31)
both_cut c h = (omega arith, omega arith)

-- the two ends of a range are in order, and less than a quarter turn off
pub ends_in_order : (c a b l r : ℕ) → c < 2 ^ 30 → a < 2 ^ 32 → b < 2 ^ 32 → turn_back a b < 2 ^ 31 → (span : ℕ) → clipped_left c span a ≡ Some l → clipped_right c span b ≡ Some r → (reach r ≤ reach l) × (reach l < 2 ^ 31)
unfolding clipped_left clipped_right
ends_in_order c a b l r h p q s span e f =
    elim (end_is c span (turn a c) a c l e) [
      | inl x ↦ elim (end_is c span (turn_back c b) b (turn_back 0 c) r f) [
        | inl y ↦ rw (x, y) (both_cut c h)
        | inr y ↦ rw (x, y.0) (left_cut c b h q y.1)
      ]
      | inr x ↦ elim (end_is c span (turn_back c b) b (turn_back 0 c) r f) [
        | inl y ↦ rw (x.0, y) (right_cut c a h p x.1)
        | inr y ↦ rw (x.0, y.0) (both_within c a b h p q s x.1 y.1)
      ]
    ]

fine_order : (l r : ℕ) → r ≤ l → l < 2 ^ 31 → (r / 2 ^ 19 ≤ l / 2 ^ 19) × (l / 2 ^ 19 < 4096)
fine_order l r h b = (omega arith, omega arith)

-- the columns of two ends in order
columns_in_order : (v : ViewValue) (l r : ℕ) → IsSound v.tables v.shape → reach r ≤ reach l → reach l < 2 ^ 31 → column_at_angle v l ≤ column_at_angle v r
unfolding column_at_angle
columns_in_order v l r s h b =
    let fine_ordered = fine_order (reach l) (reach r) h b in
    s.falling (fine_angle (reach r)) (fine_angle (reach l)) fine_ordered.0 fine_ordered.1

column_within : (v : ViewValue) (r : ℕ) → column_at_angle v r ≤ v.shape.width
unfolding column_at_angle column_of_angle
column_within v r = within_view-bound v.shape _

between : (v : ViewValue) (left right : Option ℕ) (x1 x2 : ℕ) → range_between v left right ≡ Columns x1 x2 → (l : ℕ) × (r : ℕ) × (left ≡ Some l) × (right ≡ Some r) × (x1 ≡ column_at_angle v l) × (x2 ≡ column_at_angle v r)
unfolding range_between
between v None right x1 x2 e = cc
between v (Some l) None x1 x2 e = cc
between v (Some l) (Some r) x1 x2 e = (l, r, refl, refl, cc, cc)

moved : (x1 x2 a b w : ℕ) → x1 ≡ a → x2 ≡ b → a ≤ b → b ≤ w → (x1 ≤ x2) × (x2 ≤ w)
moved x1 x2 a b w p q h k = (omega arith, omega arith)

-- the same, where the two angles are taken from the view's own
pub range_in_front-order : (v : ViewValue) (a b x1 x2 : ℕ) → IsSound v.tables v.shape → a < 2 ^ 32 → b < 2 ^ 32 → turn_back a b < 2 ^ 31 → (span : ℕ) → range_in_front v span a b ≡ Columns x1 x2 → (x1 ≤ x2) × (x2 ≤ v.shape.width)
unfolding range_in_front
range_in_front-order v a b x1 x2 s p q h span e =
    let both_ends = between v _ _ x1 x2 e in
    let order = ends_in_order (clip_angle v.tables v.shape) a b both_ends.0 both_ends.1 s.clip p q h span both_ends.2 both_ends.3 in
    moved x1 x2 _ _ v.shape.width both_ends.4 both_ends.5 (columns_in_order v both_ends.0 both_ends.1 s order.0 order.1) (column_within v both_ends.1)
