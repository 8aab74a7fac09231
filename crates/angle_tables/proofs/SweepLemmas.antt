-- Laws of the sweep over the columns: `fine_of_column` from one column to the next.
use Rattle.word_rules.proofs.Common.{arith, Bool, false, int_le, ints, None, Option, pos, refl, Some, unwrap_or, ℕ, ℤ, ◌<◌, ◌≡◌, ◌≤◌}
use Rattle.angle_tables.specs.Rules.{Angles, TANGENTS, ViewShape, fine_of_column, first_seen_by, focal_length, is_seen_by, least, raw_column, tangent_at}
use Rattle.word_rules.proofs.LeastLemmas.{least-is}

further_left : (column : ℤ) (left x : ℕ) → left ≤ x → int_le column (pos x) ≡ false → int_le column (pos left) ≡ false
further_left column left x h e = grind (arith, ints)

below_first : (p : ℕ → Bool) (n k : ℕ) (o : Option ℕ) → least p n ≡ o → k < unwrap_or o 0 → p k ≡ false
below_first p n k None e h = absurd (omega arith)
below_first p n k (Some i) e h = (least-is p n i e).2 k h

-- no fine angle below that of column x is seen at x or further left
pub fine_of_column-below : (t : Angles) (shape : ViewShape) (x k left : ℕ) → k < fine_of_column t shape x → left ≤ x → is_seen_by t shape (focal_length t shape) left k ≡ false
unfolding fine_of_column first_seen_by is_seen_by
fine_of_column-below t shape x k left h l =
    further_left (raw_column shape (focal_length t shape) (tangent_at t k)) left x l
    (below_first (is_seen_by t shape (focal_length t shape) x) TANGENTS k (least (is_seen_by t shape (focal_length t shape) x) TANGENTS) refl h)
