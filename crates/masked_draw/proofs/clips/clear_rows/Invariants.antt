use Rattle.picture_rules.proofs.Common.{None, ℕ, ◌<◌, ◌≡◌, ◌≤◌, ◌⊎◌}
use Rattle.masked_draw.specs.Clipped.{row_in}
use Rattle.masked_draw.proofs.clips.clear_rows.Given as goal

abbrev pub invariant-loop-x : goal.invariant-loop-x
invariant-loop-x l =
    ((x : ℕ) → l.first ≤ x → x < l.x → row_in l.rows x ≡ None) × ((x : ℕ) → (x < l.first) ⊎ (l.x ≤ x) → row_in l.rows x ≡ row_in l.initial.rows x)
