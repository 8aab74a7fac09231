-- Laws of rows: which row is in them, and the two parts of one column's rows that another does not have.
use Rattle.picture_rules.proofs.Common.{and_from, and_parts, and_right, ap, arith, Bool, both_ways, cases_lt, false, inl, inr, le-leb, le-ltb, leb-true, lt-leb, lt-ltb, ltb-true, nat_le, nat_lt, None, Option, Some, sym, true, ℕ, ◌&&◌, ◌+◌, ◌<◌, ◌∙◌, ◌≡◌, ◌≤◌, ◌⊎◌}
use Rattle.visplanes.specs.{declared.rows.Rows.Rows, Spans.rows_of, Spans.is_in}
use Rattle.picture_rules.specs.Words.{holds_row}

pub is_in-from : (rows : Rows) (y : ℕ) → rows.begin ≤ y → y < rows.end → is_in rows y ≡ true
unfolding is_in
is_in-from rows y l m = and_from (nat_le rows.begin y) (nat_lt y rows.end) (le-leb rows.begin y l) (lt-ltb y rows.end m)

pub is_in-parts : (rows : Rows) (y : ℕ) → is_in rows y ≡ true → (rows.begin ≤ y) × (y < rows.end)
unfolding is_in
is_in-parts rows y h = let bounds = and_parts (nat_le rows.begin y) (nat_lt y rows.end) h in (leb-true rows.begin y bounds.0, ltb-true y rows.end bounds.1)

-- a row that is not in them is above or below
pub is_in-not : (rows : Rows) (y : ℕ) → is_in rows y ≡ false → (y < rows.begin) ⊎ (rows.end ≤ y)
is_in-not rows y h =
    elim (cases_lt y rows.begin) [
      | inl a ↦ inl a
      | inr a ↦ elim (cases_lt y rows.end) [
        | inl b ↦ absurd (both_ways (is_in rows y) h (is_in-from rows y a b))
        | inr b ↦ inr b
      ]
    ]

-- no run has no row, and a run those that it holds
pub is_in-none : (y : ℕ) → is_in (record { begin = 0; end = 0 }) y ≡ false
unfolding is_in
is_in-none y = and_right (nat_le 0 y) (nat_lt y 0) (le-ltb y 0 (omega arith))

same_end : (y last : ℕ) → nat_lt y (last + 1) ≡ nat_le y last
same_end y last =
    elim (cases_lt last y) [
      | inl a ↦ le-ltb y (last + 1) (omega arith) ∙ sym (lt-leb y last a)
      | inr a ↦ lt-ltb y (last + 1) (omega arith) ∙ sym (le-leb y last a)
    ]

pub is_in-rows_of : (r : Option (ℕ × ℕ)) (y : ℕ) → is_in (rows_of r) y ≡ holds_row r y
unfolding is_in holds_row
is_in-rows_of None y = and_right (nat_le 0 y) (nat_lt y 0) (le-ltb y 0 (omega arith))
is_in-rows_of (Some r) y = ap (λ (b : Bool). nat_le r.0 y && b) (same_end y r.1)
