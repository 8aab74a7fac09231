-- How a cover keeps the covered columns: as ranges, apart and in order.
use Rattle.std.specs.Prelude.{ℕ, suc, ◌+◌, ◌-◌, ◌&&◌, ◌||◌, min, max, nat_lt, nat_le, Bool, true, false, cond, List, [], ◌∷◌}
use Rattle.std.specs.List.{list_any}
use Rattle.word_rules.specs.Listed.{listed}
use Rattle.node_walk.specs.declared.ranges.Range.{Range}

-- column x lies in the range
abbrev pub is_in_range : ℕ → Range → Bool
is_in_range x range = nat_le range.first x && nat_le x range.last

-- column x lies in one of the ranges
unfoldable pub is_within_range : List Range → ℕ → Bool
is_within_range ranges x = list_any (is_in_range x) ranges

-- the columns of a view of that width: true where a range covers them
unfoldable pub columns_of : ℕ → List Range → List Bool
columns_of width ranges = listed (is_within_range ranges) width

-- From column j on and before the width: each range is ordered, and at least one column lies between two.
abbrev pub are_apart : ℕ → ℕ → List Range → Bool
are_apart j width [] = true
are_apart j width (r ∷ rs) =
    nat_le j r.first && (nat_le r.first r.last && (nat_lt r.last width && are_apart (r.last + 2) width rs))

-- the range ends before column first, and at least one column lies between
abbrev pub ends_before : ℕ → Range → Bool
ends_before first range = nat_lt (range.last + 1) first

-- the range begins after column last, and at least one column lies between
abbrev pub starts_after : ℕ → Range → Bool
starts_after last range = nat_lt (last + 1) range.first

-- how many ranges at the front end before column first
abbrev pub ranges_before : ℕ → List Range → ℕ
ranges_before first [] = 0
ranges_before first (r ∷ rs) = cond (ends_before first r) (suc (ranges_before first rs)) 0

-- the least range that holds both
abbrev pub union : Range → Range → Range
union a b = record { first = min a.first b.first; last = max a.last b.last }

-- a range joined with those at the front that it touches
abbrev pub joined : Range → List Range → List Range
joined range [] = range ∷ []
joined range (r ∷ rs) = cond (starts_after range.last r) (range ∷ (r ∷ rs)) (joined (union range r) rs)

-- the ranges with one more
abbrev pub with_range : Range → List Range → List Range
with_range range [] = range ∷ []
with_range range (r ∷ rs) = cond (ends_before range.first r) (r ∷ with_range range rs) (joined range (r ∷ rs))

-- the first range that ends at column first or later has all of first to last
abbrev pub hides_in : ℕ → ℕ → List Range → Bool
hides_in first last [] = false
hides_in first last (r ∷ rs) = cond (nat_lt r.last first) (hides_in first last rs) (nat_le r.first first && nat_le last r.last)

-- the range_gaps between the ranges, from column at to column last
abbrev pub range_gaps : ℕ → ℕ → List Range → List (ℕ × ℕ)
range_gaps at last [] = cond (nat_lt last at) [] ((at, last) ∷ [])
range_gaps at last (r ∷ rs) =
    cond (nat_lt last at) []
    (cond (nat_lt at r.first) ((at, min last (r.first - 1)) ∷ range_gaps (r.last + 1) last rs)
    (range_gaps (max at (r.last + 1)) last rs))

-- column at lies before the first range, or is past the last column
abbrev pub is_open : ℕ → ℕ → List Range → Bool
is_open at last [] = true
is_open at last (r ∷ rs) = nat_lt last at || nat_lt at r.first
