-- Which columns of a view solid segs cover, and the runs that they leave (solidsegs, r_bsp.c). True is a covered column.
use Rattle.std.specs.Prelude.{◌≡◌, ℕ, ◌+◌, ◌-◌, ◌==◌, ◌≤◌, ◌⊎◌, Bool, true, false, cond, List, [], ◌∷◌, ◌++◌, take, drop, replicate, slice_range, slice_index_or, refl}
use Rattle.std.specs.List.{list_all}

-- the runs, with column i added on their left
unfoldable pub with_column : ℕ → List (ℕ × ℕ) → List (ℕ × ℕ)
with_column i [] = (i, i) ∷ []
with_column i (r ∷ rs) = cond (r.0 == i + 1) ((i, r.1) ∷ rs) ((i, i) ∷ (r ∷ rs))

-- the maximal runs of uncovered columns, each by its first and last column, where the columns begin at i
unfoldable pub runs : ℕ → List Bool → List (ℕ × ℕ)
runs i [] = []
runs i (true ∷ columns) = runs (i + 1) columns
runs i (false ∷ columns) = with_column i (runs (i + 1) columns)

-- the runs within first to last (R_ClipSolidWallSegment, R_ClipPassWallSegment)
unfoldable pub fragments : List Bool → ℕ → ℕ → List (ℕ × ℕ)
fragments columns first last = runs first (slice_range columns first (last + 1))

-- the columns with first to last covered
unfoldable pub cover : List Bool → ℕ → ℕ → List Bool
cover columns first last = take first columns ++ (replicate (last + 1 - first) true ++ drop (last + 1) columns)

-- each of the columns first to last is covered
unfoldable pub hides : List Bool → ℕ → ℕ → Bool
hides columns first last = list_all (λ c. c) (slice_range columns first (last + 1))

-- column x is covered
unfoldable pub is_covered : List Bool → ℕ → Bool
is_covered columns x = slice_index_or columns x true

-- p to q is a maximal run of uncovered columns within first to last: what `fragments` lists, by the theorems in proofs/RunLemmas
pub record IsFragment (columns : List Bool) (first last p q : ℕ) : Type 0 where
  pub begins : first ≤ p
  pub ordered : p ≤ q
  pub ends : q ≤ last
  pub is_open : (x : ℕ) → p ≤ x → x ≤ q → is_covered columns x ≡ false
  pub left : (p ≡ first) ⊎ (is_covered columns (p - 1) ≡ true)
  pub right : (q ≡ last) ⊎ (is_covered columns (q + 1) ≡ true)

-- the columns of the rows below: 10 to 19 and 21 to 30 are covered
unfoldable pub row_columns : List Bool
row_columns = cover (cover (replicate 320 false) 10 19) 21 30

-- 0 to 9, 20 alone and 31 to 40 are left of 0 to 40
pub fragments_row : fragments row_columns 0 40 ≡ (0, 9) ∷ (20, 20) ∷ (31, 40) ∷ []
unfolding fragments runs with_column cover row_columns
fragments_row = refl

pub no_fragments_row : fragments row_columns 21 30 ≡ []
unfolding fragments runs with_column cover row_columns
no_fragments_row = refl

pub hides_row : hides row_columns 12 18 ≡ true
unfolding hides cover row_columns
hides_row = refl

pub hides_not_row : hides row_columns 12 20 ≡ false
unfolding hides cover row_columns
hides_not_row = refl
