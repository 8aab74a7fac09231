-- Laws of `runs` and `fragments`: they are exactly the maximal uncovered runs, in order and apart.
use Rattle.word_rules.proofs.Common.{[], All, All-from_recursion, AllByRecursion, AllPairs, ap, arith, Bool, cases_eq, cases_lt, cond, Contains, drop, false, get_or, get_or-drop, get_or-take, get_or_past, inl, inr, length, length-take, List, refl, subst, suc, sym, take, true, zero, ℕ, ◌+◌, ◌-◌, ◌<◌, ◌==◌, ◌∙◌, ◌∷◌, ◌≡◌, ◌≢◌, ◌≤◌, ◌⊎◌}
use Rattle.level_rules.specs.walk.Covered.{with_column, runs, fragments, is_covered, IsFragment}

-- the runs begin at column j or later, each ends before the next begins, and at least one column is between
abbrev pub AreApart : ℕ → List (ℕ × ℕ) → Type 0
AreApart j [] = Unit {0}
AreApart j (r ∷ rs) = (j ≤ r.0) × (r.0 ≤ r.1) × AreApart (r.1 + 2) rs

apart_from : (i j : ℕ) (rs : List (ℕ × ℕ)) → i ≤ j → AreApart j rs → AreApart i rs
apart_from i j [] l a = tt
apart_from i j (r ∷ rs) l a = (omega arith, a.1, a.2)

apart_joined : (i : ℕ) (r : ℕ × ℕ) (rs : List (ℕ × ℕ)) → AreApart (i + 1) (r ∷ rs) → (b : Bool) → (r.0 == i + 1) ≡ b →
    AreApart i (cond b ((i, r.1) ∷ rs) ((i, i) ∷ (r ∷ rs)))
apart_joined i r rs a true e = (omega arith, omega arith, a.2)
apart_joined i r rs a false e = (omega arith, omega arith, (grind arith, a.1, a.2))

pub apart-with_column : (i : ℕ) (rs : List (ℕ × ℕ)) → AreApart (i + 1) rs → AreApart i (with_column i rs)
unfolding with_column
apart-with_column i [] a = (omega arith, omega arith, tt)
apart-with_column i (r ∷ rs) a = apart_joined i r rs a (r.0 == i + 1) refl

pub apart-runs : (i : ℕ) (columns : List Bool) → AreApart i (runs i columns)
unfolding runs
apart-runs i [] = tt
apart-runs i (true ∷ columns) = apart_from i (i + 1) (runs (i + 1) columns) (omega arith) (apart-runs (i + 1) columns)
apart-runs i (false ∷ columns) = apart-with_column i (runs (i + 1) columns) (apart-runs (i + 1) columns)

-- p to q is a maximal uncovered run, where the columns begin at i
record IsRun (i : ℕ) (columns : List Bool) (p q : ℕ) : Type 0 where
  from : i ≤ p
  ordered : p ≤ q
  open_at : (k : ℕ) → p ≤ i + k → i + k ≤ q → get_or columns k true ≡ false
  left : (k : ℕ) → i + k + 1 ≡ p → get_or columns k true ≡ true
  right : (k : ℕ) → i + k ≡ q + 1 → get_or columns k true ≡ true

-- a column more on the left, which is covered where the run begins beside it
open_later : (i : ℕ) (b : Bool) (columns : List Bool) (p q : ℕ) → IsRun (i + 1) columns p q → (k : ℕ) → p ≤ i + k → i + k ≤ q →
    get_or (b ∷ columns) k true ≡ false
open_later i b columns p q r zero l m = absurd (omega (arith, r.from))
open_later i b columns p q r (suc k) l m = r.open_at k (omega arith) (omega arith)

left_later : (i : ℕ) (b : Bool) (columns : List Bool) (p q : ℕ) → IsRun (i + 1) columns p q → (p ≡ i + 1 → b ≡ true) → (k : ℕ) → i + k + 1 ≡ p →
    get_or (b ∷ columns) k true ≡ true
left_later i b columns p q r h zero e = h (omega arith)
left_later i b columns p q r h (suc k) e = r.left k (omega arith)

right_later : (i : ℕ) (b : Bool) (columns : List Bool) (p q : ℕ) → IsRun (i + 1) columns p q → (k : ℕ) → i + k ≡ q + 1 → get_or (b ∷ columns) k true ≡ true
right_later i b columns p q r zero e = absurd (omega (arith, r.from, r.ordered))
right_later i b columns p q r (suc k) e = r.right k (omega arith)

run_later : (i : ℕ) (b : Bool) (columns : List Bool) (p q : ℕ) → IsRun (i + 1) columns p q → (p ≡ i + 1 → b ≡ true) → IsRun i (b ∷ columns) p q
run_later i b columns p q r h = record {
  from = omega (arith, r.from);
  ordered = r.ordered;
  open_at = open_later i b columns p q r;
  left = left_later i b columns p q r h;
  right = right_later i b columns p q r;
}

-- an uncovered column is added to the run that begins beside it
open_joined : (i : ℕ) (columns : List Bool) (q : ℕ) → IsRun (i + 1) columns (i + 1) q → (k : ℕ) → i ≤ i + k → i + k ≤ q →
    get_or (false ∷ columns) k true ≡ false
open_joined i columns q r zero l m = refl
open_joined i columns q r (suc k) l m = r.open_at k (omega arith) (omega arith)

run_joined : (i : ℕ) (columns : List Bool) (q : ℕ) → IsRun (i + 1) columns (i + 1) q → IsRun i (false ∷ columns) i q
run_joined i columns q r = record {
  from = omega arith;
  ordered = omega (arith, r.ordered);
  open_at = open_joined i columns q r;
  left = λ k e. absurd (omega arith);
  right = right_later i false columns (i + 1) q r;
}

-- an uncovered column is a run alone where the column beside it is covered
open_alone : (i : ℕ) (columns : List Bool) (k : ℕ) → i ≤ i + k → i + k ≤ i → get_or (false ∷ columns) k true ≡ false
open_alone i columns zero l m = refl
open_alone i columns (suc k) l m = absurd (omega arith)

right_alone : (i : ℕ) (columns : List Bool) → get_or columns 0 true ≡ true → (k : ℕ) → i + k ≡ i + 1 → get_or (false ∷ columns) k true ≡ true
right_alone i columns c zero e = absurd (omega arith)
right_alone i columns c (suc zero) e = c
right_alone i columns c (suc (suc k)) e = absurd (omega arith)

run_alone : (i : ℕ) (columns : List Bool) → get_or columns 0 true ≡ true → IsRun i (false ∷ columns) i i
run_alone i columns c = record {
  from = omega arith;
  ordered = omega arith;
  open_at = open_alone i columns;
  left = λ k e. absurd (omega arith);
  right = right_alone i columns c;
}

-- the first run begins at the first column, or that is covered
abbrev BeginsAt : ℕ → List (ℕ × ℕ) → Type 0
BeginsAt i [] = ⊥
BeginsAt i (r ∷ rs) = r.0 ≡ i

begins_joined : (i : ℕ) (r : ℕ × ℕ) (rs : List (ℕ × ℕ)) (b : Bool) → BeginsAt i (cond b ((i, r.1) ∷ rs) ((i, i) ∷ (r ∷ rs)))
begins_joined i r rs true = refl
begins_joined i r rs false = refl

begins-with_column : (i : ℕ) (rs : List (ℕ × ℕ)) → BeginsAt i (with_column i rs)
unfolding with_column
begins-with_column i [] = refl
begins-with_column i (r ∷ rs) = begins_joined i r rs (r.0 == i + 1)

begins-runs : (i : ℕ) (columns : List Bool) → BeginsAt i (runs i columns) ⊎ (get_or columns 0 true ≡ true)
unfolding runs
begins-runs i [] = inr refl
begins-runs i (true ∷ columns) = inr refl
begins-runs i (false ∷ columns) = inl (begins-with_column i (runs (i + 1) columns))

abbrev AreRuns : ℕ → List Bool → List (ℕ × ℕ) → Type 0
AreRuns i columns rs = AllByRecursion (λ r. IsRun i columns r.0 r.1) rs

-- each of the runs past the first begins later than at i + 1
runs_later : (i j : ℕ) (columns : List Bool) (rs : List (ℕ × ℕ)) → i + 1 < j → AreApart j rs → AllByRecursion (λ r. IsRun (i + 1) columns r.0 r.1) rs →
    AreRuns i (false ∷ columns) rs
runs_later i j columns [] l a s = tt
runs_later i j columns (r ∷ rs) l a s =
    (run_later i false columns r.0 r.1 s.0 (λ e. absurd (omega arith)), runs_later i (r.1 + 2) columns rs (omega arith) a.2 s.1)

covered_later : (i : ℕ) (columns : List Bool) (rs : List (ℕ × ℕ)) → AreRuns (i + 1) columns rs → AreRuns i (true ∷ columns) rs
covered_later i columns [] s = tt
covered_later i columns (r ∷ rs) s = (run_later i true columns r.0 r.1 s.0 (λ e. refl), covered_later i columns rs s.1)

begins_false : (i : ℕ) (r : ℕ × ℕ) (rs : List (ℕ × ℕ)) (columns : List Bool) → (r.0 == i + 1) ≡ false →
    BeginsAt (i + 1) (r ∷ rs) ⊎ (get_or columns 0 true ≡ true) → get_or columns 0 true ≡ true
begins_false i r rs columns e (inl b) = absurd (grind arith)
begins_false i r rs columns e (inr c) = c

are_joined : (i : ℕ) (columns : List Bool) (r : ℕ × ℕ) (rs : List (ℕ × ℕ)) → AreApart (i + 1) (r ∷ rs) → BeginsAt (i + 1) (r ∷ rs) ⊎ (get_or columns 0 true ≡ true) → AreRuns (i + 1) columns (r ∷ rs) → (b : Bool) → (r.0 == i + 1) ≡ b → AreRuns i (false ∷ columns) (cond b ((i, r.1) ∷ rs) ((i, i) ∷ (r ∷ rs)))
are_joined i columns r rs a c s true e =
    let touches : r.0 ≡ i + 1 = grind arith in
    (run_joined i columns r.1 (subst (λ (p : ℕ). IsRun (i + 1) columns p r.1) touches s.0), runs_later i (r.1 + 2) columns rs (omega arith) a.2 s.1)
are_joined i columns r rs a c s false e =
    let is_behind : i + 1 < r.0 = grind arith in
    (run_alone i columns (begins_false i r rs columns e c), runs_later i r.0 columns (r ∷ rs) is_behind (omega arith, a.1, a.2) s)

are-with_column : (i : ℕ) (columns : List Bool) (rs : List (ℕ × ℕ)) → AreApart (i + 1) rs → BeginsAt (i + 1) rs ⊎ (get_or columns 0 true ≡ true) →
    AreRuns (i + 1) columns rs → AreRuns i (false ∷ columns) (with_column i rs)
unfolding with_column
are-with_column i columns [] a (inl b) s = absurd b
are-with_column i columns [] a (inr c) s = (run_alone i columns c, tt)
are-with_column i columns (r ∷ rs) a c s = are_joined i columns r rs a c s (r.0 == i + 1) refl

are-runs : (i : ℕ) (columns : List Bool) → AreRuns i columns (runs i columns)
unfolding runs
are-runs i [] = tt
are-runs i (true ∷ columns) = covered_later i columns (runs (i + 1) columns) (are-runs (i + 1) columns)
are-runs i (false ∷ columns) =
    are-with_column i columns (runs (i + 1) columns) (apart-runs (i + 1) columns) (begins-runs (i + 1) columns) (are-runs (i + 1) columns)

-- the list has this run
abbrev Has : List (ℕ × ℕ) → ℕ → ℕ → Type 0
Has [] p q = ⊥
Has (r ∷ rs) p q = ((r.0 ≡ p) × (r.1 ≡ q)) ⊎ Has rs p q

has_past : (j p q : ℕ) (rs : List (ℕ × ℕ)) → AreApart j rs → Has rs p q → j ≤ p
has_past j p q [] a h = absurd h
has_past j p q (r ∷ rs) a (inl h) = omega arith
has_past j p q (r ∷ rs) a (inr h) = let rest_past : r.1 + 2 ≤ p = has_past (r.1 + 2) p q rs a.2 h in omega arith

-- a run that begins past i + 1 is still there when column i is added
has_joined : (i p q : ℕ) (r : ℕ × ℕ) (rs : List (ℕ × ℕ)) → i + 1 < p → Has (r ∷ rs) p q → (b : Bool) → (r.0 == i + 1) ≡ b →
    Has (cond b ((i, r.1) ∷ rs) ((i, i) ∷ (r ∷ rs))) p q
has_joined i p q r rs l (inl h) true e = absurd (grind arith)
has_joined i p q r rs l (inr h) true e = inr h
has_joined i p q r rs l h false e = inr h

has-with_column : (i p q : ℕ) (rs : List (ℕ × ℕ)) → i + 1 < p → Has rs p q → Has (with_column i rs) p q
unfolding with_column
has-with_column i p q [] l h = absurd h
has-with_column i p q (r ∷ rs) l h = has_joined i p q r rs l h (r.0 == i + 1) refl

-- the run at i + 1 is the first one and is joined
first_joined : (i q : ℕ) (r : ℕ × ℕ) (rs : List (ℕ × ℕ)) → AreApart (i + 1) (r ∷ rs) → Has (r ∷ rs) (i + 1) q → (b : Bool) → (r.0 == i + 1) ≡ b →
    Has (cond b ((i, r.1) ∷ rs) ((i, i) ∷ (r ∷ rs))) i q
first_joined i q r rs a (inl h) true e = inl (refl, h.1)
first_joined i q r rs a (inl h) false e = absurd (grind arith)
first_joined i q r rs a (inr h) b e = let rest_past : r.1 + 2 ≤ i + 1 = has_past (r.1 + 2) (i + 1) q rs a.2 h in absurd (omega arith)

first-with_column : (i q : ℕ) (rs : List (ℕ × ℕ)) → AreApart (i + 1) rs → Has rs (i + 1) q → Has (with_column i rs) i q
unfolding with_column
first-with_column i q [] a h = absurd h
first-with_column i q (r ∷ rs) a h = first_joined i q r rs a h (r.0 == i + 1) refl

-- column i alone, where no run begins beside it
alone_joined : (i : ℕ) (r : ℕ × ℕ) (rs : List (ℕ × ℕ)) → r.0 ≢ i + 1 → (b : Bool) → (r.0 == i + 1) ≡ b → Has (cond b ((i, r.1) ∷ rs) ((i, i) ∷ (r ∷ rs))) i i
alone_joined i r rs n true e = absurd (grind arith)
alone_joined i r rs n false e = inl (refl, refl)

alone-with_column : (i : ℕ) (columns : List Bool) (rs : List (ℕ × ℕ)) → get_or columns 0 true ≡ true → AreRuns (i + 1) columns rs → Has (with_column i rs) i i
unfolding with_column
alone-with_column i columns [] c s = inl (refl, refl)
alone-with_column i columns (r ∷ rs) c s =
    let end_not_next : r.0 ≢ i + 1 = λ e. (let is_open : get_or columns 0 true ≡ false = s.0.open_at 0 (omega arith) (omega (arith, s.0.ordered)) in cc) in
    alone_joined i r rs end_not_next (r.0 == i + 1) refl

-- a run past the first column is a run of the columns after it
run_rest : (i : ℕ) (b : Bool) (columns : List Bool) (p q : ℕ) → i < p → IsRun i (b ∷ columns) p q → IsRun (i + 1) columns p q
run_rest i b columns p q l r = record {
  from = omega arith;
  ordered = r.ordered;
  open_at = λ k m n. r.open_at (suc k) (omega arith) (omega arith);
  left = λ k e. r.left (suc k) (omega arith);
  right = λ k e. r.right (suc k) (omega arith);
}

-- a run of more columns than the first one goes on in the columns after it
run_shorter : (i : ℕ) (columns : List Bool) (q : ℕ) → i < q → IsRun i (false ∷ columns) i q → IsRun (i + 1) columns (i + 1) q
run_shorter i columns q l r = record {
  from = omega arith;
  ordered = omega arith;
  open_at = λ k m n. r.open_at (suc k) (omega arith) (omega arith);
  left = λ k e. absurd (omega arith);
  right = λ k e. r.right (suc k) (omega arith);
}

not_first : (i : ℕ) (columns : List Bool) (p q : ℕ) → IsRun i (true ∷ columns) p q → i < p
not_first i columns p q r =
    elim (cases_eq p i) [ inl e ↦ (let impossible : true ≡ false = r.open_at 0 (omega arith) (omega (arith, r.ordered)) in cc) | inr n ↦ omega (arith, r.from) ]

not_beside : (i : ℕ) (columns : List Bool) (p q : ℕ) → i < p → IsRun i (false ∷ columns) p q → i + 1 < p
not_beside i columns p q l r =
    elim (cases_eq p (i + 1)) [ inl e ↦ (let impossible : false ≡ true = r.left 0 (omega arith) in cc) | inr n ↦ omega arith ]

one_column : (i : ℕ) (columns : List Bool) → IsRun i (false ∷ columns) i i → get_or columns 0 true ≡ true
one_column i columns r = r.right 1 refl

has-runs : (i : ℕ) (columns : List Bool) (p q : ℕ) → IsRun i columns p q → Has (runs i columns) p q
unfolding runs
has-runs i [] p q r =
    let same_column : i + (p - i) ≡ p = omega (arith, r.from) in
    let impossible : true ≡ false = r.open_at (p - i) (omega arith) (omega (arith, r.ordered)) in cc
has-runs i (true ∷ columns) p q r = has-runs (i + 1) columns p q (run_rest i true columns p q (not_first i columns p q r) r)
has-runs i (false ∷ columns) p q r =
    elim (cases_lt i p) [
      | inl l ↦ has-with_column i p q (runs (i + 1) columns) (not_beside i columns p q l r) (has-runs (i + 1) columns p q (run_rest i false columns p q l r))
      | inr g ↦
          let begins_here : p ≡ i = omega (arith, r.from) in
          let run_here : IsRun i (false ∷ columns) i q = subst (λ (x : ℕ). IsRun i (false ∷ columns) x q) begins_here r in
          subst (λ (x : ℕ). Has (with_column i (runs (i + 1) columns)) x q) (sym begins_here)
          (elim (cases_lt i q) [
            | inl l ↦ first-with_column i q (runs (i + 1) columns) (apart-runs (i + 1) columns) (has-runs (i + 1) columns (i + 1) q (run_shorter i columns q l run_here))
            | inr h ↦
                let ends_here : q ≡ i = omega (arith, run_here.ordered) in
                subst (λ (x : ℕ). Has (with_column i (runs (i + 1) columns)) i x) (sym ends_here)
                (alone-with_column i columns (runs (i + 1) columns) (one_column i columns (subst (λ (x : ℕ). IsRun i (false ∷ columns) i x) ends_here run_here)) (are-runs (i + 1) columns))
          ])
    ]

-- the columns first to last of a view
slice_inside : (columns : List Bool) (first last k : ℕ) → first + k ≤ last →
    get_or (take (last + 1 - first) (drop first columns)) k true ≡ is_covered columns (first + k)
unfolding is_covered
slice_inside columns first last k l = get_or-take (last + 1 - first) (drop first columns) k true (omega arith) ∙ get_or-drop first columns k true

slice_past : (columns : List Bool) (first last k : ℕ) → last < first + k → get_or (take (last + 1 - first) (drop first columns)) k true ≡ true
slice_past columns first last k l =
    get_or_past (take (last + 1 - first) (drop first columns)) k true (omega (arith, length-take (last + 1 - first) (drop first columns)))

fragment_inside : (columns : List Bool) (first last p q : ℕ) → IsRun first (take (last + 1 - first) (drop first columns)) p q → q ≤ last
fragment_inside columns first last p q r =
    elim (cases_lt last q) [
      | inl l ↦
          let same_column : first + (q - first) ≡ q = omega (arith, r.from, r.ordered) in
          let is_open : get_or (take (last + 1 - first) (drop first columns)) (q - first) true ≡ false =
          r.open_at (q - first) (omega (arith, r.ordered)) (omega arith) in
          let is_past : get_or (take (last + 1 - first) (drop first columns)) (q - first) true ≡ true =
          slice_past columns first last (q - first) (omega arith) in cc
      | inr g ↦ g
    ]

fragment_from_run : (columns : List Bool) (first last p q : ℕ) → IsRun first (take (last + 1 - first) (drop first columns)) p q →
    IsFragment columns first last p q
fragment_from_run columns first last p q r =
    let ends_inside : q ≤ last = fragment_inside columns first last p q r in
    record {
      begins = r.from;
      ordered = r.ordered;
      ends = ends_inside;
      is_open = λ x m n. (
          let column_is : first + (x - first) ≡ x = omega (arith, r.from) in
          ap (is_covered columns) (sym column_is) ∙ sym (slice_inside columns first last (x - first) (omega arith)) ∙ r.open_at (x - first) (omega arith) (omega arith));
      left = elim (cases_eq p first) [
        | inl e ↦ inl e
        | inr n ↦ inr (
            let column_is : first + (p - 1 - first) ≡ p - 1 = omega (arith, r.from) in
            ap (is_covered columns) (sym column_is) ∙ sym (slice_inside columns first last (p - 1 - first) (omega (arith, r.ordered))) ∙ r.left (p - 1 - first) (omega (arith, r.from)))
      ];
      right = elim (cases_eq q last) [
        | inl e ↦ inl e
        | inr n ↦ inr (
            let column_is : first + (q + 1 - first) ≡ q + 1 = omega (arith, r.from, r.ordered) in
            ap (is_covered columns) (sym column_is) ∙ sym (slice_inside columns first last (q + 1 - first) (omega arith)) ∙ r.right (q + 1 - first) column_is)
      ];
    }

left_of : (columns : List Bool) (first last p q : ℕ) → IsFragment columns first last p q → (k : ℕ) → first + k + 1 ≡ p →
    (p ≡ first) ⊎ (is_covered columns (p - 1) ≡ true) → get_or (take (last + 1 - first) (drop first columns)) k true ≡ true
left_of columns first last p q f k e (inl s) = absurd (omega arith)
left_of columns first last p q f k e (inr c) =
    let same_column : first + k ≡ p - 1 = omega arith in
    slice_inside columns first last k (omega (arith, f.ordered, f.ends)) ∙ ap (is_covered columns) same_column ∙ c

right_of : (columns : List Bool) (first last p q : ℕ) → IsFragment columns first last p q → (k : ℕ) → first + k ≡ q + 1 →
    (q ≡ last) ⊎ (is_covered columns (q + 1) ≡ true) → get_or (take (last + 1 - first) (drop first columns)) k true ≡ true
right_of columns first last p q f k e (inl s) = slice_past columns first last k (omega arith)
right_of columns first last p q f k e (inr c) =
    elim (cases_eq q last) [
      | inl s ↦ slice_past columns first last k (omega arith)
      | inr n ↦ slice_inside columns first last k (omega (arith, f.ends)) ∙ ap (is_covered columns) e ∙ c
    ]

run_from_fragment : (columns : List Bool) (first last p q : ℕ) → IsFragment columns first last p q →
    IsRun first (take (last + 1 - first) (drop first columns)) p q
run_from_fragment columns first last p q f = record {
  from = f.begins;
  ordered = f.ordered;
  open_at = λ k m n. slice_inside columns first last k (omega (arith, f.ends)) ∙ f.is_open (first + k) m n;
  left = λ k e. left_of columns first last p q f k e f.left;
  right = λ k e. right_of columns first last p q f k e f.right;
}

are_fragments : (columns : List Bool) (first last : ℕ) (rs : List (ℕ × ℕ)) → AreRuns first (take (last + 1 - first) (drop first columns)) rs →
    AllByRecursion (λ r. IsFragment columns first last r.0 r.1) rs
are_fragments columns first last [] s = tt
are_fragments columns first last (r ∷ rs) s = (fragment_from_run columns first last r.0 r.1 s.0, are_fragments columns first last rs s.1)

same_pair : (r : ℕ × ℕ) (p q : ℕ) → r.0 ≡ p → r.1 ≡ q → r ≡ (p, q)
same_pair r p q a b =
    let same_both : (r.0, r.1) ≡ (p, q) = ap (λ (x : ℕ). (x, r.1)) a ∙ ap (λ (y : ℕ). (p, y)) b in same_both

contains_had : (p q : ℕ) (rs : List (ℕ × ℕ)) → Has rs p q → Contains rs (p, q)
contains_had p q [] h = absurd h
contains_had p q (r ∷ rs) (inl h) = (0, omega arith, same_pair r p q h.0 h.1)
contains_had p q (r ∷ rs) (inr h) = let in_rest = contains_had p q rs h in (suc in_rest.0, omega arith, in_rest.2)

-- the fragments are maximal uncovered runs within first to last
pub fragments-are : (columns : List Bool) (first last : ℕ) → All (λ r. IsFragment columns first last r.0 r.1) (fragments columns first last)
unfolding fragments
fragments-are columns first last =
    All-from_recursion (λ r. IsFragment columns first last r.0 r.1) (runs first (take (last + 1 - first) (drop first columns)))
    (are_fragments columns first last (runs first (take (last + 1 - first) (drop first columns))) (are-runs first (take (last + 1 - first) (drop first columns))))

-- each such run is among them
pub fragments-have : (columns : List Bool) (first last p q : ℕ) → IsFragment columns first last p q → Contains (fragments columns first last) (p, q)
unfolding fragments
fragments-have columns first last p q f =
    contains_had p q (runs first (take (last + 1 - first) (drop first columns)))
    (has-runs first (take (last + 1 - first) (drop first columns)) p q (run_from_fragment columns first last p q f))

each_from : (j n : ℕ) (d : ℕ × ℕ) (rs : List (ℕ × ℕ)) → AreApart n rs → j < length rs → n ≤ (get_or rs j d).0
each_from j n d [] a m = absurd (omega arith)
each_from zero n d (r ∷ rs) a m = a.0
each_from (suc j) n d (r ∷ rs) a m = let rest_from : r.1 + 2 ≤ (get_or rs j d).0 = each_from j (r.1 + 2) d rs a.2 (omega arith) in omega arith

pairs_apart : (i j n : ℕ) (d : ℕ × ℕ) (rs : List (ℕ × ℕ)) → AreApart n rs → i < j → j < length rs → (get_or rs i d).1 + 1 < (get_or rs j d).0
pairs_apart i j n d [] a l m = absurd (omega arith)
pairs_apart i zero n d (r ∷ rs) a l m = absurd (omega arith)
pairs_apart zero (suc j) n d (r ∷ rs) a l m = let rest_from : r.1 + 2 ≤ (get_or rs j d).0 = each_from j (r.1 + 2) d rs a.2 (omega arith) in omega arith
pairs_apart (suc i) (suc j) n d (r ∷ rs) a l m = pairs_apart i j (r.1 + 2) d rs a.2 (omega arith) (omega arith)

-- from left to right, with a covered column or more between two
pub fragments-ordered : (columns : List Bool) (first last : ℕ) → AllPairs (λ r s. r.1 + 1 < s.0) (fragments columns first last)
unfolding fragments
fragments-ordered columns first last i j d l m =
    pairs_apart i j first d (runs first (take (last + 1 - first) (drop first columns))) (apart-runs first (take (last + 1 - first) (drop first columns))) l m
