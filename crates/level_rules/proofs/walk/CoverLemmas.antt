-- Laws of `cover` and `hides`, and of `runs` over columns that come in stretches.
use Rattle.word_rules.proofs.Common.{[], ap, arith, Bool, cond, drop, eq-eqb, false, get_or, get_or-append_right, get_or-drop, get_or-replicate, get_or-take, get_or_append_left, length, length-append, length-drop, length-replicate, length-take, List, list_all, refl, replicate, suc, take, true, zero, ℕ, ◌++◌, ◌+◌, ◌-◌, ◌<◌, ◌==◌, ◌∙◌, ◌∷◌, ◌≡◌, ◌≤◌}
use Rattle.level_rules.specs.walk.Covered.{with_column, runs, fragments, cover, hides, is_covered}
use Rattle.level_rules.proofs.walk.RunLemmas.{AreApart, apart-runs}

-- the number of columns stays
pub length-cover : (columns : List Bool) (first last : ℕ) → first ≤ last → last < length columns → length (cover columns first last) ≡ length columns
unfolding cover
length-cover columns first last o l = simp (length-append, length-take, length-replicate, length-drop) (omega arith)

-- columns before first and past last stay, those between are covered
pub covered-before : (columns : List Bool) (first last x : ℕ) → first ≤ last → last < length columns → x < first →
    is_covered (cover columns first last) x ≡ is_covered columns x
unfolding cover is_covered
covered-before columns first last x o l h =
    let in_front : x < length (take first columns) = rw length-take (omega arith) in
    get_or_append_left (take first columns) (replicate (last + 1 - first) true ++ drop (last + 1) columns) true x in_front ∙ get_or-take first columns x true h

pub covered-between : (columns : List Bool) (first last x : ℕ) → first ≤ last → last < length columns → first ≤ x → x ≤ last →
    is_covered (cover columns first last) x ≡ true
unfolding cover is_covered
covered-between columns first last x o l h k =
    let front_length : length (take first columns) ≡ first = length-take first columns ∙ (let inside : first ≤ length columns = omega arith in omega arith) in
    let is_in_middle : x - first < length (replicate (last + 1 - first) true) = rw length-replicate (omega arith) in
    get_or-append_right (take first columns) (replicate (last + 1 - first) true ++ drop (last + 1) columns) first x true front_length h
    ∙ get_or_append_left (replicate (last + 1 - first) true) (drop (last + 1) columns) true (x - first) is_in_middle
    ∙ get_or-replicate (last + 1 - first) (x - first) true true (omega arith)

pub covered-after : (columns : List Bool) (first last x : ℕ) → first ≤ last → last < length columns → last < x →
    is_covered (cover columns first last) x ≡ is_covered columns x
unfolding cover is_covered
covered-after columns first last x o l h =
    let front_length : length (take first columns) ≡ first = length-take first columns ∙ (let inside : first ≤ length columns = omega arith in omega arith) in
    let middle_length : length (replicate (last + 1 - first) true) ≡ last + 1 - first = length-replicate (last + 1 - first) true in
    get_or-append_right (take first columns) (replicate (last + 1 - first) true ++ drop (last + 1) columns) first x true front_length (omega arith)
    ∙ get_or-append_right (replicate (last + 1 - first) true) (drop (last + 1) columns) (last + 1 - first) (x - first) true middle_length (omega arith)
    ∙ get_or-drop (last + 1) columns (x - first - (last + 1 - first)) true
    ∙ ap (λ (i : ℕ). get_or columns i true) (let same_column : last + 1 + (x - first - (last + 1 - first)) ≡ x = omega arith in same_column)

-- n covered columns are passed over
pub runs-covered : (n i : ℕ) (columns : List Bool) → runs i (replicate n true ++ columns) ≡ runs (i + n) columns
unfolding runs
runs-covered zero i columns = let same_place : i ≡ i + 0 = omega arith in ap (λ (j : ℕ). runs j columns) same_place
runs-covered (suc n) i columns = let same_place : i + 1 + n ≡ i + suc n = omega arith in runs-covered n (i + 1) columns ∙ ap (λ j. runs j columns) same_place

alone_first : (i j : ℕ) (rs : List (ℕ × ℕ)) → i + 1 < j → AreApart j rs → with_column i rs ≡ (i, i) ∷ rs
unfolding with_column
alone_first i j [] l a = refl
alone_first i j (r ∷ rs) l a = let is_not_next : (r.0 == i + 1) ≡ false = grind arith in rw is_not_next

open_one : (i : ℕ) (columns : List Bool) → get_or columns 0 true ≡ true → with_column i (runs (i + 1) columns) ≡ (i, i) ∷ runs (i + 1) columns
unfolding runs with_column
open_one i [] c = refl
open_one i (true ∷ columns) c = alone_first i (i + 1 + 1) (runs (i + 1 + 1) columns) (omega arith) (apart-runs (i + 1 + 1) columns)
open_one i (false ∷ columns) c = cc

joined_first : (i q : ℕ) (rs : List (ℕ × ℕ)) → with_column i ((i + 1, q) ∷ rs) ≡ (i, q) ∷ rs
unfolding with_column
joined_first i q rs = rw (eq-eqb (i + 1) (i + 1) refl) refl

-- n + 1 uncovered columns before a covered one, or before the end, are one run
pub runs-open : (n i : ℕ) (columns : List Bool) → get_or columns 0 true ≡ true →
    runs i (replicate (suc n) false ++ columns) ≡ (i, i + n) ∷ runs (i + n + 1) columns
unfolding runs
runs-open zero i columns c =
    let same_place : i ≡ i + 0 = omega arith in
    open_one i columns c ∙ ap (λ (j : ℕ). (i, j) ∷ runs (j + 1) columns) same_place
runs-open (suc n) i columns c =
    let same_place : i + 1 + n ≡ i + suc n = omega arith in
    ap (with_column i) (runs-open n (i + 1) columns c) ∙ joined_first i (i + 1 + n) (runs (i + 1 + n + 1) columns) ∙ ap (λ (j : ℕ). (i, j) ∷ runs (j + 1) columns) same_place

-- columns are all covered exactly where they leave no run
runs_all : (i : ℕ) (columns : List Bool) → list_all (λ c. c) columns ≡ true → runs i columns ≡ []
unfolding runs
runs_all i [] h = refl
runs_all i (true ∷ columns) h = runs_all (i + 1) columns h
runs_all i (false ∷ columns) h = cc

some_of : (i : ℕ) (r : ℕ × ℕ) (rs : List (ℕ × ℕ)) (b : Bool) → cond b ((i, r.1) ∷ rs) ((i, i) ∷ (r ∷ rs)) ≡ [] → ⊥
some_of i r rs true h = cc
some_of i r rs false h = cc

some_run : (i : ℕ) (rs : List (ℕ × ℕ)) → with_column i rs ≡ [] → ⊥
unfolding with_column
some_run i [] h = cc
some_run i (r ∷ rs) h = some_of i r rs (r.0 == i + 1) h

all_runs : (i : ℕ) (columns : List Bool) → runs i columns ≡ [] → list_all (λ c. c) columns ≡ true
unfolding runs
all_runs i [] h = refl
all_runs i (true ∷ columns) h = all_runs (i + 1) columns h
all_runs i (false ∷ columns) h = absurd (some_run i (runs (i + 1) columns) h)

pub fragments-hides : (columns : List Bool) (first last : ℕ) → hides columns first last ≡ true → fragments columns first last ≡ []
unfolding hides fragments
fragments-hides columns first last h = runs_all first (take (last + 1 - first) (drop first columns)) h

pub hides-fragments : (columns : List Bool) (first last : ℕ) → fragments columns first last ≡ [] → hides columns first last ≡ true
unfolding hides fragments
hides-fragments columns first last h = all_runs first (take (last + 1 - first) (drop first columns)) h
