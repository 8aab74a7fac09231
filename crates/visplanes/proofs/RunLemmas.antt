-- Laws of the runs of columns that hold a row, from a column on.
use Rattle.picture_rules.proofs.Common.{[], ap, arith, Bool, cases_lt, drop, drop_more, false, get_or, get_or-drop, get_or_past, inl, inr, length, length-map, List, not, refl, replicate, suc, sym, take_all, true, zero, ℕ, ◌++◌, ◌+◌, ◌-◌, ◌<◌, ◌∙◌, ◌∷◌, ◌≡◌, ◌≤◌, ◌⊎◌}
use Rattle.picture_rules.specs.Words.{fragments, FRAME_WIDTH, holds, holds_row, is_covered, Plane, plane_gaps, row_runs, runs}
use Rattle.picture_rules.proofs.{Laws.runs-open, plane.SpanLemmas.covered-gaps}
use Rattle.visplanes.specs.Spans.{runs_from}

length-gaps : (p : Plane) (y : ℕ) → length (plane_gaps p y) ≡ length p.runs
unfolding plane_gaps
length-gaps p y = length-map p.runs (λ r. not (holds_row r y))

gap_off : (p : Plane) (y x : ℕ) → x < length p.runs → holds p y x ≡ false → get_or (plane_gaps p y) x true ≡ true
unfolding is_covered
gap_off p y x l h = covered-gaps p y x l ∙ ap not h

gap_on : (p : Plane) (y x : ℕ) → x < length p.runs → holds p y x ≡ true → get_or (plane_gaps p y) x true ≡ false
unfolding is_covered
gap_on p y x l h = covered-gaps p y x l ∙ ap not h

-- all runs of a row are those from column 0 on
pub row_runs-from : (p : Plane) (y : ℕ) → length p.runs ≡ FRAME_WIDTH → row_runs p y ≡ runs_from p y 0
unfolding row_runs fragments runs_from
row_runs-from p y l = ap (runs 0) (take_all FRAME_WIDTH (plane_gaps p y) (omega (arith, length-gaps p y)))

-- a column that does not hold the row is passed over
pub runs_from-off : (p : Plane) (y x n : ℕ) → x + 1 ≡ n → x < length p.runs → holds p y x ≡ false → runs_from p y n ≡ runs_from p y x
unfolding runs_from runs
runs_from-off p y x n e l h =
    let is_there : x < length (plane_gaps p y) = omega (arith, length-gaps p y) in
    ap (λ (i : ℕ). runs i (drop i (plane_gaps p y))) (sym e)
    ∙ sym (ap (runs x) (drop_more (plane_gaps p y) x true is_there ∙ ap (λ (b : Bool). b ∷ drop (x + 1) (plane_gaps p y)) (gap_off p y x l h)))

-- so are all columns before the first one that holds it
skipped : (p : Plane) (y x : ℕ) → x ≤ length p.runs → ((k : ℕ) → k < x → holds p y k ≡ false) → runs_from p y x ≡ runs_from p y 0
skipped p y zero l h = refl
skipped p y (suc x) l h = runs_from-off p y x (suc x) (omega arith) (omega arith) (h x (omega arith)) ∙ skipped p y x (omega arith) (λ k m. h k (omega arith))

pub row_runs-skipped : (p : Plane) (y x : ℕ) → length p.runs ≡ FRAME_WIDTH → x ≤ FRAME_WIDTH → ((k : ℕ) → k < x → holds p y k ≡ false) → runs_from p y x ≡ row_runs p y
row_runs-skipped p y x l m h = skipped p y x (omega arith) h ∙ sym (row_runs-from p y l)

drop_none : (xs : List Bool) (n : ℕ) → length xs ≤ n → drop n xs ≡ []
drop_none [] zero l = refl
drop_none [] (suc n) l = refl
drop_none (x ∷ xs) zero l = absurd (omega arith)
drop_none (x ∷ xs) (suc n) l = drop_none xs n (omega arith)

-- no run begins past the last column
pub runs_from-past : (p : Plane) (y x : ℕ) → length p.runs ≤ x → runs_from p y x ≡ []
unfolding runs_from runs
runs_from-past p y x l = ap (runs x) (drop_none (plane_gaps p y) x (omega (arith, length-gaps p y)))

-- n columns that hold the row come first
held : (n x : ℕ) (g : List Bool) → x + n ≤ length g → ((k : ℕ) → x ≤ k → k < x + n → get_or g k true ≡ false) → drop x g ≡ replicate n false ++ drop (x + n) g
held zero x g l h = let same_place : x ≡ x + 0 = omega arith in ap (λ (i : ℕ). drop i g) same_place
held (suc n) x g l h =
    let same_place : x + 1 + n ≡ x + suc n = omega arith in
    drop_more g x true (omega arith)
    ∙ ap (λ (b : Bool). b ∷ drop (x + 1) g) (h x (omega arith) (omega arith))
    ∙ ap (λ bs. false ∷ bs) (held n (x + 1) g (omega arith) (λ k a b. h k (omega arith) (omega arith)) ∙ ap (λ i. replicate n false ++ drop i g) same_place)

gap_end : (p : Plane) (y end : ℕ) → holds p y end ≡ false → get_or (plane_gaps p y) end true ≡ true
gap_end p y end h =
    elim (cases_lt end (length p.runs)) [
      | inl l ↦ gap_off p y end l h
      | inr l ↦ get_or_past (plane_gaps p y) end true (omega (arith, length-gaps p y))
    ]

open_end : (p : Plane) (y end : ℕ) → (end ≡ length p.runs) ⊎ (holds p y end ≡ false) → get_or (drop end (plane_gaps p y)) 0 true ≡ true
open_end p y end (inl e) = get_or-drop end (plane_gaps p y) 0 true ∙ get_or_past (plane_gaps p y) (end + 0) true (omega (arith, length-gaps p y))
open_end p y end (inr h) =
    let same_place : end + 0 ≡ end = omega arith in
    get_or-drop end (plane_gaps p y) 0 true ∙ ap (λ (k : ℕ). get_or (plane_gaps p y) k true) same_place ∙ gap_end p y end h

-- a run of columns that hold the row, which ends before `end`
pub runs_from-run : (p : Plane) (y first end : ℕ) → first < end → end ≤ length p.runs → ((k : ℕ) → first ≤ k → k < end → holds p y k ≡ true) →
    (end ≡ length p.runs) ⊎ (holds p y end ≡ false) → runs_from p y first ≡ (first, end - 1) ∷ runs_from p y end
unfolding runs_from
runs_from-run p y first end l m h o =
    let rows_after_first : ℕ = end - first - 1 in
    let reaches_end : first + suc rows_after_first ≡ end = omega arith in
    let reaches_last : first + rows_after_first ≡ end - 1 = omega arith in
    let goes_on : first + rows_after_first + 1 ≡ end = omega arith in
    ap (runs first) (held (suc rows_after_first) first (plane_gaps p y) (omega (arith, length-gaps p y)) (λ k d e. gap_on p y k (omega arith) (h k d (omega arith))) ∙ ap (λ (i : ℕ). replicate (suc rows_after_first) false ++ drop i (plane_gaps p y)) reaches_end)
    ∙ runs-open rows_after_first first (drop end (plane_gaps p y)) (open_end p y end o)
    ∙ ap (λ (i : ℕ). (first, i) ∷ runs (first + rows_after_first + 1) (drop end (plane_gaps p y))) reaches_last
    ∙ ap (λ (i : ℕ). (first, end - 1) ∷ runs i (drop end (plane_gaps p y))) goes_on
