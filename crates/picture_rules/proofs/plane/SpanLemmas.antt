-- Laws of `span_start`: it is the least column from which on all pass; and it is where a run of the row begins.
use Rattle.word_rules.proofs.Common.{[], ap, arith, Bool, cases_lt, cond, false, get_or, inl, inr, length, List, map, None, not, not-false, not-true, Option, refl, slice_index_or, suc, sym, true, zero, ℕ, ◌+◌, ◌-◌, ◌<◌, ◌∙◌, ◌∷◌, ◌≡◌, ◌≤◌, ◌⊎◌}
use Rattle.picture_rules.specs.Rules.{FRAME_WIDTH, IsFragment, is_covered}
use Rattle.picture_rules.specs.plane.Planes.{Plane, column}
use Rattle.picture_rules.specs.plane.Spans.{holds_row, holds, span_start, plane_gaps}

-- one column more
pub span_start-zero : (passes : ℕ → Bool) → span_start passes 0 ≡ 0
unfolding span_start
span_start-zero passes = refl

pub span_start-on : (passes : ℕ → Bool) (x n : ℕ) → x + 1 ≡ n → passes x ≡ true → span_start passes n ≡ span_start passes x
unfolding span_start
span_start-on passes x n e h = let is_suc : suc x ≡ n = omega arith in ap (span_start passes) (sym is_suc) ∙ (rw h refl)

pub span_start-off : (passes : ℕ → Bool) (x n : ℕ) → x + 1 ≡ n → passes x ≡ false → span_start passes n ≡ n
unfolding span_start
span_start-off passes x n e h = let is_suc : suc x ≡ n = omega arith in ap (span_start passes) (sym is_suc) ∙ (rw h is_suc)

within_cond : (a x : ℕ) (b : Bool) → a ≤ x → cond b a (suc x) ≤ suc x
within_cond a x true l = omega arith
within_cond a x false l = omega arith

-- it is no column past x
pub span_start-within : (passes : ℕ → Bool) (x : ℕ) → span_start passes x ≤ x
unfolding span_start
span_start-within passes zero = omega arith
span_start-within passes (suc x) = within_cond (span_start passes x) x (passes x) (span_start-within passes x)

passes_step : (passes : ℕ → Bool) (x k s : ℕ) → (s ≤ k → k < x → passes k ≡ true) → (b : Bool) → passes x ≡ b → cond b s (suc x) ≤ k → k < suc x → passes k ≡ true
passes_step passes x k s h true e l m =
    elim (cases_lt k x) [ inl a ↦ h l a | inr a ↦ (let is_last : k ≡ x = omega arith in ap passes is_last ∙ e) ]
passes_step passes x k s h false e l m = absurd (omega arith)

-- from it on every column before x passes
pub span_start-passes : (passes : ℕ → Bool) (x k : ℕ) → span_start passes x ≤ k → k < x → passes k ≡ true
unfolding span_start
span_start-passes passes zero k l m = absurd (omega arith)
span_start-passes passes (suc x) k l m = passes_step passes x k (span_start passes x) (span_start-passes passes x k) (passes x) refl l m

least_step : (s x j : ℕ) (b : Bool) → b ≡ true → s ≤ j → cond b s (suc x) ≤ j
least_step s x j true e l = l
least_step s x j false e l = cc

-- and it is the least such column
pub span_start-least : (passes : ℕ → Bool) (x j : ℕ) → j ≤ x → ((k : ℕ) → j ≤ k → k < x → passes k ≡ true) → span_start passes x ≤ j
unfolding span_start
span_start-least passes zero j l h = omega arith
span_start-least passes (suc x) j l h =
    elim (cases_lt x j) [
      | inl b ↦ (let not_past : span_start passes (suc x) ≤ suc x = span_start-within passes (suc x) in omega arith)
      | inr b ↦ least_step (span_start passes x) x j (passes x) (h x b (omega arith)) (span_start-least passes x j b (λ k a c. h k a (omega arith)))
    ]

-- the one column from which on all pass, and before which none does
pub span_start-is : (passes : ℕ → Bool) (x p : ℕ) → p ≤ x → ((k : ℕ) → p ≤ k → k < x → passes k ≡ true) → ((k : ℕ) → k + 1 ≡ p → passes k ≡ false) → span_start passes x ≡ p
span_start-is passes x p l h b =
    let not_later : span_start passes x ≤ p = span_start-least passes x p l h in
    elim (cases_lt (span_start passes x) p) [
      | inl m ↦
          (let passes_before : passes (p - 1) ≡ true = span_start-passes passes x (p - 1) (omega arith) (omega arith) in
          let fails_before : passes (p - 1) ≡ false = b (p - 1) (omega arith) in cc)
      | inr m ↦ omega arith
    ]

gap_at : (runs : List (Option (ℕ × ℕ))) (y x : ℕ) → x < length runs → get_or (map (λ r. not (holds_row r y)) runs) x true ≡ not (holds_row (slice_index_or runs x None) y)
gap_at [] y x l = absurd (omega arith)
gap_at (r ∷ rs) y zero l = refl
gap_at (r ∷ rs) y (suc x) l = gap_at rs y x (omega arith)

-- a column is uncovered among the gaps exactly where it holds the row
pub covered-gaps : (p : Plane) (y x : ℕ) → x < length p.runs → is_covered (plane_gaps p y) x ≡ not (holds p y x)
unfolding is_covered plane_gaps holds column
covered-gaps p y x l = gap_at p.runs y x l

before_run : (p : Plane) (y first k : ℕ) → length p.runs ≡ FRAME_WIDTH → k + 1 ≡ first → first < FRAME_WIDTH → (first ≡ 0) ⊎ (is_covered (plane_gaps p y) (first - 1) ≡ true) → holds p y k ≡ false
before_run p y first k n e l (inl z) = absurd (omega arith)
before_run p y first k n e l (inr c) =
    let one_back : first - 1 ≡ k = omega arith in
    not-true (holds p y k) (sym (covered-gaps p y k (omega arith)) ∙ ap (is_covered (plane_gaps p y)) (sym one_back) ∙ c)

-- in each maximal run of columns that hold the row, spans begin at the run's first column
pub span_start-run : (p : Plane) (y first last x : ℕ) → length p.runs ≡ FRAME_WIDTH → IsFragment (plane_gaps p y) 0 (FRAME_WIDTH - 1) first last → first ≤ x → x ≤ last → span_start (holds p y) x ≡ first
span_start-run p y first last x n f l m =
    span_start-is (holds p y) x first l
    (λ k a b. not-false (holds p y k) (sym (covered-gaps p y k (omega (arith, f.ends))) ∙ f.is_open k a (omega arith)))
    (λ k e. before_run p y first k n e (omega (arith, f.ordered, f.ends)) f.left)
