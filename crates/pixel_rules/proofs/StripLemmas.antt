-- Laws of strips: one pixel more, where a strip's dots are, and fractions that are stepped.
use Rattle.word_rules.proofs.Common.{[], ap, arith, cases_lt, false, FitsSigned, inl, inr, int_lt, int_wrap, int_wrap-add_left, int_wrap-add_right, int_wrap-mul_left, List, map, map-append, pos, range_with_len, refl, SFits-int_wrap, suc, sym, true, w32, zero, ℕ, ℤ, ◌*ℤ◌, ◌++◌, ◌+ℤ◌, ◌+◌, ◌-ℤ◌, ◌-◌, ◌<◌, ◌∙◌, ◌∷◌, ◌≡◌, ◌≤◌}
use lib.IntN.{neg_ℤ, +ℤ_assoc, +ℤ_comm, suc_ℤ-*ℤ, suc_ℤ-+ℤ}
use Rattle.word_rules.specs.{Words.plus, Words.minus, Words.times, Words.natural, Steps.step_at}
use Rattle.word_rules.proofs.StepLemmas.{step_at-zero, step_at-more}
use Rattle.word_rules.specs.Listed.{listed_from}
use Rattle.word_rules.proofs.ListedLemmas.{listed_from-more}
use Rattle.pixel_rules.specs.declared.Painter.{Painter}
use Rattle.view_rules.specs.declared.TheConstants.{FRAME_WIDTH, FRAME_HEIGHT}
use Rattle.pixel_rules.specs.Dots.{AreInFrame, AreInColumn, AreInRow}
use Rattle.pixel_rules.specs.Strips.{row_fraction, rows_between, column_dots, span_dots}

-- one row more
pub column_dots-none : (painter : Painter) (x : ℕ) (colour : ℕ → ℕ) → column_dots painter x colour [] ≡ []
unfolding column_dots
column_dots-none painter x colour = refl

pub column_dots-append : (painter : Painter) (x : ℕ) (colour : ℕ → ℕ) (ys zs : List ℕ) →
    column_dots painter x colour (ys ++ zs) ≡ column_dots painter x colour ys ++ column_dots painter x colour zs
unfolding column_dots
column_dots-append painter x colour ys zs = map-append (λ y. record { x = x; y = y; colour = colour y; painter = painter }) ys zs

pub column_dots-more : (painter : Painter) (x : ℕ) (colour : ℕ → ℕ) (first last next : ℕ) → first ≤ next → last + 1 ≡ next →
    column_dots painter x colour (listed_from (λ y. y) first next) ≡ column_dots painter x colour (listed_from (λ y. y) first last) ++ record { x = x; y = next; colour = colour next; painter = painter } ∷ []
unfolding column_dots
column_dots-more painter x colour first last next l e =
    ap (column_dots painter x colour) (listed_from-more (λ y. y) first last next l e) ∙ column_dots-append painter x colour (listed_from (λ y. y) first last) (next ∷ [])

-- one column more
pub span_dots-more : (painter : Painter) (y : ℕ) (colour : ℕ → ℕ) (first last next : ℕ) → first ≤ next → last + 1 ≡ next →
    span_dots painter y colour first next ≡ span_dots painter y colour first last ++ record { x = next; y = y; colour = colour next; painter = painter } ∷ []
unfolding span_dots
span_dots-more painter y colour first last next l e = listed_from-more (λ x. record { x = x; y = y; colour = colour x; painter = painter }) first last next l e

-- whole rows
pub rows_between-none : (first last : ℤ) → int_lt last first ≡ true → rows_between first last ≡ []
unfolding rows_between
rows_between-none first last h = rw h

pub rows_between-some : (first last : ℤ) → int_lt last first ≡ false → rows_between first last ≡ listed_from (λ y. y) (natural first) (natural last)
unfolding rows_between
rows_between-some first last h = rw h

-- the dots of a strip of a column are in that column, those of a span in its row
pub in_column-column_dots : (painter : Painter) (x : ℕ) (colour : ℕ → ℕ) (rows : List ℕ) → AreInColumn x (column_dots painter x colour rows)
unfolding column_dots
in_column-column_dots painter x colour [] = tt
in_column-column_dots painter x colour (y ∷ ys) = (refl, in_column-column_dots painter x colour ys)

in_row-range : (painter : Painter) (y : ℕ) (colour : ℕ → ℕ) (first n : ℕ) → AreInRow y (map (λ x. record { x = x; y = y; colour = colour x; painter = painter }) (range_with_len first n))
in_row-range painter y colour first zero = tt
in_row-range painter y colour first (suc n) = (refl, in_row-range painter y colour (first + 1) n)

pub in_row-span_dots : (painter : Painter) (y : ℕ) (colour : ℕ → ℕ) (first last : ℕ) → AreInRow y (span_dots painter y colour first last)
unfolding span_dots listed_from
in_row-span_dots painter y colour first last = in_row-range painter y colour first (last + 1 - first)

-- and they are in the frame where the strip is
in_frame-range : (painter : Painter) (left top x : ℕ) (colour : ℕ → ℕ) (first n : ℕ) → x + left < FRAME_WIDTH → first + n + top ≤ FRAME_HEIGHT →
    AreInFrame left top (column_dots painter x colour (map (λ y. y) (range_with_len first n)))
unfolding column_dots
in_frame-range painter left top x colour first zero l m = tt
in_frame-range painter left top x colour first (suc n) l m = ((l, omega arith), in_frame-range painter left top x colour (first + 1) n l (omega arith))

pub in_frame-column_dots : (painter : Painter) (left top x : ℕ) (colour : ℕ → ℕ) (first last : ℕ) → x + left < FRAME_WIDTH → last + top < FRAME_HEIGHT →
    AreInFrame left top (column_dots painter x colour (listed_from (λ y. y) first last))
unfolding listed_from column_dots
in_frame-column_dots painter left top x colour first last l m =
    elim (cases_lt last first) [
      | inl h ↦ (let count_is_zero : last + 1 - first ≡ 0 = omega arith in rw count_is_zero tt)
      | inr h ↦ in_frame-range painter left top x colour first (last + 1 - first) l (omega arith)
    ]

in_frame-row_range : (painter : Painter) (left top y : ℕ) (colour : ℕ → ℕ) (first n : ℕ) → first + n + left ≤ FRAME_WIDTH → y + top < FRAME_HEIGHT →
    AreInFrame left top (map (λ x. record { x = x; y = y; colour = colour x; painter = painter }) (range_with_len first n))
in_frame-row_range painter left top y colour first zero l m = tt
in_frame-row_range painter left top y colour first (suc n) l m = ((omega arith, m), in_frame-row_range painter left top y colour (first + 1) n (omega arith) m)

pub in_frame-span_dots : (painter : Painter) (left top y : ℕ) (colour : ℕ → ℕ) (first last : ℕ) → last + left < FRAME_WIDTH → y + top < FRAME_HEIGHT →
    AreInFrame left top (span_dots painter y colour first last)
unfolding span_dots listed_from
in_frame-span_dots painter left top y colour first last l m =
    elim (cases_lt last first) [
      | inl h ↦ (let count_is_zero : last + 1 - first ≡ 0 = omega arith in rw count_is_zero tt)
      | inr h ↦ in_frame-row_range painter left top y colour first (last + 1 - first) (omega arith) m
    ]

-- the last two summands change places
turned : (a b c : ℤ) → (a +ℤ b) +ℤ c ≡ (a +ℤ c) +ℤ b
turned a b c = +ℤ_assoc a b c ∙ ap (λ (z : ℤ). a +ℤ z) (+ℤ_comm b c) ∙ sym (+ℤ_assoc a c b)

-- rows from the centre, times the step, and one row more
row_more : (c step : ℤ) (y n : ℕ) → y + 1 ≡ n → step +ℤ (pos y -ℤ c) *ℤ step ≡ (pos n -ℤ c) *ℤ step
row_more c step y n e =
    let next_is : suc y ≡ n = omega arith in
    +ℤ_comm step ((pos y -ℤ c) *ℤ step) ∙ sym (suc_ℤ-*ℤ (pos y -ℤ c) step)
    ∙ ap (λ (z : ℤ). z *ℤ step) (sym (suc_ℤ-+ℤ (pos y) (neg_ℤ c))) ∙ ap (λ (m : ℕ). (pos m -ℤ c) *ℤ step) next_is

-- the fraction one row further is one step more
pub row_fraction-more : (centre_y : ℕ) (mid iscale : ℤ) (y n : ℕ) → y + 1 ≡ n → plus (row_fraction centre_y mid iscale y) iscale ≡ row_fraction centre_y mid iscale n
unfolding row_fraction plus minus times
row_fraction-more centre_y mid iscale y n e =
    let row_offset : ℤ = pos y -ℤ pos centre_y in
    let next_offset : ℤ = pos n -ℤ pos centre_y in
    int_wrap-add_left w32 (mid +ℤ int_wrap w32 (int_wrap w32 row_offset *ℤ iscale)) iscale
    ∙ ap (int_wrap w32) (turned mid (int_wrap w32 (int_wrap w32 row_offset *ℤ iscale)) iscale)
    ∙ int_wrap-add_right w32 (mid +ℤ iscale) (int_wrap w32 row_offset *ℤ iscale)
    ∙ sym (int_wrap-add_right w32 (mid +ℤ iscale) (int_wrap w32 row_offset *ℤ iscale))
    ∙ ap (λ (z : ℤ). int_wrap w32 ((mid +ℤ iscale) +ℤ z)) (int_wrap-mul_left w32 row_offset iscale)
    ∙ int_wrap-add_right w32 (mid +ℤ iscale) (row_offset *ℤ iscale)
    ∙ ap (int_wrap w32) (+ℤ_assoc mid iscale (row_offset *ℤ iscale) ∙ ap (λ (z : ℤ). mid +ℤ z) (row_more (pos centre_y) iscale y n e))
    ∙ sym (int_wrap-add_right w32 mid (next_offset *ℤ iscale))
    ∙ sym (ap (λ (z : ℤ). int_wrap w32 (mid +ℤ z)) (int_wrap-mul_left w32 next_offset iscale))

row_fits : (centre_y : ℕ) (mid iscale : ℤ) (y : ℕ) → FitsSigned w32 (row_fraction centre_y mid iscale y)
unfolding row_fraction plus
row_fits centre_y mid iscale y = SFits-int_wrap w32 (mid +ℤ times (minus (pos y) (pos centre_y)) iscale)

-- so the fraction k rows after the first is the first row's, stepped k times
pub row_fraction-steps : (centre_y : ℕ) (mid iscale : ℤ) (first k : ℕ) → row_fraction centre_y mid iscale (first + k) ≡ step_at (row_fraction centre_y mid iscale first) iscale k
row_fraction-steps centre_y mid iscale first zero =
    let row_is : first + 0 ≡ first = omega arith in
    ap (row_fraction centre_y mid iscale) row_is ∙ step_at-zero (row_fraction centre_y mid iscale first) iscale (row_fits centre_y mid iscale first)
row_fraction-steps centre_y mid iscale first (suc k) =
    sym (row_fraction-more centre_y mid iscale (first + k) (first + suc k) (omega arith))
    ∙ ap (λ (z : ℤ). plus z iscale) (row_fraction-steps centre_y mid iscale first k)
    ∙ step_at-more (row_fraction centre_y mid iscale first) iscale k (suc k) (omega arith)

-- for `grind`: a loop that paints a column or a span, adding the step
pub ruleset strip_steps = (column_dots-more, span_dots-more, row_fraction-more, row_fraction-steps)
