-- Laws of the dots of spans: which pixel each has, and that those of rows that end have one at each pixel of the rows.
use Rattle.picture_rules.proofs.Common.{[], ap, arith, Bool, cases_eq, cond, false, inl, inr, max, min, nat_le, nat_lt, nat_tests, None, not, Option, or_else-none_right, refl, Some, suc, sym, true, zero, ℕ, ◌&&◌, ◌++◌, ◌+◌, ◌-◌, ◌<◌, ◌||◌, ◌∙◌, ◌≡◌, ◌≢◌, ◌≤◌, ◌⊎◌}
use Rattle.picture_rules.specs.Words.{AreInFrame, Dot, FRAME_HEIGHT, FRAME_WIDTH, last_dot, or_else, Painter, span_dots}
use Rattle.picture_rules.proofs.Laws.{in_frame-append, in_frame-span_dots, in_row-span_dots, last_dot-append, last_dot-beside_span, last_dot-none, last_dot-other_row, last_dot-span_dots}
use Rattle.visplanes.specs.declared.rows.Rows.{Rows}
use Rattle.visplanes.specs.Spans.{FloorView, pixel_colour, row_dots, closed_rows, closed_dots, is_in}

-- a span has a dot at each of its columns, and none elsewhere
pub row_dots-at : (f : FloorView) (painter : Painter) (y first last x : ℕ) → first ≤ x → x ≤ last →
    last_dot x y (row_dots f painter y first last) ≡ Some (record { x = x; y = y; colour = pixel_colour f y first x; painter = painter })
unfolding row_dots
row_dots-at f painter y first last x l m = last_dot-span_dots painter x y (pixel_colour f y first) first last l m

pub row_dots-beside : (f : FloorView) (painter : Painter) (y first last x : ℕ) → (x < first) ⊎ (last < x) → last_dot x y (row_dots f painter y first last) ≡ None
unfolding row_dots
row_dots-beside f painter y first last x o = last_dot-beside_span painter x y (pixel_colour f y first) first last o

row_dots-other : (f : FloorView) (painter : Painter) (r first last x y : ℕ) → r ≢ y → last_dot x y (row_dots f painter r first last) ≡ None
unfolding row_dots
row_dots-other f painter r first last x y n =
    last_dot-other_row r x y (span_dots painter r (pixel_colour f r first) first last) (in_row-span_dots painter r (pixel_colour f r first) first last) n

row_dots-frame : (f : FloorView) (painter : Painter) (left top y first last : ℕ) → last + left < FRAME_WIDTH → y + top < FRAME_HEIGHT → AreInFrame left top (row_dots f painter y first last)
unfolding row_dots
row_dots-frame f painter left top y first last l m = in_frame-span_dots painter left top y (pixel_colour f y first) first last l m

-- no row, and one row more
pub closed_rows-none : (f : FloorView) (painter : Painter) (start : ℕ → ℕ) (x from n : ℕ) → n ≡ 0 → closed_rows f painter start x from n ≡ []
unfolding closed_rows
closed_rows-none f painter start x from n e = rw e refl

pub closed_rows-more : (f : FloorView) (painter : Painter) (start : ℕ → ℕ) (x from k n y : ℕ) → k + 1 ≡ n → from + k ≡ y →
    closed_rows f painter start x from k ++ row_dots f painter y (start y) (x - 1) ≡ closed_rows f painter start x from n
unfolding closed_rows
closed_rows-more f painter start x from k n y e a =
    let is_suc : suc k ≡ n = omega arith in
    ap (λ (r : ℕ). closed_rows f painter start x from k ++ row_dots f painter r (start r) (x - 1)) (sym a) ∙ ap (closed_rows f painter start x from) is_suc

-- the dots of row y among those of the rows that end before column x
abbrev ended : FloorView → Painter → (ℕ → ℕ) → ℕ → ℕ → ℕ → Option Dot
ended f painter start x k y = last_dot k y (row_dots f painter y (start y) (x - 1))

one_row_more : (o : Option Dot) (from n y : ℕ) → y ≢ from + n → cond (nat_le from y && nat_lt y (from + n)) o None ≡ cond (nat_le from y && nat_lt y (from + suc n)) o None
one_row_more o from n y d =
    let same_test : (nat_le from y && nat_lt y (from + n)) ≡ (nat_le from y && nat_lt y (from + suc n)) = grind (arith, nat_tests) in
    ap (λ (b : Bool). cond b o None) same_test

-- the rows that end have their spans' dots, and the others none
pub closed_rows-at : (f : FloorView) (painter : Painter) (start : ℕ → ℕ) (x from n k y : ℕ) →
    last_dot k y (closed_rows f painter start x from n) ≡ cond (nat_le from y && nat_lt y (from + n)) (ended f painter start x k y) None
unfolding closed_rows
closed_rows-at f painter start x from zero k y =
    let no_row : (nat_le from y && nat_lt y (from + 0)) ≡ false = grind (arith, nat_tests) in
    last_dot-none k y ∙ ap (λ (b : Bool). cond b (ended f painter start x k y) None) (sym no_row)
closed_rows-at f painter start x from (suc n) k y =
    last_dot-append k y (closed_rows f painter start x from n) (row_dots f painter (from + n) (start (from + n)) (x - 1))
    ∙ ap (or_else (last_dot k y (row_dots f painter (from + n) (start (from + n)) (x - 1)))) (closed_rows-at f painter start x from n k y)
    ∙ elim (cases_eq y (from + n)) [
      | inl e ↦
          let not_before : (nat_le from y && nat_lt y (from + n)) ≡ false = grind (arith, nat_tests) in
          let now_in : (nat_le from y && nat_lt y (from + suc n)) ≡ true = grind (arith, nat_tests) in
          ap (λ (r : ℕ). or_else (last_dot k y (row_dots f painter r (start r) (x - 1))) (cond (nat_le from y && nat_lt y (from + n)) (ended f painter start x k y) None)) (sym e)
          ∙ ap (λ (t : Bool). or_else (ended f painter start x k y) (cond t (ended f painter start x k y) None)) not_before
          ∙ or_else-none_right (ended f painter start x k y)
          ∙ ap (λ (t : Bool). cond t (ended f painter start x k y) None) (sym now_in)
      | inr d ↦
          ap (λ (o : Option Dot). or_else o (cond (nat_le from y && nat_lt y (from + n)) (ended f painter start x k y) None)) (row_dots-other f painter (from + n) (start (from + n)) (x - 1) k y (λ e. d (sym e)))
          ∙ one_row_more (ended f painter start x k y) from n y d
    ]

either : (o : Option Dot) (a b : Bool) → or_else (cond a o None) (cond b o None) ≡ cond (b || a) o None
either None true true = refl
either None true false = refl
either None false true = refl
either None false false = refl
either (Some d) true true = refl
either (Some d) true false = refl
either (Some d) false true = refl
either (Some d) false false = refl

-- the rows of one column that another does not have, as two ranges
parted : (before now : Rows) (y : ℕ) → before.begin ≤ before.end → now.begin ≤ now.end →
    ((nat_le before.begin y && nat_lt y (before.begin + (min before.end now.begin - before.begin)))
    || (nat_le (max before.begin now.end) y && nat_lt y (max before.begin now.end + (before.end - max before.begin now.end))))
    ≡ (is_in before y && not (is_in now y))
unfolding is_in
parted before now y l m = grind (arith, nat_tests)

pub closed_dots-at : (f : FloorView) (painter : Painter) (start : ℕ → ℕ) (before now : Rows) (x k y : ℕ) → before.begin ≤ before.end → now.begin ≤ now.end →
    last_dot k y (closed_dots f painter start before now x) ≡ cond (is_in before y && not (is_in now y)) (last_dot k y (row_dots f painter y (start y) (x - 1))) None
unfolding closed_dots
closed_dots-at f painter start before now x k y l m =
    last_dot-append k y (closed_rows f painter start x before.begin (min before.end now.begin - before.begin)) (closed_rows f painter start x (max before.begin now.end) (before.end - max before.begin now.end))
    ∙ ap (λ (o : Option Dot). or_else o (last_dot k y (closed_rows f painter start x before.begin (min before.end now.begin - before.begin))))
    (closed_rows-at f painter start x (max before.begin now.end) (before.end - max before.begin now.end) k y)
    ∙ ap (or_else (cond (nat_le (max before.begin now.end) y && nat_lt y (max before.begin now.end + (before.end - max before.begin now.end))) (ended f painter start x k y) None))
    (closed_rows-at f painter start x before.begin (min before.end now.begin - before.begin) k y)
    ∙ either (ended f painter start x k y) (nat_le (max before.begin now.end) y && nat_lt y (max before.begin now.end + (before.end - max before.begin now.end)))
    (nat_le before.begin y && nat_lt y (before.begin + (min before.end now.begin - before.begin)))
    ∙ ap (λ (b : Bool). cond b (ended f painter start x k y) None) (parted before now y l m)

-- and they are in the frame
closed_rows-frame : (f : FloorView) (painter : Painter) (start : ℕ → ℕ) (left top x from n : ℕ) →
    ((y : ℕ) → from ≤ y → y < from + n → (0 < x) × (x + left < FRAME_WIDTH + 1) × (y + top < FRAME_HEIGHT)) → AreInFrame left top (closed_rows f painter start x from n)
unfolding closed_rows
closed_rows-frame f painter start left top x from zero h = tt
closed_rows-frame f painter start left top x from (suc n) h =
    let row_fits = h (from + n) (omega arith) (omega arith) in
    in_frame-append left top (closed_rows f painter start x from n) (row_dots f painter (from + n) (start (from + n)) (x - 1))
    (closed_rows-frame f painter start left top x from n (λ y a b. h y a (omega arith)))
    (row_dots-frame f painter left top (from + n) (start (from + n)) (x - 1) (omega (arith, row_fits.0, row_fits.1)) row_fits.2)

pub closed_dots-frame : (f : FloorView) (painter : Painter) (start : ℕ → ℕ) (before now : Rows) (left top x : ℕ) →
    ((y : ℕ) → before.begin ≤ y → y < before.end → (0 < x) × (x + left < FRAME_WIDTH + 1) × (y + top < FRAME_HEIGHT)) → AreInFrame left top (closed_dots f painter start before now x)
unfolding closed_dots
closed_dots-frame f painter start before now left top x h =
    in_frame-append left top (closed_rows f painter start x before.begin (min before.end now.begin - before.begin)) (closed_rows f painter start x (max before.begin now.end) (before.end - max before.begin now.end))
    (closed_rows-frame f painter start left top x before.begin (min before.end now.begin - before.begin) (λ y a b. h y a (omega arith)))
    (closed_rows-frame f painter start left top x (max before.begin now.end) (before.end - max before.begin now.end) (λ y a b. h y (omega arith) (omega arith)))
