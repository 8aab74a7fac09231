-- Laws of dots that are listed column by column, or row by row: a pixel has those of its own column or row alone.
use Rattle.word_rules.proofs.Common.{[], and_right, ap, arith, Bool, cases_eq, cases_lt, cond, eq-eqb, false, flat_map, inl, inr, List, map, map-id, ne_eqb, None, Option, or_else-none_right, range_with_len, refl, Some, suc, sym, true, zero, ℕ, ◌&&◌, ◌+◌, ◌-◌, ◌<◌, ◌==◌, ◌∙◌, ◌∷◌, ◌≡◌, ◌≢◌, ◌≤◌, ◌⊎◌}
use Rattle.word_rules.specs.{Least.or_else, Listed.listed, Listed.listed_from, Listed.joined_lists}
use Rattle.pixel_rules.specs.{declared.Painter.Painter, Strips.column_dots, Strips.span_dots}
use Rattle.pixel_rules.specs.Dots.{Dot, is_at, last_dot_from, last_dot, AreInColumn, AreInRow}
use Rattle.pixel_rules.proofs.DotLemmas.{last_dot-append, last_dot-none}

-- no dot of another column is at the pixel, and none of another row
other_column : (c x y : ℕ) (b : Option Dot) (ds : List Dot) → AreInColumn c ds → c ≢ x → last_dot_from b x y ds ≡ b
unfolding last_dot_from is_at
other_column c x y b [] a n = refl
other_column c x y b (d ∷ ds) a n = rw (ne_eqb d.x x (λ e. n (sym a.0 ∙ e))) (other_column c x y b ds a.1 n)

pub last_dot-other_column : (c x y : ℕ) (ds : List Dot) → AreInColumn c ds → c ≢ x → last_dot x y ds ≡ None
unfolding last_dot
last_dot-other_column c x y ds a n = other_column c x y None ds a n

other_row : (r x y : ℕ) (b : Option Dot) (ds : List Dot) → AreInRow r ds → r ≢ y → last_dot_from b x y ds ≡ b
unfolding last_dot_from is_at
other_row r x y b [] a n = refl
other_row r x y b (d ∷ ds) a n = rw (ne_eqb d.y y (λ e. n (sym a.0 ∙ e)), and_right (d.x == x) false refl) (other_row r x y b ds a.1 n)

pub last_dot-other_row : (r x y : ℕ) (ds : List Dot) → AreInRow r ds → r ≢ y → last_dot x y ds ≡ None
unfolding last_dot
last_dot-other_row r x y ds a n = other_row r x y None ds a n

-- columns from first on, n of them
past_columns : (f : ℕ → List Dot) (x y first n : ℕ) → ((c : ℕ) → AreInColumn c (f c)) → x < first → last_dot x y (flat_map f (map (λ c. c) (range_with_len first n))) ≡ None
past_columns f x y first zero a l = last_dot-none x y
past_columns f x y first (suc n) a l =
    last_dot-append x y (f first) (flat_map f (map (λ c. c) (range_with_len (first + 1) n)))
    ∙ ap (λ (o : Option Dot). or_else o (last_dot x y (f first))) (past_columns f x y (first + 1) n a (omega arith))
    ∙ last_dot-other_column first x y (f first) (a first) (λ e. absurd (omega arith))

own_column : (f : ℕ → List Dot) (x y first n : ℕ) → ((c : ℕ) → AreInColumn c (f c)) → first ≤ x → x < first + n → last_dot x y (flat_map f (map (λ c. c) (range_with_len first n))) ≡ last_dot x y (f x)
own_column f x y first zero a l m = absurd (omega arith)
own_column f x y first (suc n) a l m =
    elim (cases_eq first x) [
      | inl e ↦
          last_dot-append x y (f first) (flat_map f (map (λ c. c) (range_with_len (first + 1) n)))
          ∙ ap (λ (o : Option Dot). or_else o (last_dot x y (f first))) (past_columns f x y (first + 1) n a (omega arith))
          ∙ ap (λ (c : ℕ). last_dot x y (f c)) e
      | inr e ↦
          last_dot-append x y (f first) (flat_map f (map (λ c. c) (range_with_len (first + 1) n)))
          ∙ ap (λ (o : Option Dot). or_else o (last_dot x y (f first))) (own_column f x y (first + 1) n a (omega arith) (omega arith))
          ∙ ap (or_else (last_dot x y (f x))) (last_dot-other_column first x y (f first) (a first) e)
          ∙ or_else-none_right (last_dot x y (f x))
    ]

after_columns : (f : ℕ → List Dot) (x y first n : ℕ) → ((c : ℕ) → AreInColumn c (f c)) → first + n ≤ x → last_dot x y (flat_map f (map (λ c. c) (range_with_len first n))) ≡ None
after_columns f x y first zero a l = last_dot-none x y
after_columns f x y first (suc n) a l =
    last_dot-append x y (f first) (flat_map f (map (λ c. c) (range_with_len (first + 1) n)))
    ∙ ap (λ (o : Option Dot). or_else o (last_dot x y (f first))) (after_columns f x y (first + 1) n a (omega arith))
    ∙ last_dot-other_column first x y (f first) (a first) (λ e. absurd (omega arith))

pub last_dot-no_column : (f : ℕ → List Dot) (x y first last : ℕ) → ((c : ℕ) → AreInColumn c (f c)) → (x < first) ⊎ (last < x) →
    last_dot x y (joined_lists f (listed_from (λ c. c) first last)) ≡ None
unfolding joined_lists listed_from
last_dot-no_column f x y first last a (inl l) = past_columns f x y first (last + 1 - first) a l
last_dot-no_column f x y first last a (inr l) =
    elim (cases_lt last first) [
      | inl h ↦ (let count_is_zero : last + 1 - first ≡ 0 = omega arith in rw count_is_zero (last_dot-none x y))
      | inr h ↦ after_columns f x y first (last + 1 - first) a (omega arith)
    ]

-- the same of the columns 0 to n - 1
pub last_dot-listed_columns : (f : ℕ → List Dot) (x y n : ℕ) → ((c : ℕ) → AreInColumn c (f c)) → x < n →
    last_dot x y (joined_lists f (listed (λ c. c) n)) ≡ last_dot x y (f x)
unfolding joined_lists listed
last_dot-listed_columns f x y n a l = own_column f x y 0 n a (omega arith) (omega arith)

-- of dots by number, the one whose number is t is at the pixel, and no other
module _ (dot : ℕ → Dot) (x y t : ℕ) (at : (k : ℕ) → is_at x y (dot k) ≡ (k == t)) where
  dots_from : (b : Option Dot) (k n : ℕ) (s : Bool) → (k == t) ≡ s → last_dot_from b x y (map dot (range_with_len k (suc n))) ≡ last_dot_from (cond s (Some (dot k)) b) x y (map dot (range_with_len (k + 1) n))
  unfolding last_dot_from
  dots_from b k n s e = ap (λ (c : Bool). last_dot_from (cond c (Some (dot k)) b) x y (map dot (range_with_len (k + 1) n))) (at k ∙ e)

  dots_past : (b : Option Dot) (k n : ℕ) → t < k → last_dot_from b x y (map dot (range_with_len k n)) ≡ b
  unfolding last_dot_from
  dots_past b k zero l = refl
  dots_past b k (suc n) l = dots_from b k n false (ne_eqb k t (λ e. absurd (omega arith))) ∙ dots_past b (k + 1) n (omega arith)

  dots_short : (b : Option Dot) (k n : ℕ) → k + n ≤ t → last_dot_from b x y (map dot (range_with_len k n)) ≡ b
  unfolding last_dot_from
  dots_short b k zero l = refl
  dots_short b k (suc n) l = dots_from b k n false (ne_eqb k t (λ e. absurd (omega arith))) ∙ dots_short b (k + 1) n (omega arith)

  dots_at : (b : Option Dot) (k n : ℕ) → k ≤ t → t < k + n → last_dot_from b x y (map dot (range_with_len k n)) ≡ Some (dot t)
  dots_at b k zero l m = absurd (omega arith)
  dots_at b k (suc n) l m =
      elim (cases_eq k t) [
        | inl e ↦ dots_from b k n true (eq-eqb k t e) ∙ dots_past (Some (dot k)) (k + 1) n (omega arith) ∙ ap (λ (j : ℕ). Some (dot j)) e
        | inr e ↦ dots_from b k n false (ne_eqb k t e) ∙ dots_at b (k + 1) n (omega arith) (omega arith)
      ]

  dots_beside : (first last : ℕ) → (t < first) ⊎ (last < t) → last_dot x y (listed_from dot first last) ≡ None
  unfolding last_dot listed_from
  dots_beside first last (inl l) = dots_past None first (last + 1 - first) l
  dots_beside first last (inr l) =
      elim (cases_lt t first) [
        | inl h ↦ dots_past None first (last + 1 - first) h
        | inr h ↦ dots_short None first (last + 1 - first) (omega arith)
      ]

  dots_among : (first last : ℕ) → first ≤ t → t ≤ last → last_dot x y (listed_from dot first last) ≡ Some (dot t)
  unfolding last_dot listed_from
  dots_among first last l m = dots_at None first (last + 1 - first) l (omega arith)

-- a strip of a column has a dot at each of its rows, and none elsewhere
abbrev row_dot : Painter → ℕ → (ℕ → ℕ) → ℕ → Dot
row_dot painter x colour r = record { x = x; y = r; colour = colour r; painter = painter }

in_row : (painter : Painter) (x y : ℕ) (colour : ℕ → ℕ) (r : ℕ) → is_at x y (row_dot painter x colour r) ≡ (r == y)
unfolding is_at
in_row painter x y colour r = ap (λ b. b && r == y) (eq-eqb x x refl)

strip_listed : (painter : Painter) (x : ℕ) (colour : ℕ → ℕ) (first last : ℕ) → column_dots painter x colour (listed_from (λ r. r) first last) ≡ listed_from (row_dot painter x colour) first last
unfolding column_dots listed_from
strip_listed painter x colour first last = ap (map (row_dot painter x colour)) (map-id (range_with_len first (last + 1 - first)))

pub last_dot-column_dots : (painter : Painter) (x y : ℕ) (colour : ℕ → ℕ) (first last : ℕ) → first ≤ y → y ≤ last →
    last_dot x y (column_dots painter x colour (listed_from (λ r. r) first last)) ≡ Some (record { x = x; y = y; colour = colour y; painter = painter })
last_dot-column_dots painter x y colour first last l m = ap (last_dot x y) (strip_listed painter x colour first last) ∙ dots_among (row_dot painter x colour) x y y (in_row painter x y colour) first last l m

pub last_dot-no_row : (painter : Painter) (x y : ℕ) (colour : ℕ → ℕ) (first last : ℕ) → (y < first) ⊎ (last < y) →
    last_dot x y (column_dots painter x colour (listed_from (λ r. r) first last)) ≡ None
last_dot-no_row painter x y colour first last l = ap (last_dot x y) (strip_listed painter x colour first last) ∙ dots_beside (row_dot painter x colour) x y y (in_row painter x y colour) first last l

-- the same of spans: a dot at each of the columns, and none elsewhere
and_true : (b : Bool) → (b && true) ≡ b
and_true true = refl
and_true false = refl

in_column : (painter : Painter) (x y : ℕ) (colour : ℕ → ℕ) (c : ℕ) → is_at x y (record { x = c; y = y; colour = colour c; painter = painter }) ≡ (c == x)
unfolding is_at
in_column painter x y colour c = ap (λ b. c == x && b) (eq-eqb y y refl) ∙ and_true (c == x)

pub last_dot-span_dots : (painter : Painter) (x y : ℕ) (colour : ℕ → ℕ) (first last : ℕ) → first ≤ x → x ≤ last →
    last_dot x y (span_dots painter y colour first last) ≡ Some (record { x = x; y = y; colour = colour x; painter = painter })
unfolding span_dots
last_dot-span_dots painter x y colour first last l m = dots_among (λ c. record { x = c; y = y; colour = colour c; painter = painter }) x y x (in_column painter x y colour) first last l m

pub last_dot-beside_span : (painter : Painter) (x y : ℕ) (colour : ℕ → ℕ) (first last : ℕ) → (x < first) ⊎ (last < x) →
    last_dot x y (span_dots painter y colour first last) ≡ None
unfolding span_dots
last_dot-beside_span painter x y colour first last l = dots_beside (λ c. record { x = c; y = y; colour = colour c; painter = painter }) x y x (in_column painter x y colour) first last l
