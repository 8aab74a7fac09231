-- Where dots are: in the view, those of lists that are joined, of a column, and of rows between two.
use Rattle.word_rules.proofs.Common.{[], AllByRecursion, arith, Bool, cond, false, int_lt, ints, List, map, negsuc, pos, range_with_len, refl, suc, true, zero, ℕ, ℤ, ◌+◌, ◌-◌, ◌<ℤ◌, ◌<◌, ◌∷◌, ◌≡◌, ◌≤ℤ◌, ◌≤◌}
use Rattle.picture_rules.specs.Rules.{Dot, Painter, ViewShape, column_dots, joined_lists, listed, listed_from, natural, rows_between}
use Rattle.picture_rules.specs.Picture.{AreInView}
use Rattle.picture_rules.proofs.FrameLemmas.{in_view-append}

-- what holds of numbers from first on, n of them
numbers_from : (P : ℕ → Type 0) (first n : ℕ) → ((k : ℕ) → first ≤ k → k < first + n → P k) → AllByRecursion P (map (λ k. k) (range_with_len first n))
numbers_from P first zero h = tt
numbers_from P first (suc n) h = (h first (omega arith) (omega arith), numbers_from P (first + 1) n (λ k l m. h k (omega arith) (omega arith)))

pub numbers_between : (P : ℕ → Type 0) (first last : ℕ) → ((k : ℕ) → first ≤ k → k ≤ last → P k) → AllByRecursion P (listed_from (λ k. k) first last)
unfolding listed_from
numbers_between P first last h = numbers_from P first (last + 1 - first) (λ k l m. h k l (omega arith))

pub numbers_below : (P : ℕ → Type 0) (n : ℕ) → ((k : ℕ) → k < n → P k) → AllByRecursion P (listed (λ k. k) n)
unfolding listed
numbers_below P n h = numbers_from P 0 n (λ k l m. h k (omega arith))

-- lists that are joined lie in the view when each does
pub in_view-joined : {X : Type 0} (shape : ViewShape) (f : X → List Dot) (P : X → Type 0) (xs : List X) → ((x : X) → P x → AreInView shape (f x)) → AllByRecursion P xs → AreInView shape (joined_lists f xs)
unfolding joined_lists
in_view-joined shape f P [] h a = tt
in_view-joined shape f P (x ∷ xs) h a = in_view-append shape (f x) (joined_lists f xs) (h x a.0) (in_view-joined shape f P xs h a.1)

-- rows of a column
pub in_view-column : (shape : ViewShape) (painter : Painter) (x : ℕ) (colour : ℕ → ℕ) (rows : List ℕ) → x < shape.width → AllByRecursion (λ y. y < shape.height) rows → AreInView shape (column_dots painter x colour rows)
unfolding column_dots
in_view-column shape painter x colour [] l a = tt
in_view-column shape painter x colour (y ∷ ys) l a = ((l, a.0), in_view-column shape painter x colour ys l a.1)

natural-below : (first last : ℤ) (height y : ℕ) → first ≤ℤ last → pos 0 ≤ℤ first → last <ℤ pos height → y ≤ natural last → y < height
unfolding natural
natural-below first (pos n) height y o l h m = let number_below : n < height = omega (arith, ints) in omega arith
natural-below first (negsuc n) height y o l h m = absurd (omega (arith, ints))

rows_by : (height : ℕ) (first last : ℤ) (t : Bool) → int_lt last first ≡ t → (first ≤ℤ last → (pos 0 ≤ℤ first) × (last <ℤ pos height)) →
    AllByRecursion (λ y. y < height) (cond t [] (listed_from (λ y. y) (natural first) (natural last)))
rows_by height first last true e h = tt
rows_by height first last false e h =
    let in_order : first ≤ℤ last = grind (arith, ints) in
    let bounds = h in_order in
    numbers_between (λ y. y < height) (natural first) (natural last) (λ y l m. natural-below first last height y in_order bounds.0 bounds.1 m)

-- rows between two that are rows of the view, where there are some
pub rows_between-in : (height : ℕ) (first last : ℤ) → (first ≤ℤ last → (pos 0 ≤ℤ first) × (last <ℤ pos height)) → AllByRecursion (λ y. y < height) (rows_between first last)
unfolding rows_between
rows_between-in height first last h = rows_by height first last (int_lt last first) refl h
