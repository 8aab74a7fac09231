-- Lists that come number by number: those of the first n numbers, one after the other.
use Rattle.word_rules.proofs.Common.{[], ap, append-nil, append_assoc, arith, cases_lt, Contains, Contains-append_cases, Contains-append_left, Contains-append_right, inl, inr, List, map, map-range_with_len_more, range_with_len, refl, subst, suc, sym, zero, ℕ, ◌++◌, ◌+◌, ◌-◌, ◌<◌, ◌∙◌, ◌∷◌, ◌≡◌, ◌≤◌}
use Rattle.word_rules.specs.Listed.{joined_lists, listed, listed_from}
use Rattle.word_rules.proofs.ListedLemmas.{joined_lists-append, joined_lists-one, listed-more}

-- the lists of the first n numbers
abbrev pub first_lists : {X : Type 0} → (ℕ → List X) → ℕ → List X
first_lists f n = joined_lists f (listed (λ k. k) n)

-- some list behind these gives all of them
pub record Begins {X : Type 0} (some all : List X) : Type 0 where
  pub rest : List X
  pub joins : some ++ rest ≡ all

-- an item of the first n lists is one of a list
pub record IsInFirst {X : Type 0} (f : ℕ → List X) (n : ℕ) (item : X) : Type 0 where
  pub number : ℕ
  pub within : number < n
  pub among : Contains (f number) item

module _ {X : Type 0} (f : ℕ → List X) where
  pub first-none : first_lists f 0 ≡ []
  unfolding joined_lists listed
  first-none = refl

  -- one more
  pub first-more : (n : ℕ) → first_lists f n ++ f n ≡ first_lists f (n + 1)
  first-more n =
      ap (λ (xs : List X). first_lists f n ++ xs) (sym (joined_lists-one f n))
      ∙ sym (joined_lists-append f (listed (λ k. k) n) (n ∷ []))
      ∙ ap (joined_lists f) (sym (listed-more (λ k. k) n))

  -- the first begin the first of a larger number
  begins_by : (n k : ℕ) → Begins (first_lists f n) (first_lists f (n + k))
  begins_by n zero = let same : n ≡ n + 0 = omega arith in record { rest = []; joins = append-nil (first_lists f n) ∙ ap (first_lists f) same }
  begins_by n (suc k) =
      let before = begins_by n k in
      let next : n + k + 1 ≡ n + suc k = omega arith in
      record {
        rest = before.rest ++ f (n + k);
        joins = sym (append_assoc (first_lists f n) before.rest (f (n + k))) ∙ ap (λ (xs : List X). xs ++ f (n + k)) before.joins ∙ first-more (n + k) ∙ ap (first_lists f) next;
      }

  pub first-begins : (n m : ℕ) → n ≤ m → Begins (first_lists f n) (first_lists f m)
  first-begins n m l =
      let same : n + (m - n) ≡ m = omega (arith, l) in subst (λ (k : ℕ). Begins (first_lists f n) (first_lists f k)) same (begins_by n (m - n))

  -- what is left behind a list that is one of them
  pub first-left : (n m : ℕ) → n < m → (rest : List X) × (first_lists f n ++ (f n ++ rest) ≡ first_lists f m)
  first-left n m l =
      let begins = first-begins (n + 1) m (omega (arith, l)) in
      (begins.rest, sym (append_assoc (first_lists f n) (f n) begins.rest) ∙ ap (λ (xs : List X). xs ++ begins.rest) (first-more n) ∙ begins.joins)

  -- each item of a list is one of all
  pub first-in : (n m : ℕ) (item : X) → n < m → Contains (f n) item → Contains (first_lists f m) item
  first-in n m item l h =
      let left = first-left n m l in
      subst (λ (xs : List X). Contains xs item) left.1
      (Contains-append_right (first_lists f n) (f n ++ left.0) item (Contains-append_left (f n) left.0 item h))

  -- and each of all is an item of a list
  pub first-cases : (n : ℕ) (item : X) → Contains (first_lists f n) item → IsInFirst f n item
  unfolding joined_lists listed
  first-cases zero item h = absurd (omega (arith, h.1))
  first-cases (suc n) item h =
      let next : n + 1 ≡ suc n = omega arith in
      let either = Contains-append_cases (first_lists f n) (f n) item (subst (λ (xs : List X). Contains xs item) (sym (first-more n ∙ ap (first_lists f) next)) h) in
      elim either [
        | inl before ↦ (let found = first-cases n item before in record { number = found.number; within = omega (arith, found.within); among = found.among })
        | inr here ↦ record { number = n; within = omega arith; among = here }
      ]

  -- lists that are empty, from one number to another
  empty_on : (a k : ℕ) → ((x : ℕ) → a ≤ x → x < a + k → f x ≡ []) → first_lists f a ≡ first_lists f (a + k)
  empty_on a zero none = let same : a ≡ a + 0 = omega arith in ap (first_lists f) same
  empty_on a (suc k) none =
      let next : a + k + 1 ≡ a + suc k = omega arith in
      empty_on a k (λ x from to. none x from (omega (arith, to)))
      ∙ sym (append-nil (first_lists f (a + k)))
      ∙ ap (λ (xs : List X). first_lists f (a + k) ++ xs) (sym (none (a + k) (omega arith) (omega arith)))
      ∙ first-more (a + k)
      ∙ ap (first_lists f) next

  pub first-past : (a b : ℕ) → ((x : ℕ) → a ≤ x → x < b → f x ≡ []) → ((x : ℕ) → b ≤ x → x < a → f x ≡ []) → first_lists f a ≡ first_lists f b
  first-past a b up down =
      elim (cases_lt a b) [
        | inl l ↦ (let end : a + (b - a) ≡ b = omega (arith, l) in
            empty_on a (b - a) (λ x from to. up x from (omega (arith, end, to))) ∙ ap (first_lists f) end)
        | inr l ↦ (let end : b + (a - b) ≡ a = omega (arith, l) in
            sym (empty_on b (a - b) (λ x from to. down x from (omega (arith, end, to))) ∙ ap (first_lists f) end))
      ]

-- the same lists by other words
pub first-same : {X : Type 0} (f g : ℕ → List X) (n : ℕ) → ((k : ℕ) → k < n → f k ≡ g k) → first_lists f n ≡ first_lists g n
first-same f g zero same = first-none f ∙ sym (first-none g)
first-same {X} f g (suc n) same =
    let next : n + 1 ≡ suc n = omega arith in
    ap (first_lists f) (sym next) ∙ sym (first-more f n)
    ∙ ap (λ (xs : List X). xs ++ f n) (first-same f g n (λ k l. same k (omega (arith, l)))) ∙ ap (λ (xs : List X). first_lists g n ++ xs) (same n (omega arith))
    ∙ first-more g n ∙ ap (first_lists g) next

-- what a function gives of the items of lists, list by list
pub joined-joined : {X Y Z : Type 0} (g : Y → List Z) (f : X → List Y) (xs : List X) → joined_lists g (joined_lists f xs) ≡ joined_lists (λ x. joined_lists g (f x)) xs
unfolding joined_lists
joined-joined g f [] = refl
joined-joined {Z = Z} g f (x ∷ xs) =
    joined_lists-append g (f x) (joined_lists f xs) ∙ ap (λ (zs : List Z). joined_lists g (f x) ++ zs) (joined-joined g f xs)

-- the lists of the numbers from a first one on
from_first : {X : Type 0} (f : ℕ → List X) (first n : ℕ) → first_lists (λ k. f (first + k)) n ≡ joined_lists f (map (λ (x : ℕ). x) (range_with_len first n))
unfolding joined_lists listed
from_first f first zero = refl
from_first {X} f first (suc n) =
    let next : n + 1 ≡ suc n = omega arith in
    ap (first_lists (λ k. f (first + k))) (sym next) ∙ sym (first-more (λ k. f (first + k)) n)
    ∙ ap (λ (xs : List X). xs ++ f (first + n)) (from_first f first n)
    ∙ ap (λ (xs : List X). joined_lists f (map (λ (x : ℕ). x) (range_with_len first n)) ++ xs) (sym (joined_lists-one f (first + n)))
    ∙ sym (joined_lists-append f (map (λ (x : ℕ). x) (range_with_len first n)) ((first + n) ∷ []))
    ∙ ap (joined_lists f) (sym (map-range_with_len_more (λ (x : ℕ). x) first n (first + n) refl))
    ∙ ap (λ (k : ℕ). joined_lists f (map (λ (x : ℕ). x) (range_with_len first k))) next

pub first-from : {X : Type 0} (f : ℕ → List X) (first last : ℕ) → first_lists (λ k. f (first + k)) (last + 1 - first) ≡ joined_lists f (listed_from (λ x. x) first last)
unfolding listed_from
first-from f first last = from_first f first (last + 1 - first)

-- an item of joined lists is one of the list of some item
pub joined-cases : {X Y : Type 0} (f : X → List Y) (xs : List X) (y : Y) → Contains (joined_lists f xs) y → (x : X) × (Contains xs x × Contains (f x) y)
unfolding joined_lists
joined-cases f [] y h = absurd (omega (arith, h.1))
joined-cases f (x ∷ xs) y h =
    elim (Contains-append_cases (f x) (joined_lists f xs) y h) [
      | inl here ↦ (x, ((0, omega arith, refl), here))
      | inr later ↦ (let found = joined-cases f xs y later in (found.0, (Contains-append_right (x ∷ []) xs found.0 found.1.0, found.1.1)))
    ]
