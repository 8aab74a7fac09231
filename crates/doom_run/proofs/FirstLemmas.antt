-- What a function gives of the numbers below one, put one after the other.
use Rattle.std.proofs.Common.{◌≡◌, ◌≤◌, ℕ, zero, suc, ◌+◌, ◌-◌, List, [], ◌∷◌, ◌++◌, Ok, refl, subst, ap, sym, ◌∙◌, arith, append_assoc, append-nil}
use Rattle.doom_run.specs.Rules.{GrewByPrefix, Writes, joined_lists, listed}
use Rattle.art_rules.proofs.Laws.{prefix_of_more, writes_none}
use Rattle.picture_rules.proofs.Laws.{joined_lists-append, joined_lists-cons, listed-more}

-- of the first n numbers
abbrev pub first_of : (ℕ → List ℕ) → ℕ → List ℕ
first_of f n = joined_lists f (listed (λ k. k) n)

-- nothing of no number
pub first-none : (f : ℕ → List ℕ) → [] ≡ first_of f 0
unfolding listed joined_lists
first-none f = refl

-- one number more
pub first-more : (f : ℕ → List ℕ) (n : ℕ) → first_of f n ++ f n ≡ first_of f (n + 1)
unfolding joined_lists
first-more f n =
    ap (λ (xs : List ℕ). joined_lists f (listed (λ k. k) n) ++ xs) (sym (append-nil (f n)) ∙ sym (joined_lists-cons f n []))
    ∙ sym (joined_lists-append f (listed (λ k. k) n) (n ∷ []))
    ∙ ap (joined_lists f) (sym (listed-more (λ k. k) n))

-- what some numbers give begins what more give
pub first-begins : (f : ℕ → List ℕ) (n m : ℕ) → (rest : List ℕ) × (first_of f n ++ rest ≡ first_of f (n + m))
first-begins f n zero = let number_same : n ≡ n + zero = omega arith in ([], append-nil (first_of f n) ∙ ap (first_of f) number_same)
first-begins f n (suc m) =
    let rest_behind : (rest : List ℕ) × (first_of f n ++ rest ≡ first_of f (n + m)) = first-begins f n m in
    let next_number_is : n + m + 1 ≡ n + suc m = omega arith in (
      rest_behind.0 ++ f (n + m),
      sym (append_assoc (first_of f n) rest_behind.0 (f (n + m)))
          ∙ ap (λ (xs : List ℕ). xs ++ f (n + m)) rest_behind.1 ∙ first-more f (n + m) ∙ ap (first_of f) next_number_is,
    )

-- a prefix of what the first numbers give is one of what more give
pub prefix_first : {a b : List ℕ → Type 0} (f : ℕ → List ℕ) (n m : ℕ) → n ≤ m → GrewByPrefix a b (first_of f n) → GrewByPrefix a b (first_of f m)
prefix_first f n m le grew =
    let rest_behind : (rest : List ℕ) × (first_of f n ++ rest ≡ first_of f (n + (m - n))) = first-begins f n (m - n) in
    let numbers_add_up : n + (m - n) ≡ m = omega arith in
    prefix_of_more rest_behind.0 (first_of f m) grew (rest_behind.1 ∙ ap (first_of f) numbers_add_up)

-- nothing was written yet
pub none_first : {E : Type 0} (f : ℕ → List ℕ) (a : List ℕ → Type 0) (i : ℕ) → Writes {E = E} a a i i (first_of f 0) (Ok tt)
none_first {E} f a i = subst (λ (xs : List ℕ). Writes {E = E} a a i i xs (Ok tt)) (first-none f) (writes_none a i)
