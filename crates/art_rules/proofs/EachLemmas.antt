-- Laws of `each_of`.
use Rattle.word_rules.proofs.Common.{[], add-zero, ap, arith, Err, length, List, Ok, range_with_len, refl, Result, suc, sym, take, take_more_set, zero, zero-add, ℕ, ◌++◌, ◌+◌, ◌<◌, ◌∙◌, ◌∷◌, ◌≡◌, set}
use Rattle.outside.specs.Faults.{and_then}
use Rattle.art_rules.specs.Books.{each_of}

joined : {Y R : Type 0} (a : Result Y R) (b c : Result (List Y) R) →
    and_then a (λ v. and_then (and_then b (λ vs. and_then c (λ ws. Ok (vs ++ ws)))) (λ us. Ok (v ∷ us))) ≡ and_then (and_then a (λ v. and_then b (λ vs. Ok (v ∷ vs)))) (λ us. and_then c (λ ws. Ok (us ++ ws)))
joined (Ok v) (Ok vs) (Ok ws) = refl
joined (Ok v) (Ok vs) (Err r) = refl
joined (Ok v) (Err r) c = refl
joined (Err r) b c = refl

range_split : (a k n : ℕ) → k < n → (rest : List ℕ) × (range_with_len a n ≡ range_with_len a k ++ (a + k) ∷ rest)
range_split a k zero h = absurd (omega arith)
range_split a zero (suc n) h = (range_with_len (a + 1) n, ap (λ m. m ∷ range_with_len (a + 1) n) (sym (add-zero a)))
range_split a (suc k) (suc n) h =
    let range_is = range_split (a + 1) k n (omega arith) in
    let place_is : (a + 1) + k ≡ a + suc k = omega arith in
    (range_is.0, ap (λ v. a ∷ v) (range_is.1 ∙ ap (λ m. range_with_len (a + 1) k ++ m ∷ range_is.0) place_is))

-- a range of one number more
pub range_more : (a n : ℕ) → range_with_len a (n + 1) ≡ range_with_len a n ++ (a + n) ∷ []
range_more a zero = ap (λ m. m ∷ []) (sym (add-zero a))
range_more a (suc n) =
    let place_is : (a + 1) + n ≡ a + suc n = omega arith in
    let count_is : suc n + 1 ≡ suc (n + 1) = omega arith in
    rw count_is (ap (λ v. a ∷ v) (range_more (a + 1) n ∙ ap (λ m. range_with_len (a + 1) n ++ m ∷ []) place_is))

module _ {X Y R : Type 0} (f : X → Result Y R) where
  pub each_of-nil : each_of f [] ≡ Ok []
  unfolding each_of
  each_of-nil = refl

  pub each_of-append : (xs ys : List X) → each_of f (xs ++ ys) ≡ and_then (each_of f xs) (λ vs. and_then (each_of f ys) (λ ws. Ok (vs ++ ws)))
  unfolding each_of
  each_of-append [] ys = whole (each_of f ys) where
    whole : (c : Result (List Y) R) → c ≡ and_then c (λ ws. Ok ws)
    whole (Ok ws) = refl
    whole (Err r) = refl
  each_of-append (x ∷ xs) ys = ap (λ c. and_then (f x) (λ v. and_then c (λ us. Ok (v ∷ us)))) (each_of-append xs ys) ∙ joined (f x) (each_of f xs) (each_of f ys)

  -- one item more, where those before it give vs
  pub each_of-push : (xs : List X) (vs : List Y) (x : X) (y : Y) → each_of f xs ≡ Ok vs → f x ≡ Ok y → each_of f (xs ++ x ∷ []) ≡ Ok (vs ++ y ∷ [])
  unfolding each_of
  each_of-push xs vs x y e g = each_of-append xs (x ∷ []) ∙ rw (e, g) refl

  -- an item is refused, and none before it
  pub each_of-stop : (xs more : List X) (vs : List Y) (x : X) (r : R) → each_of f xs ≡ Ok vs → f x ≡ Err r → each_of f (xs ++ x ∷ more) ≡ Err r
  unfolding each_of
  each_of-stop xs more vs x r e g = each_of-append xs (x ∷ more) ∙ rw (e, g) refl

-- the same over numbers, which fill a list
module _ {Y R : Type 0} (f : ℕ → Result Y R) where
  pub numbers-push : (k : ℕ) (xs : List Y) (y : Y) → k < length xs → each_of f (range_with_len 0 k) ≡ Ok (take k xs) → f k ≡ Ok y → each_of f (range_with_len 0 (k + 1)) ≡ Ok (take (k + 1) (set xs k y))
  numbers-push k xs y h e g =
      ap (each_of f) (range_more 0 k ∙ ap (λ m. range_with_len 0 k ++ m ∷ []) (zero-add k)) ∙ each_of-push f (range_with_len 0 k) (take k xs) k y e g ∙ ap Ok (sym (take_more_set xs k y h))

  pub numbers-stop : (k n : ℕ) (vs : List Y) (r : R) → k < n → each_of f (range_with_len 0 k) ≡ Ok vs → f k ≡ Err r → each_of f (range_with_len 0 n) ≡ Err r
  numbers-stop k n vs r h e g =
      let range_is = range_split 0 k n h in
      ap (each_of f) (range_is.1 ∙ ap (λ m. range_with_len 0 k ++ m ∷ range_is.0) (zero-add k)) ∙ each_of-stop f (range_with_len 0 k) range_is.0 vs k r e g
