-- Laws of `each_from`.
use Rattle.word_rules.proofs.Common.{[], ap, append-nil, append_assoc, arith, at_drop_all, at_drop_more, drop, Err, get_or, length, List, None, Ok, Option, refl, Result, Some, suc, sym, ℕ, ◌++◌, ◌+◌, ◌<◌, ◌∙◌, ◌∷◌, ◌≡◌, ◌≤◌}
use Rattle.outside.specs.Faults.{and_then}
use Rattle.scene_rules.specs.Numbered.{each_from, each_or}

-- what is there already, and what f gives of the rest
unfoldable pub each_after : {X Y R : Type 0} → (X → Option Y) → (ℕ → R) → List Y → ℕ → List X → Result (List Y) R
each_after f refuse before number xs = and_then (each_from f refuse number xs) (λ rest. Ok (before ++ rest))

with_none : {Y R : Type 0} (rest : Result (List Y) R) → rest ≡ and_then rest (λ ys. Ok ys)
with_none (Ok ys) = refl
with_none (Err reason) = refl

with_one : {Y R : Type 0} (before : List Y) (y : Y) (rest : Result (List Y) R) → and_then (and_then rest (λ ys. Ok (y ∷ ys))) (λ ys. Ok (before ++ ys)) ≡ and_then rest (λ ys. Ok ((before ++ y ∷ []) ++ ys))
with_one before y (Ok ys) = ap Ok (sym (append_assoc before (y ∷ []) ys))
with_one before y (Err reason) = refl

module _ {X Y R : Type 0} (f : X → Option Y) (refuse : ℕ → R) where
  -- nothing is there yet
  pub each_after-begin : (xs : List X) → each_or f refuse xs ≡ each_after f refuse [] 0 xs
  unfolding each_or each_after
  each_after-begin xs = with_none (each_from f refuse 0 xs)

  -- an item of which f gives nothing
  pub each_after-found : (before : List Y) (i : ℕ) (xs : List X) (x d : X) → i < length xs → get_or xs i d ≡ x → f x ≡ None → each_after f refuse before i (drop i xs) ≡ Err (refuse i)
  unfolding each_after each_from
  each_after-found before i xs x d l g e = at_drop_more (each_after f refuse before i) xs i d l ∙ rw (g, e) refl

  -- one of which it gives something
  pub each_after-next : (before : List Y) (i : ℕ) (xs : List X) (x d : X) (y : Y) → i < length xs → get_or xs i d ≡ x → f x ≡ Some y → each_after f refuse before i (drop i xs) ≡ each_after f refuse (before ++ y ∷ []) (i + 1) (drop (i + 1) xs)
  unfolding each_after each_from
  each_after-next before i xs x d y l g e =
      let next_is : suc i ≡ i + 1 = omega arith in
      at_drop_more (each_after f refuse before i) xs i d l ∙ rw (g, e, next_is) (with_one before y (each_from f refuse (i + 1) (drop (i + 1) xs)))

  -- the end
  pub each_after-end : (before : List Y) (i : ℕ) (xs : List X) → length xs ≤ i → each_after f refuse before i (drop i xs) ≡ Ok before
  unfolding each_after each_from
  each_after-end before i xs l = at_drop_all (each_after f refuse before i) xs i l ∙ ap Ok (append-nil before)

-- for `grind`: a loop over the items
pub ruleset each_afters = (each_after-begin, each_after-found, each_after-next, each_after-end)
