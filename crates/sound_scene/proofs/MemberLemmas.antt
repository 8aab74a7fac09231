-- What is among the items of a list that a definition makes of another.
use Rattle.art_rules.proofs.Common.{[], ap, arith, Bool, cond, Contains, false, filter, get_or, inl, inr, length, List, list_any, list_any-append, list_any_at, map, Ok, or_left, or_right, refl, Result, subst, suc, sym, true, zero, ℕ, ◌<◌, ◌∙◌, ◌∷◌, ◌≡◌, ◌⊎◌}
use Rattle.art_rules.specs.Words.{and_then, each_of, joined_lists}
use Rattle.art_rules.proofs.Laws.{and_then-ok, joined_lists-cons}

module _ {X : Type 0} where
  -- none is in an empty list; else it is the first item or among the rest
  pub among_none : {P : Type 0} (x : X) → Contains [] x → P
  among_none x has = absurd (omega (arith, has.1))

  among_at : (x : X) (xs : List X) (z : X) (i : ℕ) → i < length (x ∷ xs) → get_or (x ∷ xs) i z ≡ z → (x ≡ z) ⊎ Contains xs z
  among_at x xs z zero l e = inl e
  among_at x xs z (suc i) l e = inr (i, omega arith, e)

  pub among_cases : (x : X) (xs : List X) (z : X) → Contains (x ∷ xs) z → (x ≡ z) ⊎ Contains xs z
  among_cases x xs z has = among_at x xs z has.0 has.1 has.2

  pub among_first : (x : X) (xs : List X) → Contains (x ∷ xs) x
  among_first x xs = (0, omega arith, refl)

  pub among_later : (x : X) (xs : List X) (z : X) → Contains xs z → Contains (x ∷ xs) z
  among_later x xs z has = (suc has.0, omega (arith, has.1), has.2)

  -- one that passes is kept
  kept_or_not : (b : Bool) (x : X) (xs : List X) (z : X) → Contains xs z → Contains (cond b (x ∷ xs) xs) z
  kept_or_not true x xs z has = among_later x xs z has
  kept_or_not false x xs z has = has

  kept_first : (b : Bool) (x : X) (xs : List X) → b ≡ true → Contains (cond b (x ∷ xs) xs) x
  kept_first true x xs e = among_first x xs
  kept_first false x xs e = cc

  pub among_kept : (p : X → Bool) (xs : List X) (z : X) → Contains xs z → p z ≡ true → Contains (filter p xs) z
  among_kept p [] z has on = among_none z has
  among_kept p (x ∷ xs) z has on = elim (among_cases x xs z has) [
    | inl same ↦ rw (← same) (kept_first (p x) x (filter p xs) (ap p same ∙ on))
    | inr later ↦ kept_or_not (p x) x (filter p xs) z (among_kept p xs z later on)
  ]

  -- an item that passes
  pub any_among : (p : X → Bool) (xs : List X) (z : X) → Contains xs z → p z ≡ true → list_any p xs ≡ true
  any_among p xs z has on = list_any_at p xs has.0 z has.1 (ap p has.2 ∙ on)

module _ {X Y : Type 0} where
  -- a number of one of the lists that are put one after the other
  pub any_joined : (p : Y → Bool) (f : X → List Y) (xs : List X) (z : X) → Contains xs z → list_any p (f z) ≡ true → list_any p (joined_lists f xs) ≡ true
  any_joined p f [] z has on = among_none z has
  any_joined p f (x ∷ xs) z has on =
      ap (list_any p) (joined_lists-cons f x xs) ∙ list_any-append p (f x) (joined_lists f xs)
      ∙ elim (among_cases x xs z has) [
        | inl same ↦ or_left (list_any p (f x)) (list_any p (joined_lists f xs)) (ap (λ y. list_any p (f y)) same ∙ on)
        | inr later ↦ or_right (list_any p (f x)) (list_any p (joined_lists f xs)) (any_joined p f xs z later on)
      ]

  pub any_mapped : (p : Y → Bool) (f : X → Y) (xs : List X) (z : X) → Contains xs z → p (f z) ≡ true → list_any p (map f xs) ≡ true
  any_mapped p f [] z has on = among_none z has
  any_mapped p f (x ∷ xs) z has on = elim (among_cases x xs z has) [
    | inl same ↦ or_left (p (f x)) (list_any p (map f xs)) (ap (λ y. p (f y)) same ∙ on)
    | inr later ↦ or_right (p (f x)) (list_any p (map f xs)) (any_mapped p f xs z later on)
  ]

-- what f gives of each item is among what it gives of all
module _ {X Y R : Type 0} (f : X → Result Y R) where
  pub record IsMade (ys : List Y) (x : X) : Type 0 where
    pub made : Y
    pub is : f x ≡ Ok made
    pub among : Contains ys made

  made_later : (y : Y) (ys : List Y) (x : X) → IsMade ys x → IsMade (y ∷ ys) x
  made_later y ys x m = record { made = m.made; is = m.is; among = among_later y ys m.made m.among }

  pub each_made : (xs : List X) (ys : List Y) (z : X) → each_of f xs ≡ Ok ys → Contains xs z → IsMade ys z
  unfolding each_of
  each_made [] ys z e has = among_none z has
  each_made (x ∷ xs) ys z e has =
      let head_item = and_then-ok (f x) (λ y. and_then (each_of f xs) (λ ys. Ok (y ∷ ys))) ys e in
      let tail_items = and_then-ok (each_of f xs) (λ ys. Ok (head_item.0 ∷ ys)) ys head_item.2 in
      let items_same : head_item.0 ∷ tail_items.0 ≡ ys = cc in
      subst (λ zs. IsMade zs z) items_same (elim (among_cases x xs z has) [
        | inl same ↦ record { made = head_item.0; is = ap f (sym same) ∙ head_item.1; among = among_first head_item.0 tail_items.0 }
        | inr later ↦ made_later head_item.0 tail_items.0 z (each_made xs tail_items.0 z tail_items.1 later)
      ])

-- where two functions agree on each accepted item, they agree on accepted lists
pub each_same : {X Y R : Type 0} (f g : X → Result Y R) → ((x : X) (y : Y) → f x ≡ Ok y → g x ≡ Ok y) → (xs : List X) (ys : List Y) → each_of f xs ≡ Ok ys → each_of g xs ≡ Ok ys
unfolding each_of
each_same f g same [] ys e = e
each_same f g same (x ∷ xs) ys e =
    let head_item = and_then-ok (f x) (λ y. and_then (each_of f xs) (λ ys. Ok (y ∷ ys))) ys e in
    let tail_items = and_then-ok (each_of f xs) (λ ys. Ok (head_item.0 ∷ ys)) ys head_item.2 in
    ap (λ r. and_then r (λ y. and_then (each_of g xs) (λ ys. Ok (y ∷ ys)))) (same x head_item.0 head_item.1)
    ∙ ap (λ r. and_then r (λ ys. Ok (head_item.0 ∷ ys))) (each_same f g same xs tail_items.0 tail_items.1) ∙ tail_items.2
