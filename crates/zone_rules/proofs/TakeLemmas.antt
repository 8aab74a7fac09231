-- A free block given to a slot, and the numbers of the slots.
use Rattle.zone_rules.proofs.Common.{◌≡◌, ℕ, ◌+◌, ◌-◌, ◌≤◌, Bool, true, false, cond, ◌&&◌, List, [], ◌∷◌, ◌++◌, Option, Some, None, refl, sym, subst, ap, ◌∙◌, arith, inl, inr, ◌<◌, ◌==◌, nat_lt, ◌⊎◌, cond-true, cond-false, ne_eqb, eq-eqb, ltb-true, ltb-false, and_left, and_right, and_cases, false≢true, and_from, cases_eq, cases_lt}
use Rattle.zone_rules.specs.Zones.{Block, Holding, Owner, Tiles, Apart, Lacks, OwnsOnce, Unique, AllFit, FitsHolding, is_free, holds_for, same_owner, starts_free, free_block, block_size}
use Rattle.zone_rules.specs.Requests.{cut_block, take_at}

module _ (p size wanted : ℕ) (h : Holding) where
  abbrev pub fb : Block
  fb = free_block p size

  abbrev pub cut : List Block
  cut = cut_block wanted h fb

  -- `take_at` finds the block
  pub take_at_is : (q e : ℕ) (front rest : List Block) → Tiles q e (front ++ (fb ∷ rest)) → take_at p wanted h (front ++ (fb ∷ rest)) ≡ front ++ (cut ++ rest)
  take_at_is q e [] rest t = cond-true (p == p) _ _ (eq-eqb p p refl)
  take_at_is q e (x ∷ front) rest t =
      let low = front_low (q + x.size) front t.2 in
      cond-false (x.place == p) _ _ (ne_eqb x.place p (λ z. omega arith)) ∙ ap (λ xs. x ∷ xs) (take_at_is (q + x.size) e front rest t.2) where
        front_low : (r : ℕ) (front : List Block) → Tiles r e (front ++ (fb ∷ rest)) → r ≤ p
        front_low r [] t = omega arith
        front_low r (y ∷ front) t = let rest_low = front_low (r + y.size) front t.2 in omega arith

  -- the tiling stays
  pub tiles_cut_block : 24 ≤ wanted → wanted ≤ size → (q e : ℕ) (front rest : List Block) → Tiles q e (front ++ (fb ∷ rest)) → Tiles q e (front ++ (cut ++ rest))
  tiles_cut_block l m q e [] rest t = go (nat_lt 64 (size - wanted)) refl where
    go : (u : Bool) → nat_lt 64 (size - wanted) ≡ u → Tiles q e (cond u (record { place = p; size = wanted; holding = Some h } ∷ free_block (p + wanted) (size - wanted) ∷ []) (record { place = p; size = size; holding = Some h } ∷ []) ++ rest)
    go true x =
        let rest_above_64 = ltb-true 64 (size - wanted) x in
        let same_end : q + size ≡ q + wanted + (size - wanted) = omega arith in
        (t.0, l, (ap (λ n. n + wanted) t.0, omega arith, subst (λ n. Tiles n e rest) same_end t.2))
    go false x = (t.0, t.1, t.2)
  tiles_cut_block l m q e (y ∷ front) rest t = (t.0, t.1, tiles_cut_block l m (q + y.size) e front rest t.2)

  starts_after : (rest : List Block) → starts_free (cut ++ rest) ≡ false
  starts_after rest = go (nat_lt 64 (size - wanted)) where
    go : (u : Bool) → starts_free (cond u (record { place = p; size = wanted; holding = Some h } ∷ free_block (p + wanted) (size - wanted) ∷ []) (record { place = p; size = size; holding = Some h } ∷ []) ++ rest) ≡ false
    go true = refl
    go false = refl

  pub apart_cut_block : (front rest : List Block) → Apart (front ++ (fb ∷ rest)) → Apart (front ++ (cut ++ rest))
  apart_cut_block [] rest a = go (nat_lt 64 (size - wanted)) where
    go : (u : Bool) → Apart (cond u (record { place = p; size = wanted; holding = Some h } ∷ free_block (p + wanted) (size - wanted) ∷ []) (record { place = p; size = size; holding = Some h } ∷ []) ++ rest)
    go true = (refl, (a.0, a.1))
    go false = (refl, a.1)
  apart_cut_block (y ∷ []) rest a = (ap (λ u. is_free y && u) (starts_after rest) ∙ and_right (is_free y) false refl, apart_cut_block [] rest a.1)
  apart_cut_block (y ∷ z ∷ front) rest a = (a.0, apart_cut_block (z ∷ front) rest a.1)

  fit_cut : (l m : ℕ) (rest : List Block) → (block_size h.asked ≡ wanted) → wanted ≤ size → ((s : ℕ) → block_size h.asked ≤ s → s ≤ block_size h.asked + 64 → FitsHolding l m s (Some h)) → AllFit l m rest → AllFit l m (cut ++ rest)
  fit_cut l m rest b le f r = go (nat_lt 64 (size - wanted)) refl where
    go : (u : Bool) → nat_lt 64 (size - wanted) ≡ u → AllFit l m (cond u (record { place = p; size = wanted; holding = Some h } ∷ free_block (p + wanted) (size - wanted) ∷ []) (record { place = p; size = size; holding = Some h } ∷ []) ++ rest)
    go true x = (f wanted (omega arith) (omega arith), (tt, r))
    go false x = let rest_is_small = ltb-false 64 (size - wanted) x in (f size (omega arith) (omega arith), r)

  pub fit_cut_block : (l m : ℕ) (front rest : List Block) → (block_size h.asked ≡ wanted) → wanted ≤ size → ((s : ℕ) → block_size h.asked ≤ s → s ≤ block_size h.asked + 64 → FitsHolding l m s (Some h)) → AllFit l m (front ++ (fb ∷ rest)) → AllFit l m (front ++ (cut ++ rest))
  fit_cut_block l m [] rest b le f a = fit_cut l m rest b le f a.1
  fit_cut_block l m (y ∷ front) rest b le f a = (a.0, fit_cut_block l m front rest b le f a.1)

  -- owners stay apart
  lacks_cut : (o : Owner) (front rest : List Block) → same_owner h.owner o ≡ false → Lacks o (front ++ (fb ∷ rest)) → Lacks o (front ++ (cut ++ rest))
  lacks_cut o [] rest n l = go (nat_lt 64 (size - wanted)) where
    go : (u : Bool) → Lacks o (cond u (record { place = p; size = wanted; holding = Some h } ∷ free_block (p + wanted) (size - wanted) ∷ []) (record { place = p; size = size; holding = Some h } ∷ []) ++ rest)
    go true = (n, (refl, l.1))
    go false = (n, l.1)
  lacks_cut o (y ∷ front) rest n l = (l.0, lacks_cut o front rest n l.1)

  owns_cut : (k : Option Holding) (front rest : List Block) → holds_for h.owner k ≡ false → OwnsOnce k (front ++ (fb ∷ rest)) → OwnsOnce k (front ++ (cut ++ rest))
  owns_cut None front rest n o = tt
  owns_cut (Some k) front rest n o = lacks_cut k.owner front rest (flip k.owner h.owner n) o where
    flip : (a b : Owner) → same_owner a b ≡ false → same_owner b a ≡ false
    flip a b e = elim (and_cases (a.kind == b.kind) (a.number == b.number) e) [
      | inl x ↦ and_left (b.kind == a.kind) (b.number == a.number) (eq_flip a.kind b.kind x)
      | inr x ↦ and_right (b.kind == a.kind) (b.number == a.number) (eq_flip a.number b.number x)
    ] where
      eq_flip : (m n : ℕ) → (m == n) ≡ false → (n == m) ≡ false
      eq_flip m n e = ne_eqb n m (λ z. false≢true (sym e ∙ eq-eqb m n (sym z)))

  pub unique_cut_block : (front rest : List Block) → Lacks h.owner (front ++ (fb ∷ rest)) → Unique (front ++ (fb ∷ rest)) → Unique (front ++ (cut ++ rest))
  unique_cut_block [] rest l u = go (nat_lt 64 (size - wanted)) where
    go : (t : Bool) → Unique (cond t (record { place = p; size = wanted; holding = Some h } ∷ free_block (p + wanted) (size - wanted) ∷ []) (record { place = p; size = size; holding = Some h } ∷ []) ++ rest)
    go true = ((refl, l.1), (tt, u.1))
    go false = (l.1, u.1)
  unique_cut_block (y ∷ front) rest l u = (owns_cut y.holding front rest l.0 u.0, unique_cut_block front rest l.1 u.1)

module _ (l m : ℕ) where
  -- the number of an owner among all slots, those of the lumps first
  abbrev pub code : Owner → ℕ
  code o = cond (o.kind == 0) o.number (l + o.number)

  -- an owner that the zone has a slot for
  abbrev pub InRange : Owner → Type 0
  InRange o = ((o.kind ≡ 0) → o.number < l) × ((o.kind ≡ 1) → o.number < m) × (o.kind ≤ 1)

  -- a kind that is not 0 is 1, that of composites
  one_kind : (k : ℕ) → (k ≡ 0 → ⊥) → k ≤ 1 → k ≡ 1
  one_kind k e h = elim (cases_lt k 1) [ inl x ↦ absurd (e (omega arith)) | inr x ↦ omega arith ]

  pub code_small : (o : Owner) → InRange o → code o < l + m
  code_small o r = elim (cases_eq o.kind 0) [
    | inl e ↦ (let code_is : code o ≡ o.number = cond-true _ _ _ (eq-eqb o.kind 0 e) in let number_fits = r.0 e in omega arith)
    | inr e ↦ (let code_is : code o ≡ l + o.number = cond-false _ _ _ (ne_eqb o.kind 0 e) in let number_fits = r.1 (one_kind o.kind e r.2) in omega arith)
  ]

  -- two owners of one code are one
  pub code_same : (o p : Owner) → InRange o → InRange p → code o ≡ code p → same_owner o p ≡ true
  code_same o p r s e = go (cases_eq o.kind 0) (cases_eq p.kind 0) where
    lum : (q : Owner) → q.kind ≡ 0 → code q ≡ q.number
    lum q x = cond-true _ _ _ (eq-eqb q.kind 0 x)

    comp : (q : Owner) → (q.kind ≡ 0 → ⊥) → code q ≡ l + q.number
    comp q x = cond-false _ _ _ (ne_eqb q.kind 0 x)

    go : (o.kind ≡ 0) ⊎ (o.kind ≡ 0 → ⊥) → (p.kind ≡ 0) ⊎ (p.kind ≡ 0 → ⊥) → same_owner o p ≡ true
    go (inl x) (inl y) =
        let code_of_o = lum o x in let code_of_p = lum p y in and_from _ _ (eq-eqb o.kind p.kind (omega arith)) (eq-eqb o.number p.number (omega arith))
    go (inl x) (inr y) = let code_of_o = lum o x in let code_of_p = comp p y in let o_fits = r.0 x in absurd (omega arith)
    go (inr x) (inl y) = let code_of_o = comp o x in let code_of_p = lum p y in let p_fits = s.0 y in absurd (omega arith)
    go (inr x) (inr y) = let code_of_o = comp o x in let code_of_p = comp p y in let o_is_composite = one_kind o.kind x r.2 in let p_is_composite = one_kind p.kind y s.2 in and_from _ _ (eq-eqb o.kind p.kind (omega arith)) (eq-eqb o.number p.number (omega arith))
