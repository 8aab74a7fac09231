-- What purges and releases keep of a zone's blocks.
use Rattle.zone_rules.proofs.Common.{◌≡◌, ℕ, ◌+◌, ◌<◌, Bool, true, false, cond, List, [], ◌∷◌, map, Option, Some, None, refl, sym, subst, ap, ◌∙◌, arith, inl, inr, zero-add, ◌==◌, nat_le, ◌⊎◌, cond-true, eq-eqb, le-leb, false≢true}
use Rattle.zone_rules.specs.Zones.{Block, Holding, Owner, Tiles, Lacks, OwnsOnce, Unique, AllFit, FitsHolding, is_held_by, free_block, has_place}
use Rattle.zone_rules.specs.Requests.{place_around, place_after, is_among, purge_block}

-- g frees some blocks, and leaves the others as they are
abbrev pub Frees : (Block → Block) → Type 0
Frees g = (b : Block) → (g b ≡ b) ⊎ (g b ≡ free_block b.place b.size)

module _ (g : Block → Block) (frees : Frees g) where
  pub Tiles-freed : (p q : ℕ) (bs : List Block) → Tiles p q bs → Tiles p q (map g bs)
  Tiles-freed p q [] t = t
  Tiles-freed p q (b ∷ bs) t = go (frees b) (Tiles-freed (p + b.size) q bs t.2) where
    go : (g b ≡ b) ⊎ (g b ≡ free_block b.place b.size) → Tiles (p + b.size) q (map g bs) → Tiles p q (g b ∷ map g bs)
    go (inl e) k = rw e (t.0, t.1, k)
    go (inr e) k = rw e (t.0, t.1, k)

  pub Lacks-freed : (o : Owner) (bs : List Block) → Lacks o bs → Lacks o (map g bs)
  Lacks-freed o [] l = tt
  Lacks-freed o (b ∷ bs) l = (go (frees b), Lacks-freed o bs l.1) where
    go : (g b ≡ b) ⊎ (g b ≡ free_block b.place b.size) → is_held_by o (g b) ≡ false
    go (inl e) = ap (is_held_by o) e ∙ l.0
    go (inr e) = ap (is_held_by o) e

  owns_freed : (h : Option Holding) (bs : List Block) → OwnsOnce h bs → OwnsOnce h (map g bs)
  owns_freed None bs o = tt
  owns_freed (Some h) bs o = Lacks-freed h.owner bs o

  pub Unique-freed : (bs : List Block) → Unique bs → Unique (map g bs)
  Unique-freed [] u = tt
  Unique-freed (b ∷ bs) u = (go (frees b), Unique-freed bs u.1) where
    go : (g b ≡ b) ⊎ (g b ≡ free_block b.place b.size) → OwnsOnce (g b).holding (map g bs)
    go (inl e) = rw e (owns_freed b.holding bs u.0)
    go (inr e) = rw e tt

  pub AllFit-freed : (l m : ℕ) (bs : List Block) → AllFit l m bs → AllFit l m (map g bs)
  AllFit-freed l m [] f = tt
  AllFit-freed l m (b ∷ bs) f = (go (frees b), AllFit-freed l m bs f.1) where
    go : (g b ≡ b) ⊎ (g b ≡ free_block b.place b.size) → FitsHolding l m (g b).size (g b).holding
    go (inl e) = rw e f.0
    go (inr e) = rw e tt

pub purge_frees : (ch : List Block) → Frees (λ b. cond (is_among ch b) (purge_block b) b)
purge_frees ch b = go (is_among ch b) where
  inner : (t : Bool) → (cond t (free_block b.place b.size) b ≡ b) ⊎ (cond t (free_block b.place b.size) b ≡ free_block b.place b.size)
  inner true = inr refl
  inner false = inl refl

  go : (t : Bool) → (cond t (purge_block b) b ≡ b) ⊎ (cond t (purge_block b) b ≡ free_block b.place b.size)
  go true = inner _
  go false = inl refl

pub release_frees : (o : Owner) → Frees (λ b. cond (is_held_by o b) (free_block b.place b.size) b)
release_frees o b = go (is_held_by o b) where
  go : (t : Bool) → (cond t (free_block b.place b.size) b ≡ b) ⊎ (cond t (free_block b.place b.size) b ≡ free_block b.place b.size)
  go true = inr refl
  go false = inl refl

-- the place that a place lies in is a block's
around_later : (x p q d : ℕ) (bs : List Block) → Tiles p q bs → (place_around x d bs ≡ d) ⊎ (has_place (place_around x d bs) bs ≡ true)
around_later x p q d [] t = inl refl
around_later x p q d (b ∷ bs) t = go (nat_le b.place x) (around_later x (p + b.size) q b.place bs t.2) where
  go : (u : Bool) → (place_around x b.place bs ≡ b.place) ⊎ (has_place (place_around x b.place bs) bs ≡ true) → (cond u (place_around x b.place bs) d ≡ d) ⊎ (has_place (cond u (place_around x b.place bs) d) (b ∷ bs) ≡ true)
  go false k = inl refl
  go true (inl e) = inr (cond-true (b.place == place_around x b.place bs) true _ (eq-eqb _ _ (sym e)))
  go true (inr h) = inr (keep (b.place == place_around x b.place bs) h) where
    keep : (u : Bool) {y : Bool} → y ≡ true → cond u true y ≡ true
    keep true e = refl
    keep false e = e

pub around_is_place : (x q : ℕ) (bs : List Block) → Tiles 0 q bs → 0 < q → has_place (place_around x 0 bs) bs ≡ true
around_is_place x q [] t pos = absurd (let is_empty : 0 ≡ q = t in omega arith)
around_is_place x q (b ∷ bs) t pos = go (around_later x b.size q b.place bs (let same_start : 0 + b.size ≡ b.size = zero-add b.size in subst (λ n. Tiles n q bs) same_start t.2)) where
  start : place_around x 0 (b ∷ bs) ≡ place_around x b.place bs
  start = cond-true (nat_le b.place x) _ _ (le-leb b.place x (let at_start : b.place ≡ 0 = t.0 in omega arith))

  go : (place_around x b.place bs ≡ b.place) ⊎ (has_place (place_around x b.place bs) bs ≡ true) → has_place (place_around x 0 (b ∷ bs)) (b ∷ bs) ≡ true
  go (inl e) = ap (λ n. has_place n (b ∷ bs)) start ∙ cond-true _ _ _ (eq-eqb _ _ (sym e))
  go (inr h) = ap (λ n. has_place n (b ∷ bs)) start ∙ keep (b.place == place_around x b.place bs) h where
    keep : (u : Bool) {y : Bool} → y ≡ true → cond u true y ≡ true
    keep true e = refl
    keep false e = e

-- so is the place after a block, or 0
after_cases : (x p q : ℕ) (bs : List Block) → Tiles p q bs → (place_after x q bs ≡ 0) ⊎ (has_place (place_after x q bs) bs ≡ true)
after_cases x p q [] t = inl refl
after_cases x p q (b ∷ bs) t = go (b.place == x) (b.place + b.size == q) refl (after_cases x (p + b.size) q bs t.2) where
  keep : (u : Bool) {y : Bool} → y ≡ true → cond u true y ≡ true
  keep true e = refl
  keep false e = e

  next_is : (b.place + b.size == q) ≡ false → has_place (b.place + b.size) bs ≡ true
  next_is e = first bs t.2 where
    first : (bs : List Block) → Tiles (p + b.size) q bs → has_place (b.place + b.size) bs ≡ true
    first [] u = absurd (false≢true (sym e ∙ eq-eqb _ _ (ap (λ n. n + b.size) t.0 ∙ u)))
    first (c ∷ cs) u = cond-true _ _ _ (eq-eqb _ _ (u.0 ∙ ap (λ n. n + b.size) (sym t.0)))

  go : (u v : Bool) → (b.place + b.size == q) ≡ v → (place_after x q bs ≡ 0) ⊎ (has_place (place_after x q bs) bs ≡ true)
      → (cond u (cond v 0 (b.place + b.size)) (place_after x q bs) ≡ 0) ⊎ (has_place (cond u (cond v 0 (b.place + b.size)) (place_after x q bs)) (b ∷ bs) ≡ true)
  go true true e k = inl refl
  go true false e k = inr (keep (b.place == b.place + b.size) (next_is e))
  go false v e (inl k) = inl k
  go false v e (inr k) = inr (keep (b.place == place_after x q bs) k)

pub after_is_place : (x q : ℕ) (bs : List Block) → Tiles 0 q bs → 0 < q → has_place (place_after x q bs) bs ≡ true
after_is_place x q [] t pos = absurd (let is_empty : 0 ≡ q = t in omega arith)
after_is_place x q (b ∷ bs) t pos = go (after_cases x 0 q (b ∷ bs) t) where
  go : (place_after x q (b ∷ bs) ≡ 0) ⊎ (has_place (place_after x q (b ∷ bs)) (b ∷ bs) ≡ true) → has_place (place_after x q (b ∷ bs)) (b ∷ bs) ≡ true
  go (inl e) = ap (λ n. has_place n (b ∷ bs)) e ∙ cond-true _ _ _ (eq-eqb _ _ t.0)
  go (inr h) = h
