-- The loop that looks for a fit goes the walk over the gaps.
use Rattle.zone_rules.proofs.Common.{◌≡◌, ℕ, ◌+◌, ◌-◌, ◌<◌, ◌≤◌, suc, Bool, true, false, cond, List, [], ◌∷◌, length, take, Option, Some, None, refl, ap, arith, unwrap_or, inl, inr, nat_le, ◌==◌, cond-false, le-leb, lt-leb, cases_lt, ne_eqb}
use Rattle.zone_heap.specs.{Rules.Block, Rules.is_pinned, Walks.fit_from, Walks.run_place}
use Rattle.zone_heap.proofs.WalkLemmas.{walk, walk_place}
use Rattle.zone_rules.proofs.PurgeLemmas.{unpinned, Sized}

-- the place of the run at hand, if there is one
abbrev pub run_of : ℕ → ℕ → Option ℕ
run_of place sum = cond (sum == 0) None (Some place)

-- what a fit means for the walk from here on
abbrev pub FitMeans : ℕ → ℕ → Option ℕ → ℕ → List Block → Option (ℕ × ℕ) → Type 0
FitMeans v w f i bs None = (walk_place v w f bs ≡ None) × (walk v w bs ≡ unpinned bs)
FitMeans v w f i bs (Some r) = (walk_place v w f bs ≡ Some r.0) × (i < r.1) × (r.1 ≤ i + length bs) × (walk v w bs ≡ unpinned (take (r.1 - i) bs))

one_less : (n i : ℕ) (b : Block) (bs : List Block) → i + 1 < n → take (n - i) (b ∷ bs) ≡ b ∷ take (n - (i + 1)) bs
one_less n i b bs h = let difference_is : n - i ≡ suc (n - (i + 1)) = omega arith in rw difference_is refl

-- past a pinned block
past_pinned : (v w i : ℕ) (f : Option ℕ) (b : Block) (bs : List Block) (r : Option (ℕ × ℕ)) → is_pinned b ≡ true → FitMeans w w None (i + 1) bs r
    → FitMeans v w f i (b ∷ bs) r
past_pinned v w i f b bs None p m = (rw p m.0, rw p m.1)
past_pinned v w i f b bs (Some r) p m = (rw p m.0, omega arith, omega arith, rw (one_less r.1 i b bs m.1, p) m.3)

-- past a block that is not pinned, where the run is too small yet
past_open : (v w i : ℕ) (f : Option ℕ) (b : Block) (bs : List Block) (r : Option (ℕ × ℕ)) → is_pinned b ≡ false → b.size < v
    → FitMeans (v - b.size) w (Some (unwrap_or f b.place)) (i + 1) bs r → FitMeans v w f i (b ∷ bs) r
past_open v w i f b bs None p h m = (rw (p, lt-leb v b.size h) m.0, rw (p, lt-leb v b.size h) (ap (λ cs. b ∷ cs) m.1))
past_open v w i f b bs (Some r) p h m =
    (rw (p, lt-leb v b.size h) m.0, omega arith, omega arith, rw (one_less r.1 i b bs m.1, p, lt-leb v b.size h) (ap (λ cs. b ∷ cs) m.3))

run_place_is : (place sum here : ℕ) → unwrap_or (run_of place sum) here ≡ run_place place sum here
run_place_is place sum here = go (sum == 0) where
  go : (t : Bool) → unwrap_or (cond t None (Some place)) here ≡ cond t here place
  go true = refl
  go false = refl

run_goes_on : (place sum : ℕ) → 0 < sum → run_of place sum ≡ Some place
run_goes_on place sum h = cond-false (sum == 0) None (Some place) (ne_eqb sum 0 (λ e. omega arith))

fit_here : (v w i place sum : ℕ) (b : Block) (bs : List Block) → is_pinned b ≡ false → v ≤ b.size
    → FitMeans v w (run_of place sum) i (b ∷ bs) (Some (run_place place sum b.place, i + 1))
fit_here v w i place sum b bs p h =
    let one_block : i + 1 - i ≡ 1 = omega arith in
    (rw (p, le-leb v b.size h) (ap Some (run_place_is place sum b.place)), omega arith, omega arith, rw (one_block, p, le-leb v b.size h) refl)

module _ (w : ℕ) (b : Block) (bs : List Block) (v place sum i : ℕ) (e : v + sum ≡ w) (size : 0 < b.size) where
  fit_small : is_pinned b ≡ false → FitMeans (v - b.size) w (run_of (run_place place sum b.place) (sum + b.size)) (i + 1) bs (fit_from w (run_place place sum b.place) (sum + b.size) (i + 1) bs) → b.size < v
      → FitMeans v w (run_of place sum) i (b ∷ bs) (cond (nat_le w (sum + b.size)) (Some (run_place place sum b.place, i + 1)) (fit_from w (run_place place sum b.place) (sum + b.size) (i + 1) bs))
  fit_small p m h =
      rw (lt-leb w (sum + b.size) (omega arith))
      (past_open v w i (run_of place sum) b bs (fit_from w (run_place place sum b.place) (sum + b.size) (i + 1) bs) p h
      (rw (run_place_is place sum b.place, ← run_goes_on (run_place place sum b.place) (sum + b.size) (omega arith)) m))

  fit_large : is_pinned b ≡ false → v ≤ b.size
      → FitMeans v w (run_of place sum) i (b ∷ bs) (cond (nat_le w (sum + b.size)) (Some (run_place place sum b.place, i + 1)) (fit_from w (run_place place sum b.place) (sum + b.size) (i + 1) bs))
  fit_large p h = rw (le-leb w (sum + b.size) (omega arith)) (fit_here v w i place sum b bs p h)

  fit_step : FitMeans w w None (i + 1) bs (fit_from w place 0 (i + 1) bs)
      → (b.size < v → FitMeans (v - b.size) w (run_of (run_place place sum b.place) (sum + b.size)) (i + 1) bs (fit_from w (run_place place sum b.place) (sum + b.size) (i + 1) bs)) → (t : Bool) → is_pinned b ≡ t
      → FitMeans v w (run_of place sum) i (b ∷ bs) (cond t (fit_from w place 0 (i + 1) bs) (cond (nat_le w (sum + b.size)) (Some (run_place place sum b.place, i + 1)) (fit_from w (run_place place sum b.place) (sum + b.size) (i + 1) bs)))
  fit_step anew on true p = past_pinned v w i (run_of place sum) b bs (fit_from w place 0 (i + 1) bs) p anew
  fit_step anew on false p = elim (cases_lt b.size v) [ inl h ↦ fit_small p (on h) h | inr h ↦ fit_large p h ]

pub fit_walk : (w : ℕ) (bs : List Block) (v place sum i : ℕ) → v + sum ≡ w → 0 < v → Sized bs → FitMeans v w (run_of place sum) i bs (fit_from w place sum i bs)
fit_walk w [] v place sum i e pos sized = (refl, refl)
fit_walk w (b ∷ bs) v place sum i e pos sized =
    fit_step w b bs v place sum i e sized.0 (fit_walk w bs w place 0 (i + 1) (omega arith) (omega arith) sized.1)
    (λ h. fit_walk w bs (v - b.size) (run_place place sum b.place) (sum + b.size) (i + 1) (omega arith) (omega arith) sized.1) (is_pinned b) refl
