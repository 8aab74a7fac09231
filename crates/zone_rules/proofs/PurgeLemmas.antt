-- Which blocks a purge of chosen ones changes. What a tiling says of the places of its parts.
use Rattle.zone_rules.proofs.Common.{◌≡◌, ℕ, ◌+◌, ◌<◌, ◌≤◌, suc, Bool, true, false, cond, not, List, [], ◌∷◌, take, filter, Option, Some, None, refl, ap, arith, inl, inr, ◌&&◌, ◌||◌, ◌++◌, map, sym, subst, ap₂, ◌∙◌, count_by, zero-add, zero, drop, ⊎_elim, ⊤, ◌==◌, ◌⊎◌, cond-false, ne_eqb, cond-true, eq-eqb, or_left, or_right, false≢true, list_any, map-append, list_any-append, sum_by-append, sum_by-cons}
use Rattle.zone_rules.specs.Zones.{Block, is_pinned, Holding, is_purgeable, is_purgeable_tag, may_purge, pins, free_block, Tiles}
use Rattle.zone_rules.proofs.GapLemmas.{total-cons}
use Rattle.zone_rules.specs.Requests.{purge_among, is_among, purge_block, count_among, total}

abbrev pub unpinned : List Block → List Block
unpinned bs = filter (λ b. not (is_pinned b)) bs

abbrev pub Sized : List Block → Type 0
Sized [] = ⊤
Sized (b ∷ bs) = (0 < b.size) × Sized bs

-- a purgeable block is not pinned
never_both : (h : Option Holding) → may_purge h ≡ true → pins h ≡ false
never_both None p = refl
never_both (Some h) p = go (is_purgeable_tag h.tag) p where
  go : (t : Bool) → t ≡ true → not t ≡ false
  go true p = refl
  go false p = absurd (false≢true p)

pub pinned_stays : (h : Option Holding) → pins h ≡ true → may_purge h ≡ false
pinned_stays None p = refl
pinned_stays (Some h) p = go (is_purgeable_tag h.tag) p where
  go : (t : Bool) → not t ≡ true → t ≡ false
  go true p = absurd (false≢true p)
  go false p = refl

pub purged_twice : (b : Block) → purge_block (purge_block b) ≡ purge_block b
purged_twice b = go (is_purgeable b) refl where
  go : (t : Bool) → is_purgeable b ≡ t → purge_block (purge_block b) ≡ purge_block b
  go true e = let becomes_free : purge_block b ≡ free_block b.place b.size = cond-true _ _ _ e in ap purge_block becomes_free ∙ sym becomes_free
  go false e = let stays_same : purge_block b ≡ b = cond-false _ _ _ e in ap purge_block stays_same

pub purged_place : (b : Block) → (purge_block b).place ≡ b.place
purged_place b = go (is_purgeable b) where
  go : (t : Bool) → (cond t (free_block b.place b.size) b).place ≡ b.place
  go true = refl
  go false = refl

purged_pin : (b : Block) → is_pinned (purge_block b) ≡ is_pinned b
purged_pin b = go (is_purgeable b) refl where
  go : (t : Bool) → is_purgeable b ≡ t → is_pinned (cond t (free_block b.place b.size) b) ≡ is_pinned b
  go true e = sym (never_both b.holding e)
  go false e = refl

-- each block that is not pinned is among the chosen
abbrev pub Covers : List Block → List Block → Type 0
Covers ch [] = ⊤
Covers ch (b ∷ bs) = (is_pinned b ≡ false → is_among ch b ≡ true) × Covers ch bs

-- no block is among the chosen
abbrev pub Misses : List Block → List Block → Type 0
Misses ch [] = ⊤
Misses ch (b ∷ bs) = (is_among ch b ≡ false) × Misses ch bs

pub covers_after : (a ch bs : List Block) → Covers ch bs → Covers (a ++ ch) bs
covers_after a ch [] c = tt
covers_after a ch (b ∷ bs) c = (λ p. list_any-append (λ x. x.place == b.place) a ch ∙ or_right _ _ (c.0 p), covers_after a ch bs c.1)

pub covers_before : (ch a bs : List Block) → Covers ch bs → Covers (ch ++ a) bs
covers_before ch a [] c = tt
covers_before ch a (b ∷ bs) c = (λ p. list_any-append (λ x. x.place == b.place) ch a ∙ or_left _ _ (c.0 p), covers_before ch a bs c.1)

covers_cons : (c : Block) (ch bs : List Block) → Covers ch bs → Covers (c ∷ ch) bs
covers_cons c ch bs h = covers_after (c ∷ []) ch bs h

pub covers_itself : (bs : List Block) → Covers (unpinned bs) bs
covers_itself [] = tt
covers_itself (b ∷ bs) = go b bs (is_pinned b) refl (covers_itself bs) where
  go : (b : Block) (bs : List Block) (t : Bool) → is_pinned b ≡ t → Covers (unpinned bs) bs → Covers (unpinned (b ∷ bs)) (b ∷ bs)
  go b bs true e c = let skips_it : unpinned (b ∷ bs) ≡ unpinned bs = cond-false _ _ _ (ap not e) in subst (λ ch. Covers ch (b ∷ bs)) (sym skips_it) (λ p. absurd (false≢true (sym p ∙ e)), c)
  go b bs false e c =
      let takes_it : unpinned (b ∷ bs) ≡ b ∷ unpinned bs = cond-true _ _ _ (ap not e) in subst (λ ch. Covers ch (b ∷ bs)) (sym takes_it) (λ p. or_left (b.place == b.place) _ (eq-eqb b.place b.place refl), covers_cons b (unpinned bs) bs c)

pub purge_covered : (ch bs : List Block) → Covers ch bs → purge_among ch bs ≡ map purge_block bs
purge_covered ch [] c = refl
purge_covered ch (b ∷ bs) c = ap₂ ◌∷◌ (go (is_pinned b) refl) (purge_covered ch bs c.1) where
  go : (t : Bool) → is_pinned b ≡ t → cond (is_among ch b) (purge_block b) b ≡ purge_block b
  go true e = let stays_same : purge_block b ≡ b = cond-false _ _ _ (pinned_stays b.holding e) in rw stays_same (same (is_among ch b)) where
    same : (t : Bool) → cond t b b ≡ b
    same true = refl
    same false = refl
  go false e = cond-true _ _ _ (c.0 e)

pub purge_missed : (ch bs : List Block) → Misses ch bs → purge_among ch bs ≡ bs
purge_missed ch [] m = refl
purge_missed ch (b ∷ bs) m = ap₂ ◌∷◌ (cond-false _ _ _ m.0) (purge_missed ch bs m.1)

pub purge_among-append : (ch xs ys : List Block) → purge_among ch (xs ++ ys) ≡ purge_among ch xs ++ purge_among ch ys
purge_among-append ch xs ys = map-append (λ b. cond (is_among ch b) (purge_block b) b) xs ys

-- chosen in two goes
two_goes : (x y : Bool) (b : Block) → cond (x || y) (purge_block b) b ≡ cond y (purge_block (cond x (purge_block b) b)) (cond x (purge_block b) b)
two_goes true true b = sym (purged_twice b)
two_goes true false b = refl
two_goes false true b = refl
two_goes false false b = refl

kept_place : (x : Bool) (b : Block) → (cond x (purge_block b) b).place ≡ b.place
kept_place true b = purged_place b
kept_place false b = refl

kept_pin : (x : Bool) (b : Block) → is_pinned (cond x (purge_block b) b) ≡ is_pinned b
kept_pin true b = purged_pin b
kept_pin false b = refl

kept_among : (ch : List Block) (x : Bool) (b : Block) → is_among ch (cond x (purge_block b) b) ≡ is_among ch b
kept_among ch x b = ap (λ p. list_any (λ c. c.place == p) ch) (kept_place x b)

pub purge_twice : (a ch bs : List Block) → purge_among (a ++ ch) bs ≡ purge_among ch (purge_among a bs)
purge_twice a ch [] = refl
purge_twice a ch (b ∷ bs) = ap₂ ◌∷◌
    (ap (λ t. cond t (purge_block b) b) (list_any-append (λ x. x.place == b.place) a ch) ∙ two_goes (is_among a b) (is_among ch b) b
    ∙ ap (λ t. cond t (purge_block (cond (is_among a b) (purge_block b) b)) (cond (is_among a b) (purge_block b) b)) (sym (kept_among ch (is_among a b) b)))
    (purge_twice a ch bs)

pub covers_kept : (ch a bs : List Block) → Covers ch bs → Covers ch (purge_among a bs)
covers_kept ch a [] c = tt
covers_kept ch a (b ∷ bs) c = (λ p. kept_among ch (is_among a b) b ∙ c.0 (sym (kept_pin (is_among a b) b) ∙ p), covers_kept ch a bs c.1)

pub misses_kept : (ch a bs : List Block) → Misses ch bs → Misses ch (purge_among a bs)
misses_kept ch a [] m = tt
misses_kept ch a (b ∷ bs) m = (kept_among ch (is_among a b) b ∙ m.0, misses_kept ch a bs m.1)

-- what is counted
abbrev pub counted : List Block → Block → ℕ
counted ch b = cond (is_among ch b && is_purgeable b) 1 0

pub count_among-cons : (ch : List Block) (b : Block) (bs : List Block) → count_among ch (b ∷ bs) ≡ counted ch b + count_among ch bs
count_among-cons ch b bs = sum_by-cons (counted ch) b bs

pub count_among-append : (ch xs ys : List Block) → count_among ch (xs ++ ys) ≡ count_among ch xs + count_among ch ys
count_among-append ch xs ys = sum_by-append (counted ch) xs ys

abbrev pub one_if : Block → ℕ
one_if b = cond (is_purgeable b) 1 0

purgeable_stays_free : (b : Block) → is_purgeable b ≡ true → is_purgeable (purge_block b) ≡ false
purgeable_stays_free b e = let becomes_free : purge_block b ≡ free_block b.place b.size = cond-true _ _ _ e in ap is_purgeable becomes_free

counted_covered : (ch : List Block) (b : Block) → (is_pinned b ≡ false → is_among ch b ≡ true) → counted ch b ≡ one_if b
counted_covered ch b c = go (is_purgeable b) refl where
  go : (t : Bool) → is_purgeable b ≡ t → counted ch b ≡ one_if b
  go true e = rw (c (never_both b.holding e)) refl
  go false e = rw e (drop_and (is_among ch b)) where
    drop_and : (x : Bool) → ◌≡◌ {A = ℕ} (cond (x && false) 1 0) 0
    drop_and true = refl
    drop_and false = refl

pub count_covered : (ch bs : List Block) → Covers ch bs → count_among ch bs ≡ count_by is_purgeable bs
count_covered ch [] c = refl
count_covered ch (b ∷ bs) c = count_among-cons ch b bs ∙ ap₂ ◌+◌ (counted_covered ch b c.0) (count_covered ch bs c.1) ∙ sym (sum_by-cons one_if b bs)

pub count_missed : (ch bs : List Block) → Misses ch bs → count_among ch bs ≡ 0
count_missed ch [] m = refl
count_missed ch (b ∷ bs) m = count_among-cons ch b bs ∙ ap₂ ◌+◌ (go (is_among ch b) m.0) (count_missed ch bs m.1) where
  go : (x : Bool) → x ≡ false → ◌≡◌ {A = ℕ} (cond (x && is_purgeable b) 1 0) 0
  go true e = absurd (false≢true (sym e))
  go false e = refl

counted_twice : (x y : Bool) (b : Block) → cond {A = ℕ} ((x || y) && is_purgeable b) 1 0 ≡ cond (x && is_purgeable b) 1 0 + cond (y && is_purgeable (cond x (purge_block b) b)) 1 0
counted_twice true y b = go (is_purgeable b) refl where
  go : (t : Bool) → is_purgeable b ≡ t → cond (is_purgeable b) 1 0 ≡ cond (is_purgeable b) 1 0 + cond (y && is_purgeable (purge_block b)) 1 0
  go true e = rw (purgeable_stays_free b e) (drop_and y) where
    drop_and : (x : Bool) → cond (is_purgeable b) 1 0 ≡ cond (is_purgeable b) 1 0 + cond (x && false) 1 0
    drop_and true = omega arith
    drop_and false = omega arith
  go false e = let stays_same : purge_block b ≡ b = cond-false _ _ _ e in rw (stays_same, e) (drop_and y) where
    drop_and : (x : Bool) → ◌≡◌ {A = ℕ} 0 (0 + cond (x && false) 1 0)
    drop_and true = refl
    drop_and false = refl
counted_twice false y b = sym (zero-add _)

pub count_twice : (a ch bs : List Block) → count_among (a ++ ch) bs ≡ count_among a bs + count_among ch (purge_among a bs)
count_twice a ch [] = refl
count_twice a ch (b ∷ bs) =
    let block_counts = counted_twice (is_among a b) (is_among ch b) b in
    let among_both : counted (a ++ ch) b ≡ cond {A = ℕ} ((is_among a b || is_among ch b) && is_purgeable b) 1 0 =
    ap (λ (t : Bool). cond {A = ℕ} (t && is_purgeable b) 1 0) (list_any-append (λ x. x.place == b.place) a ch) in
    let among_later : counted ch (cond (is_among a b) (purge_block b) b) ≡ cond {A = ℕ} (is_among ch b && is_purgeable (cond (is_among a b) (purge_block b) b)) 1 0 = ap (λ (t : Bool). cond {A = ℕ} (t && is_purgeable (cond (is_among a b) (purge_block b) b)) 1 0) (kept_among ch (is_among a b) b) in
    let count_of_both = count_among-cons (a ++ ch) b bs in
    let count_of_a = count_among-cons a b bs in
    let count_of_ch = count_among-cons ch (cond (is_among a b) (purge_block b) b) (purge_among a bs) in
    let rest_counts = count_twice a ch bs in
    omega arith

pub tiles_end : (p q : ℕ) (bs : List Block) → Tiles p q bs → p + total bs ≡ q
tiles_end p q [] t = omega arith
tiles_end p q (b ∷ bs) t = let total_is = total-cons b bs in let rest_end = tiles_end (p + b.size) q bs t.2 in omega arith

pub tiles_le : (p q : ℕ) (bs : List Block) → Tiles p q bs → p ≤ q
tiles_le p q bs t = let end_is = tiles_end p q bs t in omega arith

pub Sized-tiles : (p q : ℕ) (bs : List Block) → Tiles p q bs → Sized bs
Sized-tiles p q [] t = tt
Sized-tiles p q (b ∷ bs) t = (omega arith, Sized-tiles (p + b.size) q bs t.2)

-- all places lie in a range
abbrev pub Within : ℕ → ℕ → List Block → Type 0
Within p q [] = ⊤
Within p q (b ∷ bs) = (p ≤ b.place) × (b.place < q) × Within p q bs

within_wider : (p q p' q' : ℕ) (bs : List Block) → p' ≤ p → q ≤ q' → Within p q bs → Within p' q' bs
within_wider p q p' q' [] h k w = tt
within_wider p q p' q' (b ∷ bs) h k w = (omega arith, omega arith, within_wider p q p' q' bs h k w.2)

pub tiles_within : (p q : ℕ) (bs : List Block) → Tiles p q bs → Within p q bs
tiles_within p q [] t = tt
tiles_within p q (b ∷ bs) t = let end_at_most_last = tiles_le (p + b.size) q bs t.2 in (omega arith, omega arith, within_wider (p + b.size) q p q bs (omega arith) (omega arith) (tiles_within (p + b.size) q bs t.2))

pub unpinned_within : (p q : ℕ) (bs : List Block) → Within p q bs → Within p q (unpinned bs)
unpinned_within p q [] w = tt
unpinned_within p q (b ∷ bs) w = go b (unpinned bs) (not (is_pinned b)) w.0 w.1 (unpinned_within p q bs w.2) where
  go : (b : Block) (xs : List Block) (t : Bool) → p ≤ b.place → b.place < q → Within p q xs → Within p q (cond t (b ∷ xs) xs)
  go b xs true h k w = (h, k, w)
  go b xs false h k w = w

not_among : (p q : ℕ) (ch : List Block) (b : Block) → Within p q ch → (b.place < p) ⊎ (q ≤ b.place) → is_among ch b ≡ false
not_among p q [] b w h = refl
not_among p q (c ∷ ch) b w h = rw (ne_eqb c.place b.place (λ e. ⊎_elim (λ l. omega arith) (λ l. omega arith) h)) (not_among p q ch b w.2 h)

pub misses_above : (p q r s : ℕ) (ch bs : List Block) → Within p q ch → q ≤ r → Within r s bs → Misses ch bs
misses_above p q r s ch [] w h v = tt
misses_above p q r s ch (b ∷ bs) w h v = (not_among p q ch b w (inr (omega arith)), misses_above p q r s ch bs w h v.2)

pub misses_below : (p q r s : ℕ) (ch bs : List Block) → Within p q ch → s ≤ p → Within r s bs → Misses ch bs
misses_below p q r s ch [] w h v = tt
misses_below p q r s ch (b ∷ bs) w h v = (not_among p q ch b w (inl (omega arith)), misses_below p q r s ch bs w h v.2)

-- a tiling cut in two
pub record Cut (p q : ℕ) (xs ys : List Block) : Type 0 where
  pub at : ℕ
  pub first : Tiles p at xs
  pub second : Tiles at q ys

pub tiles_cut : (n p q : ℕ) (bs : List Block) → Tiles p q bs → Cut p q (take n bs) (drop n bs)
tiles_cut zero p q bs t = record { at = p; first = refl; second = t }
tiles_cut (suc n) p q [] t = record { at = p; first = refl; second = t }
tiles_cut (suc n) p q (b ∷ bs) t =
    let rest_cut = tiles_cut n (p + b.size) q bs t.2 in record { at = rest_cut.at; first = (t.0, t.1, rest_cut.first); second = rest_cut.second }

pub tiles_joined : (p m q : ℕ) (xs ys : List Block) → Tiles p m xs → Tiles m q ys → Tiles p q (xs ++ ys)
tiles_joined p m q [] ys t u = rw t u
tiles_joined p m q (x ∷ xs) ys t u = (t.0, t.1, tiles_joined (p + x.size) m q xs ys t.2 u)

-- the parts of a cut do not see each other's purges
pub misses_after : (p q : ℕ) (xs ys : List Block) → Cut p q xs ys → Misses (unpinned xs) ys
misses_after p q xs ys c =
    misses_above p c.at c.at q (unpinned xs) ys (unpinned_within p c.at xs (tiles_within p c.at xs c.first)) (omega arith) (tiles_within c.at q ys c.second)

pub misses_before : (p q : ℕ) (xs ys : List Block) → Cut p q xs ys → Misses (unpinned ys) xs
misses_before p q xs ys c =
    misses_below c.at q p c.at (unpinned ys) xs (unpinned_within c.at q ys (tiles_within c.at q ys c.second)) (omega arith) (tiles_within p c.at xs c.first)
