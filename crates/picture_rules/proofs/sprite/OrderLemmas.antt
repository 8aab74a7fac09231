-- Laws of the order of painting: it is a permutation, sorted and stable, and the entry made last goes behind its equals.
use Rattle.word_rules.proofs.Common.{[], ap, arith, Bool, cases_Bool, cond, cond-false, false, filter, get_or, inl, inr, int_le, int_lt, int_min, ints, IsPermutation, IsPermutation-cons, IsPermutation-middle, IsPermutation-refl, IsPermutation-trans, IsSortedBy, IsStableBy, length, length_permutation, List, not, pos, refl, suc, ties, true, zero, ℕ, ℤ, ◌&&◌, ◌++◌, ◌+◌, ◌<◌, ◌∙◌, ◌∷◌, ◌≡◌}
use Rattle.picture_rules.specs.declared.sprite.SpriteEntry.{SpriteEntry}
use Rattle.picture_rules.specs.sprite.Order.{insert_entry, draw_order, is_smaller, insert_last}

-- order of scales
le_not_lt : (a b : ℤ) → int_le a b ≡ true → int_lt b a ≡ false
le_not_lt a b h = grind (arith, ints)

not_le_lt : (a b : ℤ) → int_le a b ≡ false → int_lt b a ≡ true
not_le_lt a b h = grind (arith, ints)

lt_not_lt : (a b : ℤ) → int_lt a b ≡ true → int_lt b a ≡ false
lt_not_lt a b h = grind (arith, ints)

far_le : (d e f : ℤ) → int_lt e f ≡ true → int_le d f ≡ false → int_le d e ≡ false
far_le d e f p q = grind (arith, ints)

near_lt : (d e f : ℤ) → int_lt e f ≡ false → int_le d f ≡ true → int_lt e d ≡ false
near_lt d e f p q = grind (arith, ints)

-- each entry is no smaller than s and than the ones before it
abbrev Rises : ℤ → List SpriteEntry → Type 0
Rises s [] = Unit {0}
Rises s (f ∷ fs) = (int_lt f.scale s ≡ false) × Rises f.scale fs

rises_inserted : (s : ℤ) (e f : SpriteEntry) (fs : List SpriteEntry) → int_lt e.scale s ≡ false → Rises s (f ∷ fs) → (int_lt e.scale f.scale ≡ false → Rises f.scale (insert_entry e fs)) → (b : Bool) → int_le e.scale f.scale ≡ b →
    Rises s (cond b (e ∷ (f ∷ fs)) (f ∷ insert_entry e fs))
rises_inserted s e f fs h r i true q = (h, (le_not_lt e.scale f.scale q, r.1))
rises_inserted s e f fs h r i false q = (r.0, i (lt_not_lt f.scale e.scale (not_le_lt e.scale f.scale q)))

rises-insert_entry : (s : ℤ) (e : SpriteEntry) (fs : List SpriteEntry) → int_lt e.scale s ≡ false → Rises s fs → Rises s (insert_entry e fs)
unfolding insert_entry
rises-insert_entry s e [] h r = (h, tt)
rises-insert_entry s e (f ∷ fs) h r = rises_inserted s e f fs h r (λ k. rises-insert_entry f.scale e fs k r.1) (int_le e.scale f.scale) refl

-- a start that no entry is below
min_left : (a b : ℤ) → int_lt a (int_min a b) ≡ false
min_left a b = grind (arith, ints)

min_right : (a b : ℤ) → int_lt b (int_min a b) ≡ false
min_right a b = grind (arith, ints)

lt_down : (a s t : ℤ) → int_lt a s ≡ false → int_lt s t ≡ false → int_lt a t ≡ false
lt_down a s t h k = grind (arith, ints)

rises_from : (s t : ℤ) (fs : List SpriteEntry) → int_lt s t ≡ false → Rises s fs → Rises t fs
rises_from s t [] l r = tt
rises_from s t (f ∷ fs) l r = (lt_down f.scale s t r.0 l, r.1)

abbrev RisesFromSome : List SpriteEntry → Type 0
RisesFromSome fs = (s : ℤ) × Rises s fs

rises-draw_order : (es : List SpriteEntry) → RisesFromSome (draw_order es)
unfolding draw_order
rises-draw_order [] = (pos 0, tt)
rises-draw_order (e ∷ es) =
    let rest_rises = rises-draw_order es in
    (int_min e.scale rest_rises.0, rises-insert_entry (int_min e.scale rest_rises.0) e (draw_order es) (min_left e.scale rest_rises.0) (rises_from rest_rises.0 (int_min e.scale rest_rises.0) (draw_order es) (min_right e.scale rest_rises.0) rest_rises.1))

pairs_rise : (s : ℤ) (fs : List SpriteEntry) → Rises s fs → (k : ℕ) (d : SpriteEntry) → k + 1 < length fs → int_lt (get_or fs (k + 1) d).scale (get_or fs k d).scale ≡ false
pairs_rise s [] r k d l = absurd (omega arith)
pairs_rise s (f ∷ []) r k d l = absurd (omega arith)
pairs_rise s (f ∷ (g ∷ gs)) r zero d l = r.1.0
pairs_rise s (f ∷ (g ∷ gs)) r (suc k) d l =
    let same_place : suc k + 1 ≡ suc (k + 1) = omega arith in
    rw same_place (pairs_rise f.scale (g ∷ gs) r.1 k d (omega arith))

-- no entry is smaller than the one before it
pub draw_order-sorted : (es : List SpriteEntry) → IsSortedBy is_smaller (draw_order es)
unfolding is_smaller
draw_order-sorted es k d z l = let rises = rises-draw_order es in pairs_rise rises.0 (draw_order es) rises.1 k d l

-- the same entries
permuted : (e f : SpriteEntry) (fs gs : List SpriteEntry) → IsPermutation (e ∷ fs) gs → (b : Bool) → IsPermutation (e ∷ (f ∷ fs)) (cond b (e ∷ (f ∷ fs)) (f ∷ gs))
permuted e f fs gs p true = IsPermutation-refl (e ∷ (f ∷ fs))
permuted e f fs gs p false =
    IsPermutation-trans (e ∷ (f ∷ fs)) (f ∷ (e ∷ fs)) (f ∷ gs) (IsPermutation-middle (e ∷ []) f fs) (IsPermutation-cons f (e ∷ fs) gs p)

permutation-insert_entry : (e : SpriteEntry) (fs : List SpriteEntry) → IsPermutation (e ∷ fs) (insert_entry e fs)
unfolding insert_entry
permutation-insert_entry e [] = IsPermutation-refl (e ∷ [])
permutation-insert_entry e (f ∷ fs) = permuted e f fs (insert_entry e fs) (permutation-insert_entry e fs) (int_le e.scale f.scale)

pub draw_order-permutation : (es : List SpriteEntry) → IsPermutation es (draw_order es)
unfolding draw_order
draw_order-permutation [] = IsPermutation-refl []
draw_order-permutation (e ∷ es) =
    IsPermutation-trans (e ∷ es) (e ∷ draw_order es) (insert_entry e (draw_order es)) (IsPermutation-cons e es (draw_order es) (draw_order-permutation es)) (permutation-insert_entry e (draw_order es))

pub length-draw_order : (es : List SpriteEntry) → length (draw_order es) ≡ length es
length-draw_order es = length_permutation es (draw_order es) (draw_order-permutation es)

-- entries of equal scale keep the order of making
tie_apart : (x e f : ℤ) → int_lt f e ≡ true → (not (int_lt x e) && not (int_lt e x)) ≡ true → (not (int_lt x f) && not (int_lt f x)) ≡ false
tie_apart x e f l t = grind (arith, ints)

no_tie : (x e f : SpriteEntry) → int_lt f.scale e.scale ≡ true → ties is_smaller x e ≡ true → ties is_smaller x f ≡ false
unfolding is_smaller
no_tie x e f l t = tie_apart x.scale e.scale f.scale l t

skip_one : (x e f : SpriteEntry) (fs gs : List SpriteEntry) → filter (ties is_smaller x) gs ≡ filter (ties is_smaller x) (e ∷ fs) → int_lt f.scale e.scale ≡ true → (t u : Bool) → ties is_smaller x e ≡ t → ties is_smaller x f ≡ u →
    filter (ties is_smaller x) (f ∷ gs) ≡ filter (ties is_smaller x) (e ∷ (f ∷ fs))
skip_one x e f fs gs i l true u p q = rw (no_tie x e f l p) i
skip_one x e f fs gs i l false u p q =
    let same_rest : filter (ties is_smaller x) gs ≡ filter (ties is_smaller x) fs = i ∙ cond-false (ties is_smaller x e) (e ∷ filter (ties is_smaller x) fs) (filter (ties is_smaller x) fs) p in
    rw p (ap (λ (hs : List SpriteEntry). cond (ties is_smaller x f) (f ∷ hs) hs) same_rest)

filtered : (x e f : SpriteEntry) (fs gs : List SpriteEntry) → filter (ties is_smaller x) gs ≡ filter (ties is_smaller x) (e ∷ fs) → (b : Bool) →
    int_le e.scale f.scale ≡ b → filter (ties is_smaller x) (cond b (e ∷ (f ∷ fs)) (f ∷ gs)) ≡ filter (ties is_smaller x) (e ∷ (f ∷ fs))
filtered x e f fs gs i true q = refl
filtered x e f fs gs i false q = skip_one x e f fs gs i (not_le_lt e.scale f.scale q) (ties is_smaller x e) (ties is_smaller x f) refl refl

filter-insert_entry : (x e : SpriteEntry) (fs : List SpriteEntry) → filter (ties is_smaller x) (insert_entry e fs) ≡ filter (ties is_smaller x) (e ∷ fs)
unfolding insert_entry
filter-insert_entry x e [] = refl
filter-insert_entry x e (f ∷ fs) = filtered x e f fs (insert_entry e fs) (filter-insert_entry x e fs) (int_le e.scale f.scale) refl

pub draw_order-stable : (es : List SpriteEntry) → IsStableBy is_smaller es (draw_order es)
unfolding draw_order
draw_order-stable [] x = refl
draw_order-stable (e ∷ es) x =
    filter-insert_entry x e (draw_order es) ∙ ap (λ (fs : List SpriteEntry). cond (ties is_smaller x e) (e ∷ fs) fs) (draw_order-stable es x)

-- an entry that goes before its equals and one that goes behind them may be put in either order
two_entries : (d e : SpriteEntry) (xs ys : List SpriteEntry) → cond (int_le d.scale e.scale) xs ys ≡ cond (int_lt e.scale d.scale) ys xs
two_entries d e xs ys = elim (cases_Bool (int_le d.scale e.scale)) [
  | inl a ↦ rw (a, le_not_lt d.scale e.scale a) refl
  | inr a ↦ rw (a, not_le_lt d.scale e.scale a) refl
]

both_inserted : (d e f : SpriteEntry) (fs : List SpriteEntry) → insert_entry d (insert_last e fs) ≡ insert_last e (insert_entry d fs) → (a b : Bool) → int_lt e.scale f.scale ≡ a → int_le d.scale f.scale ≡ b →
    insert_entry d (cond a (e ∷ (f ∷ fs)) (f ∷ insert_last e fs)) ≡ insert_last e (cond b (d ∷ (f ∷ fs)) (f ∷ insert_entry d fs))
unfolding insert_entry insert_last is_smaller
both_inserted d e f fs i true true p q = rw (p, q) (two_entries d e (d ∷ (e ∷ (f ∷ fs))) (e ∷ (d ∷ (f ∷ fs))))
both_inserted d e f fs i true false p q = rw (p, q, far_le d.scale e.scale f.scale p q) refl
both_inserted d e f fs i false true p q = rw (p, q, near_lt d.scale e.scale f.scale p q) refl
both_inserted d e f fs i false false p q = rw (p, q) (ap (λ (gs : List SpriteEntry). f ∷ gs) i)

insert_both : (d e : SpriteEntry) (fs : List SpriteEntry) → insert_entry d (insert_last e fs) ≡ insert_last e (insert_entry d fs)
unfolding insert_entry insert_last is_smaller
insert_both d e [] = two_entries d e (d ∷ (e ∷ [])) (e ∷ (d ∷ []))
insert_both d e (f ∷ fs) = both_inserted d e f fs (insert_both d e fs) (int_lt e.scale f.scale) (int_le d.scale f.scale) refl refl

one_entry : (e : SpriteEntry) → insert_entry e [] ≡ insert_last e []
unfolding insert_entry insert_last
one_entry e = refl

-- the entry that is made last goes behind those that are not greater
pub draw_order-more : (es : List SpriteEntry) (e : SpriteEntry) → draw_order (es ++ e ∷ []) ≡ insert_last e (draw_order es)
unfolding draw_order
draw_order-more [] e = one_entry e
draw_order-more (d ∷ ds) e = ap (insert_entry d) (draw_order-more ds e) ∙ insert_both d e (draw_order ds)
