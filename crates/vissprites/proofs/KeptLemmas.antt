-- Laws of the entries of a view that are kept in drawing order.
use Rattle.picture_rules.proofs.Common.{[], and-true_true, and_parts, ap, arith, Bool, cond, drop, false, length, List, nat_lt, nat_tests, None, Option, refl, Some, suc, sym, take, true, ℕ, ◌&&◌, ◌++◌, ◌+◌, ◌<◌, ◌∙◌, ◌∷◌, ◌≡◌, ◌≤◌}
use Rattle.vissprites.specs.Rules.{MAX_VISSPRITES, Placed, Seen, Shape5, SpriteEntry, ViewValue, add_entry, draw_order, entry_for, insert_last, is_smaller, with_entry}
use Rattle.picture_rules.proofs.sprite.OrderLemmas.{draw_order-more, length-draw_order}
use Rattle.vissprites.specs.Kept.{insert_made, made_order, are_below, IsKept, count_before}

less : (m n : ℕ) → nat_lt m n ≡ true → nat_lt n m ≡ false
less m n h = grind (arith, nat_tests)

-- numbers that are below n are below each greater number
are_below-more : (m n : ℕ) (es : List SpriteEntry) → m ≤ n → are_below m es ≡ true → are_below n es ≡ true
unfolding are_below
are_below-more m n [] l h = refl
are_below-more m n (e ∷ es) l h =
    let both_below = and_parts (nat_lt e.number m) (are_below m es) h in
    let number_below_m : nat_lt e.number m ≡ true = both_below.0 in
    let number_below_n : nat_lt e.number n ≡ true = grind (arith, nat_tests) in
    and-true_true (nat_lt e.number n) (are_below n es) number_below_n (are_below-more m n es l both_below.1)

below_cases : (n : ℕ) (e f : SpriteEntry) (fs gs : List SpriteEntry) (b : Bool) → nat_lt e.number n ≡ true → are_below n (f ∷ fs) ≡ true → are_below n gs ≡ true →
    are_below n (cond b (e ∷ (f ∷ fs)) (f ∷ gs)) ≡ true
unfolding are_below
below_cases n e f fs gs true p q r = and-true_true (nat_lt e.number n) (are_below n (f ∷ fs)) p q
below_cases n e f fs gs false p q r = and-true_true (nat_lt f.number n) (are_below n gs) (and_parts (nat_lt f.number n) (are_below n fs) q).0 r

rest_below : (n : ℕ) (f : SpriteEntry) (fs : List SpriteEntry) → are_below n (f ∷ fs) ≡ true → (nat_lt f.number n ≡ true) × (are_below n fs ≡ true)
unfolding are_below
rest_below n f fs h = and_parts (nat_lt f.number n) (are_below n fs) h

one_below : (n : ℕ) (e : SpriteEntry) → nat_lt e.number n ≡ true → are_below n (e ∷ []) ≡ true
unfolding are_below
one_below n e p = and-true_true (nat_lt e.number n) true p refl

are_below-insert_made : (n : ℕ) (e : SpriteEntry) (fs : List SpriteEntry) → nat_lt e.number n ≡ true → are_below n fs ≡ true → are_below n (insert_made e fs) ≡ true
unfolding insert_made
are_below-insert_made n e [] p h = one_below n e p
are_below-insert_made n e (f ∷ fs) p h =
    below_cases n e f fs (insert_made e fs) (nat_lt e.number f.number) p h (are_below-insert_made n e fs p (rest_below n f fs h).1)

are_below-made_order : (n : ℕ) (es : List SpriteEntry) → are_below n es ≡ true → are_below n (made_order es) ≡ true
unfolding made_order
are_below-made_order n [] h = h
are_below-made_order n (e ∷ es) h =
    let both_below = rest_below n e es h in
    are_below-insert_made n e (made_order es) both_below.0 (are_below-made_order n es both_below.1)

are_below-insert_last : (n : ℕ) (e : SpriteEntry) (fs : List SpriteEntry) → nat_lt e.number n ≡ true → are_below n fs ≡ true → are_below n (insert_last e fs) ≡ true
unfolding insert_last
are_below-insert_last n e [] p h = one_below n e p
are_below-insert_last n e (f ∷ fs) p h =
    below_cases n e f fs (insert_last e fs) (is_smaller e f) p h (are_below-insert_last n e fs p (rest_below n f fs h).1)

-- an entry with a greater number than all others is the last of them
insert_made-last : (e : SpriteEntry) (fs : List SpriteEntry) → are_below e.number fs ≡ true → insert_made e fs ≡ fs ++ e ∷ []
unfolding insert_made
insert_made-last e [] h = refl
insert_made-last e (f ∷ fs) h =
    let both_below = rest_below e.number f fs h in
    rw (less f.number e.number both_below.0) (ap (λ (gs : List SpriteEntry). f ∷ gs) (insert_made-last e fs both_below.1))

append_cases : (e f g : SpriteEntry) (gs hs : List SpriteEntry) (b : Bool) → hs ≡ insert_made f gs ++ e ∷ [] →
    cond b (f ∷ (g ∷ (gs ++ e ∷ []))) (g ∷ hs) ≡ cond b (f ∷ (g ∷ gs)) (g ∷ insert_made f gs) ++ e ∷ []
append_cases e f g gs hs true h = refl
append_cases e f g gs hs false h = ap (λ (ks : List SpriteEntry). g ∷ ks) h

-- and stays so where another is put in
insert_made-append : (e f : SpriteEntry) (gs : List SpriteEntry) → nat_lt f.number e.number ≡ true → insert_made f (gs ++ e ∷ []) ≡ insert_made f gs ++ e ∷ []
unfolding insert_made
insert_made-append e f [] h = rw h refl
insert_made-append e f (g ∷ gs) h =
    append_cases e f g gs (insert_made f (gs ++ e ∷ [])) (nat_lt f.number g.number) (insert_made-append e f gs h)

made_cases : (e f : SpriteEntry) (fs : List SpriteEntry) (b : Bool) → are_below e.number (f ∷ fs) ≡ true → made_order (insert_last e fs) ≡ made_order fs ++ e ∷ [] →
    made_order (cond b (e ∷ (f ∷ fs)) (f ∷ insert_last e fs)) ≡ made_order (f ∷ fs) ++ e ∷ []
unfolding made_order
made_cases e f fs true h i = insert_made-last e (made_order (f ∷ fs)) (are_below-made_order e.number (f ∷ fs) h)
made_cases e f fs false h i =
    ap (insert_made f) i ∙ insert_made-append e f (made_order fs) (rest_below e.number f fs h).0

one_made : (e : SpriteEntry) → made_order (e ∷ []) ≡ [] ++ e ∷ []
unfolding made_order insert_made
one_made e = refl

-- the entry that was made last is the last in order of making
pub made_order-insert_last : (e : SpriteEntry) (fs : List SpriteEntry) → are_below e.number fs ≡ true → made_order (insert_last e fs) ≡ made_order fs ++ e ∷ []
unfolding insert_last made_order
made_order-insert_last e [] h = one_made e
made_order-insert_last e (f ∷ fs) h =
    made_cases e f fs (is_smaller e f) h (made_order-insert_last e fs (rest_below e.number f fs h).1)

length_cases : (e f : SpriteEntry) (fs gs : List SpriteEntry) (b : Bool) → length gs ≡ length fs + 1 → length (cond b (e ∷ (f ∷ fs)) (f ∷ gs)) ≡ length (f ∷ fs) + 1
length_cases e f fs gs true h = omega arith
length_cases e f fs gs false h = omega arith

pub length-insert_last : (e : SpriteEntry) (fs : List SpriteEntry) → length (insert_last e fs) ≡ length fs + 1
unfolding insert_last
length-insert_last e [] = refl
length-insert_last e (f ∷ fs) = length_cases e f fs (insert_last e fs) (is_smaller e f) (length-insert_last e fs)

split_cases : (e f : SpriteEntry) (fs : List SpriteEntry) (n : ℕ) (b : Bool) → take n fs ++ e ∷ drop n fs ≡ insert_last e fs →
    take (cond b 0 (suc n)) (f ∷ fs) ++ e ∷ drop (cond b 0 (suc n)) (f ∷ fs) ≡ cond b (e ∷ (f ∷ fs)) (f ∷ insert_last e fs)
split_cases e f fs n true h = refl
split_cases e f fs n false h = ap (λ (gs : List SpriteEntry). f ∷ gs) h

-- the place of the entry that was made last
pub insert_last-split : (e : SpriteEntry) (fs : List SpriteEntry) → take (count_before e fs) fs ++ e ∷ drop (count_before e fs) fs ≡ insert_last e fs
unfolding insert_last
insert_last-split e [] = refl
insert_last-split e (f ∷ fs) = split_cases e f fs (count_before e fs) (is_smaller e f) (insert_last-split e fs)

nothing_drawn : [] ≡ draw_order (made_order [])
unfolding draw_order made_order
nothing_drawn = refl

nothing_below : are_below 0 [] ≡ true
unfolding are_below
nothing_below = refl

-- no entries are kept
pub none_kept : IsKept []
none_kept = record { ordered = nothing_drawn; numbered = nothing_below; room = omega arith }

pub made_order-none : made_order [] ≡ []
unfolding made_order
made_order-none = refl

-- as many entries are kept as were made
pub length-made_order : (es : List SpriteEntry) → IsKept es → length (made_order es) ≡ length es
length-made_order es k = sym (length-draw_order (made_order es)) ∙ ap length (sym k.ordered)

-- one more entry, numbered by those that are there
pub insert_last-kept : (e : SpriteEntry) (es : List SpriteEntry) → IsKept es → e.number ≡ length es → length es < MAX_VISSPRITES → IsKept (insert_last e es)
insert_last-kept e es k n l =
    let numbers_below : are_below e.number es ≡ true = rw n k.numbered in
    let next : nat_lt e.number (length es + 1) ≡ true = grind (arith, nat_tests) in
    let numbered : are_below (length es + 1) (insert_last e es) ≡ true =
    are_below-insert_last (length es + 1) e es next (are_below-more (length es) (length es + 1) es (omega arith) k.numbered)
    in
    record {
      ordered =
          ap (insert_last e) k.ordered ∙ sym (draw_order-more (made_order es) e) ∙ ap draw_order (sym (made_order-insert_last e es numbers_below));
      numbered = rw (length-insert_last e es) numbered;
      room = omega (arith, length-insert_last e es);
    }

-- where there is room, one more entry is the last in order of making
pub with_entry-room : (e : SpriteEntry) (es : List SpriteEntry) → IsKept es → e.number ≡ length es → length es < MAX_VISSPRITES →
    made_order (insert_last e es) ≡ with_entry (made_order es) (Some e)
unfolding with_entry
with_entry-room e es k n l =
    let numbers_below : are_below e.number es ≡ true = rw n k.numbered in
    let room : nat_lt (length (made_order es)) MAX_VISSPRITES ≡ true = rw (length-made_order es k) (grind (arith, nat_tests)) in
    rw room (made_order-insert_last e es numbers_below)

-- else nothing changes
pub with_entry-full : (e : SpriteEntry) (es : List SpriteEntry) → IsKept es → MAX_VISSPRITES ≤ length es → made_order es ≡ with_entry (made_order es) (Some e)
unfolding with_entry
with_entry-full e es k l =
    let list_is_full : nat_lt (length (made_order es)) MAX_VISSPRITES ≡ false = rw (length-made_order es k) (grind (arith, nat_tests)) in
    rw list_is_full refl

-- without an entry nothing changes
pub with_entry-none : (es : List SpriteEntry) → es ≡ with_entry es None
unfolding with_entry
with_entry-none es = refl

-- what one more thing does to the entries, by the entry that it has
pub add-entry : (v : ViewValue) (es : List SpriteEntry) (thing : Placed) (seen : Seen) (shape : Shape5) (number : ℕ) (entry : Option SpriteEntry) →
    number ≡ length es → entry_for v number thing seen shape ≡ entry → with_entry es entry ≡ add_entry v es thing seen shape
unfolding add_entry
add-entry v es thing seen shape number entry n h =
    ap (with_entry es) (sym h ∙ ap (λ (k : ℕ). entry_for v k thing seen shape) n)
