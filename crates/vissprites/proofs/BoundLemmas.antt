-- Laws of what holds of each entry.
use Rattle.picture_rules.proofs.Common.{[], All-permutation, All-push, AllPass, arith, Bool, cast_signed, clamps, cond, false, int_le, int_lt, int_wrap, ints, length, List, nat_lt, nat_tests, negsuc, None, Option, pos, refl, Some, subst, suc, sym, true, w32, zero, ℕ, ℤ, ◌%◌, ◌++◌, ◌-ℤ◌, ◌-◌, ◌<ℤ◌, ◌<◌, ◌^◌, ◌∷◌, ◌≡◌, ◌≤◌}
use mir.Val.{sel}
use Rattle.vissprites.specs.Rules.{MAX_VISSPRITES, Placed, Seen, Shape5, SpriteEntry, ViewValue, add_entry, draw_order, entry_for, entry_of, entry_within, greater_word, lesser_word, minus, with_entry}
use Rattle.picture_rules.proofs.sprite.OrderLemmas.{draw_order-permutation}
use Rattle.vissprites.specs.Bounds.{lies_within, has_lump_below}

-- what holds of each entry holds of each in drawing order
pub draw_order-all : (test : SpriteEntry → Bool) (es : List SpriteEntry) → AllPass test es → AllPass test (draw_order es)
draw_order-all test es a = All-permutation (λ (e : SpriteEntry). test e ≡ true) es (draw_order es) (draw_order-permutation es) a

cond_all : (test : SpriteEntry → Bool) (es : List SpriteEntry) (e : SpriteEntry) (b : Bool) → AllPass test es → test e ≡ true → AllPass test (cond b (es ++ e ∷ []) es)
cond_all test es e true a h = All-push (λ (x : SpriteEntry). test x ≡ true) es e a h
cond_all test es e false a h = a

with_all : (test : SpriteEntry → Bool) (es : List SpriteEntry) (entry : Option SpriteEntry) → AllPass test es → ((e : SpriteEntry) → entry ≡ Some e → test e ≡ true) → AllPass test (with_entry es entry)
unfolding with_entry
with_all test es None a h = a
with_all test es (Some e) a h = cond_all test es e (nat_lt (length es) MAX_VISSPRITES) a (h e refl)

-- what holds of each entry and of a thing's holds of each when it is added
pub add-all : (test : SpriteEntry → Bool) (v : ViewValue) (es : List SpriteEntry) (thing : Placed) (seen : Seen) (shape : Shape5) →
    AllPass test es → ((e : SpriteEntry) → entry_for v (length es) thing seen shape ≡ Some e → test e ≡ true) → AllPass test (add_entry v es thing seen shape)
unfolding add_entry
add-all test v es thing seen shape a h = with_all test es (entry_for v (length es) thing seen shape) a h

made : (b : Bool) (e f : SpriteEntry) → cond b None (Some e) ≡ Some f → e ≡ f
made true e f h = cc
made false e f h = cc

either_below : (b : Bool) (x y z : ℤ) → x <ℤ z → y <ℤ z → sel b x y <ℤ z
either_below true x y z h k = h
either_below false x y z h k = k

signed_below : (m n : ℕ) → m ≤ n → cast_signed w32 m <ℤ pos (suc n)
signed_below m n h =
    either_below (nat_lt m (2 ^ 31)) (pos m) (negsuc (2 ^ 32 - suc m)) (pos (suc n)) (omega (arith, ints)) (omega (arith, ints))

wrapped_below : (n : ℕ) → int_wrap w32 (pos n) <ℤ pos (suc n)
unfolding int_wrap
wrapped_below n = signed_below (n % 2 ^ 32) n (omega arith)

one_less : (n : ℕ) → (pos (suc n) -ℤ pos 1) ≡ pos n
one_less n = omega (arith, ints)

last_column : (width : ℕ) → minus (pos width) (pos 1) <ℤ pos width
unfolding minus int_wrap
last_column zero = omega (arith, ints)
last_column (suc n) = let is_below_width : ℤ → Type 0 = λ z. int_wrap w32 z <ℤ pos (suc n) in subst is_below_width (sym (one_less n)) (wrapped_below n)

low_column : (a : ℤ) → int_le (pos 0) (greater_word a (pos 0)) ≡ true
unfolding greater_word
low_column a = grind (arith, ints, clamps)

high_column : (a b : ℤ) (width : ℕ) → b <ℤ pos width → int_lt (lesser_word a b) (pos width) ≡ true
unfolding lesser_word
high_column a b width h = grind (arith, ints, clamps)

entry_of-lies_within : (v : ViewValue) (number : ℕ) (thing : Placed) (seen : Seen) (shape : Shape5) (a1 a2 : ℤ) → lies_within v.shape.width (entry_of v number thing seen shape a1 a2) ≡ true
unfolding lies_within entry_of
entry_of-lies_within v number thing seen shape a1 a2 =
    let low = low_column a1 in
    let high = high_column a2 (minus (pos v.shape.width) (pos 1)) v.shape.width (last_column v.shape.width) in
    rw (low, high) refl

-- the columns of an entry lie in the view
pub entry_for-lies_within : (v : ViewValue) (number : ℕ) (thing : Placed) (seen : Seen) (shape : Shape5) (e : SpriteEntry) → entry_for v number thing seen shape ≡ Some e → lies_within v.shape.width e ≡ true
unfolding entry_for entry_within
entry_for-lies_within v number thing seen shape e h =
    let lies_in_view : SpriteEntry → Type 0 = λ f. lies_within v.shape.width f ≡ true in
    subst lies_in_view (made _ _ e h) (entry_of-lies_within v number thing seen shape _ _)

entry_of-lump : (v : ViewValue) (number : ℕ) (thing : Placed) (seen : Seen) (shape : Shape5) (a1 a2 : ℤ) (lumps : ℕ) → shape.lump < lumps →
    has_lump_below lumps (entry_of v number thing seen shape a1 a2) ≡ true
unfolding has_lump_below entry_of
entry_of-lump v number thing seen shape a1 a2 lumps h = grind (arith, nat_tests)

-- its lump is the picture's
pub entry_for-lump : (v : ViewValue) (number : ℕ) (thing : Placed) (seen : Seen) (shape : Shape5) (e : SpriteEntry) (lumps : ℕ) → shape.lump < lumps → entry_for v number thing seen shape ≡ Some e →
    has_lump_below lumps e ≡ true
unfolding entry_for entry_within
entry_for-lump v number thing seen shape e lumps l h =
    let lump_is_below : SpriteEntry → Type 0 = λ f. has_lump_below lumps f ≡ true in
    subst lump_is_below (made _ _ e h) (entry_of-lump v number thing seen shape _ _ lumps l)
