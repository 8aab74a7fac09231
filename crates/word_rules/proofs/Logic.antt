-- Laws of truth values, options, answers and numbers that proofs of many crates use.
use Rattle.std.proofs.Common.{◌≡◌, ◌<◌, ◌≤◌, ◌+◌, ℕ, Bool, true, false, ◌&&◌, ◌||◌, Decides, List, get_or, Option, Some, None, Result, Ok, Err, OnOk, refl, subst, arith}
use Rattle.std.specs.List.{Contains, list_any}
use Rattle.std.proofs.lemmas.List.Folds.{Any-from_list_any, list_any_at}
use Rattle.std.specs.Prelude.{◌==◌, nat_lt, nat_le, is_some}
use Rattle.std.proofs.lemmas.Bool.Decides.{nat_tests}
use Rattle.word_rules.specs.Least.{or_else}

-- functions that agree everywhere
pub funext : {A B : Type 0} (f g : A → B) → ((x : A) → f x ≡ g x) → f ≡ g
funext f g h = λ i x. h x i

-- both, and one of two
pub and-true_true : (a b : Bool) → a ≡ true → b ≡ true → (a && b) ≡ true
and-true_true a b e f = rw (e, f) refl

pub and-false_left : (a b : Bool) → a ≡ false → (a && b) ≡ false
and-false_left a b e = rw e refl

pub and-false_right : (a b : Bool) → b ≡ false → (a && b) ≡ false
and-false_right true b h = h
and-false_right false b h = refl

pub and-second_false : (a b : Bool) → a ≡ true → (a && b) ≡ false → b ≡ false
and-second_false true b p e = e
and-second_false false b p e = cc

pub or-true_left : (a b : Bool) → a ≡ true → (a || b) ≡ true
or-true_left true b e = refl
or-true_left false b e = absurd (cc)

pub or-true_right : (a b : Bool) → b ≡ true → (a || b) ≡ true
or-true_right true b e = refl
or-true_right false b e = e

pub or-false_false : (a b : Bool) → a ≡ false → b ≡ false → (a || b) ≡ false
or-false_false a b e f = rw (e, f) refl

pub or-cases : (a b : Bool) (P : Type 0) → (a ≡ true → P) → (b ≡ true → P) → (a || b) ≡ true → P
or-cases true b P one two e = one refl
or-cases false b P one two e = two e

-- options
pub some-injective : {X : Type 0} (m n : X) → Some m ≡ Some n → m ≡ n
some-injective m n e = cc

pub some-same : {X : Type 0} (x y : X) (z : Option X) → Some x ≡ z → z ≡ Some y → x ≡ y
some-same x y z e f = cc

pub is_some-false : {X : Type 0} (r : Option X) → is_some r ≡ false → r ≡ None
is_some-false None e = refl
is_some-false (Some n) e = cc

pub or_else-none : {X : Type 0} (x y : Option X) → or_else x y ≡ None → (x ≡ None) × (y ≡ None)
or_else-none None y e = (refl, e)
or_else-none (Some v) y e = cc

pub or_else-none_right : {X : Type 0} (a : Option X) → or_else a None ≡ a
or_else-none_right None = refl
or_else-none_right (Some v) = refl

pub or_else-assoc : {X : Type 0} (a b c : Option X) → or_else a (or_else b c) ≡ or_else (or_else a b) c
or_else-assoc None b c = refl
or_else-assoc (Some v) b c = refl

-- answers
pub on_ok-always : {A E : Type 0} (P : Type 0) (result : Result A E) → P → OnOk result P
on_ok-always P (Ok x) h = h
on_ok-always P (Err x) h = tt

-- tests of numbers
pub lt-true : (j n : ℕ) → j < n → nat_lt j n ≡ true
lt-true j n l = grind (arith, nat_tests)

pub lt-false : (a b : ℕ) → b ≤ a → nat_lt a b ≡ false
lt-false a b h = grind (arith, nat_tests)

pub le-from_lt_false : (a b : ℕ) → nat_lt a b ≡ false → b ≤ a
le-from_lt_false a b e = grind arith

pub eq-same : (m : ℕ) → (m == m) ≡ true
eq-same m = grind (arith, nat_tests)

pub eq-true : (n k : ℕ) → n ≡ k → (n == k) ≡ true
eq-true n k e = grind (arith, nat_tests)

pub eq-from_true : (n k : ℕ) → (n == k) ≡ true → n ≡ k
eq-from_true n k e = grind (arith, nat_tests)

pub eq-false_above : (m n : ℕ) → n < m → (m == n) ≡ false
eq-false_above m n l = grind (arith, nat_tests)

pub eq-false_positive : (n : ℕ) → 0 < n → (n == 0) ≡ false
eq-false_positive n l = grind (arith, nat_tests)

pub within-row : (first k v : ℕ) → v ≡ first + k → (nat_le first v && nat_lt v (first + (k + 1))) ≡ true
within-row first k v e = grind (arith, nat_tests)

-- a test for a number passes exactly where a list has it
pub any-contains : (xs : List ℕ) (k : ℕ) → Decides (list_any (λ n. n == k) xs) (Contains xs k)
any-contains xs k = (found, passes) where
  found : list_any (λ n. n == k) xs ≡ true → Contains xs k
  found e =
      let found_number = Any-from_list_any (λ (n : ℕ). n == k) xs e in
      let number_same : found_number.1 ≡ k = eq-from_true found_number.1 k found_number.4 in
      (found_number.0, found_number.2, subst (λ (n : ℕ). get_or xs found_number.0 n ≡ n) number_same found_number.3)

  passes : Contains xs k → list_any (λ n. n == k) xs ≡ true
  passes there = list_any_at (λ (n : ℕ). n == k) xs there.0 k there.1 (eq-true (get_or xs there.0 k) k there.2)
