-- The pictures of a frame: its last mention is one of them, and what f gives of each item.
use Rattle.art_rules.proofs.Common.{[], AllByRecursion, and-true_true, and_parts, ap, arith, Bool, cases_lt, cond, Decides-eqb, false, inl, inr, leb-true, List, map, nat_le, None, Ok, Option, range_with_len, refl, Result, Some, some-injective, subst, suc, sym, true, zero, ℕ, ◌&&◌, ◌+◌, ◌-◌, ◌<◌, ◌==◌, ◌∙◌, ◌∷◌, ◌≡◌, ◌≤◌}
use Rattle.trim_rules.specs.Rules.{FIRST_FRAME, FIRST_ROTATION, LAST_FRAME, LAST_ROTATION, Lump, Mention, ROTATIONS, SECOND_PAIR_AT, SPRITE_LETTERS, Sprites, each_of, frame_picture, is_of_frame, is_of_rotation, is_pair, joined_lists, last_that, lump_at, lump_mentions, members, mention_at, mentions, name_mentions, or_else, picture_by, picture_if}
use Rattle.art_rules.proofs.Laws.{and_then-ok}
use Rattle.trim_rules.proofs.{AnswerLemmas.ok_of, ThereLemmas.all-append}

-- What f gives of each, where the other function gives the same, moved.
pub each-moved : {X Y Z R : Type 0} (f : X → Result Y R) (g : X → Result Z R) (move : Z → Y) (P : Y → Type 0)
    → ((x : X) (y : Y) → f x ≡ Ok y → P y → (z : Z) × (g x ≡ Ok z) × (move z ≡ y))
    → (xs : List X) (ys : List Y) → each_of f xs ≡ Ok ys → AllByRecursion P ys → (zs : List Z) × (each_of g xs ≡ Ok zs) × (map move zs ≡ ys)
unfolding each_of
each-moved f g move P one [] ys e all = ([], refl, ok_of [] ys e)
each-moved f g move P one (x ∷ xs) ys e all =
    let first_made = and_then-ok (f x) _ ys e in let rest_made = and_then-ok (each_of f xs) _ ys first_made.2 in
    let list_is : first_made.0 ∷ rest_made.0 ≡ ys = ok_of (first_made.0 ∷ rest_made.0) ys rest_made.2 in
    let head_and_rest_hold : AllByRecursion P (first_made.0 ∷ rest_made.0) = subst (AllByRecursion P) (sym list_is) all in
    let first_moved = one x first_made.0 first_made.1 head_and_rest_hold.0 in
    let rest_moved = each-moved f g move P one xs rest_made.0 rest_made.1 head_and_rest_hold.1 in (
      first_moved.0 ∷ rest_moved.0,
      rw (first_moved.1, rest_moved.1) refl,
      ap (λ y. y ∷ map move rest_moved.0) first_moved.2 ∙ ap (λ zs. first_made.0 ∷ zs) rest_moved.2 ∙ list_is,
    )

-- What holds of what f gives tells of the items.
pub each-back : {X Y R : Type 0} (f : X → Result Y R) (P : X → Type 0) (Q : Y → Type 0) → ((x : X) (y : Y) → f x ≡ Ok y → Q y → P x)
    → (xs : List X) (ys : List Y) → each_of f xs ≡ Ok ys → AllByRecursion Q ys → AllByRecursion P xs
unfolding each_of
each-back f P Q one [] ys e all = tt
each-back f P Q one (x ∷ xs) ys e all =
    let first_made = and_then-ok (f x) _ ys e in
    let rest_made = and_then-ok (each_of f xs) _ ys first_made.2 in
    let list_is : first_made.0 ∷ rest_made.0 ≡ ys = ok_of (first_made.0 ∷ rest_made.0) ys rest_made.2 in
    let head_and_rest_hold : AllByRecursion Q (first_made.0 ∷ rest_made.0) = subst (AllByRecursion Q) (sym list_is) all in
    (one x first_made.0 first_made.1 head_and_rest_hold.0, each-back f P Q one xs rest_made.0 rest_made.1 head_and_rest_hold.1)

-- of each number of a range
pub range-all : (P : ℕ → Type 0) (a c n : ℕ) → AllByRecursion P (range_with_len a c) → a ≤ n → n < a + c → P n
range-all P a zero n all le lt = absurd (omega arith)
range-all P a (suc c) n all le lt = elim (cases_lt a n) [
  | inl below ↦ range-all P (a + 1) c n all.1 (omega arith) (omega arith)
  | inr same ↦ let is_here : a ≡ n = omega arith in subst P is_here all.0
]

-- each mention has a rotation up to 8
abbrev IsTurned : Mention → Type 0
IsTurned m = m.rotation ≤ ROTATIONS

pub cond_all : {X : Type 0} (P : X → Type 0) (b : Bool) (xs ys : List X) → (b ≡ true → AllByRecursion P xs) → AllByRecursion P ys → AllByRecursion P (cond b xs ys)
cond_all P true xs ys a b = a refl
cond_all P false xs ys a b = b

pair_turned : (letter digit : ℕ) → is_pair letter digit ≡ true → digit - FIRST_ROTATION ≤ ROTATIONS
unfolding is_pair
pair_turned letter digit e =
    let last : nat_le digit LAST_ROTATION ≡ true =
    (and_parts (nat_le FIRST_FRAME letter && nat_le letter LAST_FRAME && nat_le FIRST_ROTATION digit) (nat_le digit LAST_ROTATION) e).1 in
    omega (arith, leb-true)

mention_turned : (n : ℕ) (name : List ℕ) (offset : ℕ) (flip : Bool) → AllByRecursion IsTurned (mention_at n name offset flip)
unfolding mention_at
mention_turned n name offset flip = cond_all IsTurned _ (_ ∷ []) [] (λ is. (pair_turned _ _ is, tt)) tt

name_turned : (n : ℕ) (name : List ℕ) → AllByRecursion IsTurned (name_mentions n name)
unfolding name_mentions
name_turned n name =
    all-append IsTurned (mention_at n name SPRITE_LETTERS false) _ (mention_turned n name SPRITE_LETTERS false)
    (cond_all IsTurned _ [] (mention_at n name SECOND_PAIR_AT true) (λ is. tt) (mention_turned n name SECOND_PAIR_AT true))

lump_turned : (lumps : List Lump) (sprite : List ℕ) (n : ℕ) → AllByRecursion IsTurned (lump_mentions lumps sprite n)
unfolding lump_mentions
lump_turned lumps sprite n = cond_all IsTurned _ (name_mentions n (lump_at lumps n).name) [] (λ is. name_turned n (lump_at lumps n).name) tt

joined_turned : (lumps : List Lump) (sprite : List ℕ) (ns : List ℕ) → AllByRecursion IsTurned (joined_lists (lump_mentions lumps sprite) ns)
unfolding joined_lists
joined_turned lumps sprite [] = tt
joined_turned lumps sprite (n ∷ ns) = all-append IsTurned (lump_mentions lumps sprite n) (joined_lists (lump_mentions lumps sprite) ns) (lump_turned lumps sprite n) (joined_turned lumps sprite ns)

mentions_turned : (lumps : List Lump) (sprite : List ℕ) → AllByRecursion IsTurned (mentions lumps sprite)
unfolding mentions
mentions_turned lumps sprite = joined_turned lumps sprite (members Sprites lumps)

found_step : (P : Mention → Type 0) (o : Option Mention) (b : Bool) (x m : Mention) → (b ≡ true → P x) → (o ≡ Some m → P m) → or_else o (cond b (Some x) None) ≡ Some m → P m
found_step P (Some v) b x m one more e = more e
found_step P None true x m one more e = subst P (some-injective x m e) (one refl)
found_step P None false x m one more e = absurd (cc)

-- a mention that is found is one of them
pub last_that-is : (P : Mention → Type 0) (passes : Mention → Bool) (all : List Mention) (m : Mention) → AllByRecursion P all → last_that passes all ≡ Some m → P m
unfolding last_that
last_that-is P passes [] m holds e = absurd (cc)
last_that-is P passes (x ∷ all) m holds e =
    found_step P (last_that passes all) (passes x) x m (λ is. holds.0) (λ later. last_that-is P passes all m holds.1 later) e

-- the last that passes one test is the last that passes a narrower one, where it passes that
module _ (passes narrow : Mention → Bool) (within : (m : Mention) → narrow m ≡ true → passes m ≡ true) where
  none_step : (x : Mention) (r s : Option Mention) (b c : Bool) → narrow x ≡ c → passes x ≡ b → (r ≡ None → s ≡ None)
      → or_else r (cond b (Some x) None) ≡ None → or_else s (cond c (Some x) None) ≡ None
  none_step x (Some v) s b c is js more e = absurd (cc)
  none_step x None s true c is js more e = absurd (cc)
  none_step x None s false true is js more e = let impossible : false ≡ true = sym js ∙ within x is in absurd (cc)
  none_step x None s false false is js more e = rw (more refl) refl

  none_within : (all : List Mention) → last_that passes all ≡ None → last_that narrow all ≡ None
  unfolding last_that
  none_within [] e = refl
  none_within (x ∷ all) e = none_step x (last_that passes all) (last_that narrow all) (passes x) (narrow x) refl refl (λ f. none_within all f) e

  some_step : (x m : Mention) (r s : Option Mention) (b : Bool) → (r ≡ None → s ≡ None) → (r ≡ Some m → s ≡ Some m) → narrow m ≡ true
      → or_else r (cond b (Some x) None) ≡ Some m → or_else s (cond (narrow x) (Some x) None) ≡ Some m
  some_step x m (Some v) s b none more is e = rw (more e) refl
  some_step x m None s true none more is e =
      let mentions_same : x ≡ m = some-injective x m e in
      ap (λ o. or_else o (cond (narrow x) (Some x) None)) (none refl) ∙ ap (λ b. cond b (Some x) None) (ap narrow mentions_same ∙ is) ∙ ap Some mentions_same
  some_step x m None s false none more is e = absurd (cc)

  last-within : (all : List Mention) (m : Mention) → last_that passes all ≡ Some m → narrow m ≡ true → last_that narrow all ≡ Some m
  unfolding last_that
  last-within [] m e is = absurd (cc)
  last-within (x ∷ all) m e is =
      some_step x m (last_that passes all) (last_that narrow all) (passes x) (λ f. none_within all f) (λ f. last-within all m f is) is e

rotation_within : (frame rotation : ℕ) (m : Mention) → is_of_rotation frame rotation m ≡ true → is_of_frame frame m ≡ true
unfolding is_of_rotation
rotation_within frame rotation m e = (and_parts (is_of_frame frame m) (m.rotation == rotation) e).0

last_passes : (passes : Mention → Bool) (all : List Mention) (m : Mention) → last_that passes all ≡ Some m → passes m ≡ true
unfolding last_that
last_passes passes [] m e = absurd (cc)
last_passes passes (x ∷ all) m e =
    found_step (λ n. passes n ≡ true) (last_that passes all) (passes x) x m (λ is. is) (λ later. last_passes passes all m later) e

own_rotation : (frame rotation : ℕ) (m : Mention) → is_of_frame frame m ≡ true → m.rotation ≡ rotation → is_of_rotation frame rotation m ≡ true
unfolding is_of_rotation
own_rotation frame rotation m is e = and-true_true (is_of_frame frame m) (m.rotation == rotation) is ((Decides-eqb m.rotation rotation).1 e)

not_zero : (r k : ℕ) → r ≡ suc k → (b : Bool) → (r == 0) ≡ b → b ≡ false
not_zero r k is true e = let rotation_is_zero : r ≡ 0 = (Decides-eqb r 0).0 e in absurd (omega arith)
not_zero r k is false e = refl

-- The last mention of a frame is one of its pictures.
picture_at : (all : List Mention) (frame : ℕ) (last : Mention) → last_that (is_of_frame frame) all ≡ Some last → last.rotation ≤ ROTATIONS
    → (r : ℕ) → last.rotation ≡ r → (k : ℕ) × (k < ROTATIONS) × (frame_picture all frame k ≡ Some last)
unfolding frame_picture picture_if picture_by
picture_at all frame last e le zero is =
    (0, omega arith, ap (λ o. picture_if all frame o 0) e ∙ ap (λ b. cond b (Some last) (last_that (is_of_rotation frame 1) all)) ((Decides-eqb last.rotation 0).1 is))
picture_at all frame last e le (suc k) is =
    let rotation_not_zero : (last.rotation == 0) ≡ false = not_zero last.rotation k is (last.rotation == 0) refl in (
      k,
      omega arith,
      ap (λ o. picture_if all frame o k) e ∙ ap (λ b. cond b (Some last) (last_that (is_of_rotation frame (suc k)) all)) rotation_not_zero
          ∙ last-within (is_of_frame frame) (is_of_rotation frame (suc k)) (λ m js. rotation_within frame (suc k) m js) all last e
          (own_rotation frame (suc k) last (last_passes (is_of_frame frame) all last e) is),
    )

pub last-pictured : (lumps : List Lump) (sprite : List ℕ) (frame : ℕ) (last : Mention) → last_that (is_of_frame frame) (mentions lumps sprite) ≡ Some last
    → (k : ℕ) × (k < ROTATIONS) × (frame_picture (mentions lumps sprite) frame k ≡ Some last)
last-pictured lumps sprite frame last e =
    picture_at (mentions lumps sprite) frame last e
    (last_that-is IsTurned (is_of_frame frame) (mentions lumps sprite) last (mentions_turned lumps sprite) e) last.rotation refl
