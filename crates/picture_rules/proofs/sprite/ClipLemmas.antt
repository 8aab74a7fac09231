-- Laws of clips and moments: the least sprite in front, and that fragments alike clip alike.
use Rattle.word_rules.proofs.Common.{[], AllZip, and_parts, ap, arith, Bool, cases_lt, cond, false, get_or, inl, inr, int_lt, leb-true, length, List, lt-ltb, nat_le, None, not, Option, pos, position, position-Some, position_or_len, refl, slice_get, Some, suc, sym, true, zero, ℕ, ℤ, ◌&&◌, ◌+◌, ◌<◌, ◌∙◌, ◌∷◌, ◌≡◌, ◌≤◌}
use Rattle.picture_rules.specs.Rules.{greatest, least, minus_one}
use Rattle.word_rules.proofs.LeastLemmas.{least-none, least-some, greatest-is}
use Rattle.picture_rules.specs.declared.sprite.SpriteEntry.{SpriteEntry}
use Rattle.picture_rules.specs.sprite.Drawsegs.{Drawseg, drawseg_has, entry_has, is_behind, DrawAlike}
use Rattle.picture_rules.specs.sprite.Clips.{gives_bottom, gives_top, passes_at, greatest_that, clip_of_some, clip_of_number, sprite_bottom, sprite_top, sprite_in_front, stands_in_front}

-- entry i passes the test
passes_some : {X : Type 0} → (X → Bool) → Option X → Bool
passes_some p None = false
passes_some p (Some x) = p x

none_of : {X : Type 0} (p : X → Bool) (x : X) (xs : List X) (k : ℕ) → (b : Bool) → p x ≡ b → length (x ∷ xs) ≤ cond (not b) (1 + position_or_len p xs) 0 → k < length (x ∷ xs) → ((j : ℕ) → length xs ≤ position_or_len p xs → j < length xs → passes_some p (slice_get xs j) ≡ false) → passes_some p (slice_get (x ∷ xs) k) ≡ false
unfolding passes_some
none_of p x xs k true e l m h = absurd (omega arith)
none_of p x xs zero false e l m h = e
none_of p x xs (suc k) false e l m h = h k (omega arith) (omega arith)

none_pass : {X : Type 0} (p : X → Bool) (xs : List X) (k : ℕ) → length xs ≤ position_or_len p xs → k < length xs → passes_some p (slice_get xs k) ≡ false
unfolding passes_some
none_pass p [] k l m = absurd (omega arith)
none_pass p (x ∷ xs) k l m = none_of p x xs k (p x) refl l m (λ j a b. none_pass p xs j a b)

get_some : {X : Type 0} (xs : List X) (k : ℕ) (d : X) → k < length xs → slice_get xs k ≡ Some (get_or xs k d)
get_some [] k d l = absurd (omega arith)
get_some (x ∷ xs) zero d l = refl
get_some (x ∷ xs) (suc k) d l = get_some xs k d (omega arith)

not_short : {X : Type 0} (p : X → Bool) (xs : List X) → position p xs ≡ None → length xs ≤ position_or_len p xs
not_short p xs e = elim (cases_lt (position_or_len p xs) (length xs)) [
  | inl l ↦ (let is_found : position p xs ≡ Some (position_or_len p xs) = rw (lt-ltb (position_or_len p xs) (length xs) l) refl in cc)
  | inr l ↦ l
]

position_least : {X : Type 0} (p : X → Bool) (xs : List X) (d : X) (o : Option ℕ) → position p xs ≡ o → o ≡ least (λ k. passes_some p (slice_get xs k)) (length xs)
unfolding passes_some
position_least p xs d None e =
    sym (least-none (λ k. passes_some p (slice_get xs k)) (length xs) (λ k l. none_pass p xs k (not_short p xs e) l))
position_least p xs d (Some i) e =
    let found_at = position-Some p xs i d e in
    sym (least-some (λ k. passes_some p (slice_get xs k)) (length xs) i found_at.0 (ap (passes_some p) (get_some xs i d found_at.0) ∙ found_at.1) (λ k l. ap (passes_some p) (get_some xs k d (omega (arith, found_at.0))) ∙ found_at.2 k l))

none_stands : (d : Drawseg) (x : ℕ) → None ≡ least (λ k. stands_in_front d x (slice_get [] k)) 0
unfolding least
none_stands d x = refl

stands_some : (d : Drawseg) (x : ℕ) (o : Option SpriteEntry) → passes_some (λ e. entry_has e x && is_behind d e) o ≡ stands_in_front d x o
unfolding passes_some stands_in_front
stands_some d x None = refl
stands_some d x (Some e) = refl

stands : (d : Drawseg) (x : ℕ) (sprites : List SpriteEntry) (n : ℕ) →
    least (λ k. passes_some (λ e. entry_has e x && is_behind d e) (slice_get sprites k)) n ≡ least (λ k. stands_in_front d x (slice_get sprites k)) n
unfolding least
stands d x sprites zero = refl
stands d x sprites (suc n) =
    let rest_alike = stands d x sprites n in
    let same_test = stands_some d x (slice_get sprites n) in cc

-- a masked column is drawn just before the least sprite that stands in front of it
pub sprite_in_front-least : (sprites : List SpriteEntry) (d : Drawseg) (x : ℕ) → sprite_in_front sprites d x ≡ least (λ k. stands_in_front d x (slice_get sprites k)) (length sprites)
unfolding sprite_in_front
sprite_in_front-least [] d x = none_stands d x
sprite_in_front-least (e ∷ es) d x =
    position_least (λ f. entry_has f x && is_behind d f) (e ∷ es) e (position (λ f. entry_has f x && is_behind d f) (e ∷ es)) refl ∙ stands d x (e ∷ es) (length (e ∷ es))

-- fragments alike are behind the same sprites, and give the same clips
pub alike-is_behind : (a b : Drawseg) → DrawAlike a b → (e : SpriteEntry) → is_behind a e ≡ is_behind b e
unfolding is_behind
alike-is_behind a b h e = let same_first_scale = h.scale1 in let same_last_scale = h.scale2 in let same_seg = h.seg in cc

pub alike-drawseg_has : (a b : Drawseg) → DrawAlike a b → (x : ℕ) → drawseg_has a x ≡ drawseg_has b x
unfolding drawseg_has
alike-drawseg_has a b h x = let same_first = h.first in let same_last = h.last in cc

alike_gives_bottom : (a b : Drawseg) → DrawAlike a b → (e : SpriteEntry) (x : ℕ) → gives_bottom e x a ≡ gives_bottom e x b
unfolding gives_bottom
alike_gives_bottom a b h e x = cc (alike-drawseg_has a b h x, alike-is_behind a b h e, h.has_bottom, h.bottom_height)

alike_gives_top : (a b : Drawseg) → DrawAlike a b → (e : SpriteEntry) (x : ℕ) → gives_top e x a ≡ gives_top e x b
unfolding gives_top
alike_gives_top a b h e x = cc (alike-drawseg_has a b h x, alike-is_behind a b h e, h.has_top, h.top_height)

-- at each number the two lists have fragments alike, or none
AreAlike : Option Drawseg → Option Drawseg → Type 0
AreAlike None None = Unit {0}
AreAlike None (Some b) = ⊥
AreAlike (Some a) None = ⊥
AreAlike (Some a) (Some b) = DrawAlike a b

get_alike : (ds es : List Drawseg) → AllZip DrawAlike ds es → length ds ≡ length es → (k : ℕ) → AreAlike (slice_get ds k) (slice_get es k)
unfolding AreAlike
get_alike [] [] h n k = tt
get_alike [] (e ∷ es) h n k = absurd (omega arith)
get_alike (d ∷ ds) [] h n k = absurd h
get_alike (d ∷ ds) (e ∷ es) h n zero = h.0
get_alike (d ∷ ds) (e ∷ es) h n (suc k) = get_alike ds es h.1 (omega arith) k

same_passes : (t : Drawseg → Bool) → ((a b : Drawseg) → DrawAlike a b → t a ≡ t b) → (o r : Option Drawseg) → AreAlike o r → passes_at t o ≡ passes_at t r
unfolding passes_at AreAlike
same_passes t h None None a = refl
same_passes t h None (Some b) a = absurd a
same_passes t h (Some c) None a = absurd a
same_passes t h (Some c) (Some b) a = h c b a

same_greatest : (p q : ℕ → Bool) → ((k : ℕ) → p k ≡ q k) → (n : ℕ) → greatest p n ≡ greatest q n
unfolding greatest
same_greatest p q h zero = refl
same_greatest p q h (suc n) = let same_last = h n in let same_rest = same_greatest p q h n in cc

same_some_clip : (t : Drawseg → Bool) (f : Drawseg → ℤ) (without : ℤ) → ((a b : Drawseg) → DrawAlike a b → t a ≡ true → f a ≡ f b) → (o r : Option Drawseg) → AreAlike o r → passes_at t o ≡ true → clip_of_some f without o ≡ clip_of_some f without r
unfolding clip_of_some AreAlike passes_at
same_some_clip t f without h None None a g = refl
same_some_clip t f without h None (Some b) a g = absurd a
same_some_clip t f without h (Some c) None a g = absurd a
same_some_clip t f without h (Some c) (Some b) a g = h c b a g

same_number_clip : (t : Drawseg → Bool) (f : Drawseg → ℤ) (without : ℤ) → ((a b : Drawseg) → DrawAlike a b → t a ≡ true → f a ≡ f b) → (ds es : List Drawseg) → ((k : ℕ) → AreAlike (slice_get ds k) (slice_get es k)) →
    (o : Option ℕ) → ((k : ℕ) → o ≡ Some k → passes_at t (slice_get ds k) ≡ true) → clip_of_number f without ds o ≡ clip_of_number f without es o
unfolding clip_of_number
same_number_clip t f without h ds es z None g = refl
same_number_clip t f without h ds es z (Some k) g = same_some_clip t f without h (slice_get ds k) (slice_get es k) (z k) (g k refl)

greatest_passes : (t : Drawseg → Bool) (ds : List Drawseg) (k : ℕ) → greatest_that t ds ≡ Some k → passes_at t (slice_get ds k) ≡ true
unfolding greatest_that
greatest_passes t ds k e = (greatest-is (λ k. passes_at t (slice_get ds k)) (length ds) k e).1

same_that : (t : Drawseg → Bool) → ((a b : Drawseg) → DrawAlike a b → t a ≡ t b) → (ds es : List Drawseg) → length ds ≡ length es → ((k : ℕ) → AreAlike (slice_get ds k) (slice_get es k)) → greatest_that t ds ≡ greatest_that t es
unfolding greatest_that
same_that t h ds es n z =
    same_greatest (λ k. passes_at t (slice_get ds k)) (λ k. passes_at t (slice_get es k)) (λ k. same_passes t h (slice_get ds k) (slice_get es k) (z k)) (length ds)
    ∙ ap (greatest (λ k. passes_at t (slice_get es k))) n

has_parts : (a : Drawseg) (x : ℕ) → drawseg_has a x ≡ true → (a.first ≤ x) × (x ≤ a.last)
unfolding drawseg_has
has_parts a x h = let bounds = and_parts (nat_le a.first x) (nat_le x a.last) h in (leb-true a.first x bounds.0, leb-true x a.last bounds.1)

given_bottom : (a b : Drawseg) (e : SpriteEntry) (x : ℕ) → DrawAlike a b → gives_bottom e x a ≡ true → a.bottom_clip x ≡ b.bottom_clip x
unfolding gives_bottom
given_bottom a b e x h g =
    let bounds = has_parts a x (and_parts (drawseg_has a x) (not (is_behind a e) && (a.has_bottom && int_lt e.gz a.bottom_height)) g).0 in
    h.bottom_clip x bounds.0 bounds.1

given_top : (a b : Drawseg) (e : SpriteEntry) (x : ℕ) → DrawAlike a b → gives_top e x a ≡ true → a.top_clip x ≡ b.top_clip x
unfolding gives_top
given_top a b e x h g =
    let bounds = has_parts a x (and_parts (drawseg_has a x) (not (is_behind a e) && (a.has_top && int_lt a.top_height e.gzt)) g).0 in
    h.top_clip x bounds.0 bounds.1

-- so a sprite is seen as far over fragments alike
pub alike-sprite_bottom : (height : ℕ) (ds es : List Drawseg) → AllZip DrawAlike ds es → length ds ≡ length es → (e : SpriteEntry) (x : ℕ) → sprite_bottom height ds e x ≡ sprite_bottom height es e x
unfolding sprite_bottom
alike-sprite_bottom height ds es h n e x =
    same_number_clip (gives_bottom e x) (λ d. d.bottom_clip x) (pos height) (λ a b l g. given_bottom a b e x l g) ds es (get_alike ds es h n) (greatest_that (gives_bottom e x) ds) (greatest_passes (gives_bottom e x) ds)
    ∙ ap (clip_of_number (λ d. d.bottom_clip x) (pos height) es) (same_that (gives_bottom e x) (λ a b l. alike_gives_bottom a b l e x) ds es n (get_alike ds es h n))

pub alike-sprite_top : (ds es : List Drawseg) → AllZip DrawAlike ds es → length ds ≡ length es → (e : SpriteEntry) (x : ℕ) → sprite_top ds e x ≡ sprite_top es e x
unfolding sprite_top
alike-sprite_top ds es h n e x =
    same_number_clip (gives_top e x) (λ d. d.top_clip x) minus_one (λ a b l g. given_top a b e x l g) ds es (get_alike ds es h n) (greatest_that (gives_top e x) ds) (greatest_passes (gives_top e x) ds)
    ∙ ap (clip_of_number (λ d. d.top_clip x) minus_one es) (same_that (gives_top e x) (λ a b l. alike_gives_top a b l e x) ds es n (get_alike ds es h n))
