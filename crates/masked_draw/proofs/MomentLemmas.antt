-- Laws of the moments of masked columns: which sprite is the first in front of a column, asked sprite by sprite.
use Rattle.picture_rules.proofs.Common.{ap, arith, Bool, cond, false, is_some, length, List, lt-true, nat_tests, None, not, Option, refl, slice_get, Some, suc, sym, true, zero, ℕ, ◌&&◌, ◌+◌, ◌-◌, ◌<◌, ◌||◌, ◌∙◌, ◌≡◌, ◌≤◌}
use Rattle.masked_draw.specs.Rules.{Drawseg, SpriteEntry, least, or_else, same_number, sprite_in_front, stands_in_front}
use Rattle.picture_rules.proofs.Laws.{least-is, least-more}
use Rattle.picture_rules.proofs.sprite.ClipLemmas.{sprite_in_front-least}
use Rattle.masked_draw.specs.Marks.{is_passed, is_before}

before_here : (p : ℕ → Bool) (n : ℕ) (o : Option ℕ) → least p n ≡ o → is_before o n ≡ is_some o
before_here p n None e = refl
before_here p n (Some j) e = lt-true j n (least-is p n j e).0

before_step : (p : ℕ → Bool) (n i : ℕ) (b : Bool) (o : Option ℕ) → i ≤ n → is_before (or_else o (cond b (Some n) None)) i ≡ is_before o i
before_step p n i true None l = grind (arith, nat_tests)
before_step p n i false None l = refl
before_step p n i b (Some j) l = refl

-- the least number that passes is below i exactly where there is one below i that passes
before-least_at : (p : ℕ → Bool) (i k : ℕ) → is_before (least p (i + k)) i ≡ is_some (least p i)
before-least_at p i zero =
    let same_count : i + zero ≡ i = omega arith in
    ap (λ (m : ℕ). is_before (least p m) i) same_count ∙ before_here p i (least p i) refl
before-least_at p i (suc k) =
    let sum_is_one_more : i + suc k ≡ (i + k) + 1 = omega arith in
    ap (λ (m : ℕ). is_before (least p m) i) sum_is_one_more
    ∙ ap (λ (o : Option ℕ). is_before o i) (least-more p (i + k))
    ∙ before_step p (i + k) i (p (i + k)) (least p (i + k)) (omega arith)
    ∙ before-least_at p i k

pub before-least : (p : ℕ → Bool) (n i : ℕ) → i ≤ n → is_before (least p n) i ≡ is_some (least p i)
before-least p n i l =
    let whole_count : i + (n - i) ≡ n = omega arith in
    sym (ap (λ (m : ℕ). is_before (least p m) i) whole_count) ∙ before-least_at p i (n - i)

some_or : (o : Option ℕ) (b : Bool) (n : ℕ) → is_some (or_else o (cond b (Some n) None)) ≡ (is_some o || b)
some_or None true n = refl
some_or None false n = refl
some_or (Some j) b n = refl

pub some-least_more : (p : ℕ → Bool) (i : ℕ) → is_some (least p (i + 1)) ≡ (is_some (least p i) || p i)
some-least_more p i = ap is_some (least-more p i) ∙ some_or (least p i) (p i) i

-- a number is i where it is below i + 1 and not below i
pub same_number-now : (o : Option ℕ) (i : ℕ) → same_number o (Some i) ≡ (not (is_before o i) && is_before o (i + 1))
unfolding same_number
same_number-now None i = refl
same_number-now (Some j) i = grind (arith, nat_tests)

same_left : (p : ℕ → Bool) (n : ℕ) (o : Option ℕ) → least p n ≡ o → same_number o None ≡ not (is_before o n)
unfolding same_number
same_left p n None e = refl
same_left p n (Some j) e = let is_below = lt-true j n (least-is p n j e).0 in sym (ap not is_below)

stands_passed : (d : Drawseg) (x : ℕ) (e : SpriteEntry) (o : Option SpriteEntry) → o ≡ Some e → stands_in_front d x o ≡ is_passed e d x
unfolding stands_in_front
stands_passed d x e o h = ap (stands_in_front d x) h

or_passed : (a b c : Bool) → c ≡ (a || b) → (not a && c) ≡ (not a && b)
or_passed true b c h = refl
or_passed false b c h = h

-- one sprite more: the column is painted before it or now
pub front-more : (sprites : List SpriteEntry) (d : Drawseg) (x i : ℕ) (e : SpriteEntry) → i < length sprites → slice_get sprites i ≡ Some e →
    is_before (sprite_in_front sprites d x) (i + 1) ≡ (is_before (sprite_in_front sprites d x) i || is_passed e d x)
front-more sprites d x i e l h =
    let stands_before = λ (k : ℕ). stands_in_front d x (slice_get sprites k) in
    let least_is = sprite_in_front-least sprites d x in
    let is_before_next = before-least stands_before (length sprites) (i + 1) (omega arith) in
    let is_before_this = before-least stands_before (length sprites) i (omega arith) in
    ap (λ (o : Option ℕ). is_before o (i + 1)) least_is ∙ is_before_next ∙ some-least_more stands_before i
    ∙ ap (λ (b : Bool). b || stands_before i) (sym (ap (λ (o : Option ℕ). is_before o i) least_is ∙ is_before_this))
    ∙ ap (λ (b : Bool). is_before (sprite_in_front sprites d x) i || b) (stands_passed d x e (slice_get sprites i) h)

-- it is painted just before this sprite
pub front-now : (sprites : List SpriteEntry) (d : Drawseg) (x i : ℕ) (e : SpriteEntry) → i < length sprites → slice_get sprites i ≡ Some e →
    same_number (sprite_in_front sprites d x) (Some i) ≡ (not (is_before (sprite_in_front sprites d x) i) && is_passed e d x)
front-now sprites d x i e l h =
    same_number-now (sprite_in_front sprites d x) i
    ∙ or_passed (is_before (sprite_in_front sprites d x) i) (is_passed e d x) (is_before (sprite_in_front sprites d x) (i + 1)) (front-more sprites d x i e l h)

-- it is painted after all sprites
pub front-left : (sprites : List SpriteEntry) (d : Drawseg) (x : ℕ) →
    same_number (sprite_in_front sprites d x) None ≡ not (is_before (sprite_in_front sprites d x) (length sprites))
front-left sprites d x =
    let stands_before = λ (k : ℕ). stands_in_front d x (slice_get sprites k) in
    let least_is = sprite_in_front-least sprites d x in
    ap (λ (o : Option ℕ). same_number o None) least_is ∙ same_left stands_before (length sprites) (least stands_before (length sprites)) refl
    ∙ ap (λ (o : Option ℕ). not (is_before o (length sprites))) (sym least_is)

before_none : (o : Option ℕ) → is_before o 0 ≡ false
before_none None = refl
before_none (Some j) = grind (arith, nat_tests)

-- nothing is painted before the first sprite
pub front-first : (sprites : List SpriteEntry) (d : Drawseg) (x : ℕ) → is_before (sprite_in_front sprites d x) 0 ≡ false
front-first sprites d x = before_none (sprite_in_front sprites d x)
