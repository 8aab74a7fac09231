-- Laws of a sprite's columns, and of what a fragment that it comes to marks, paints and clips.
use Rattle.picture_rules.proofs.Common.{[], and-false_left, and-false_right, and_parts, ap, arith, bit_and, Bool, false, inl, inr, int_le, int_lt, ints, List, max, min, nat_le, nat_lt, nat_tests, None, not, Option, pos, refl, Some, subst, sym, true, ℕ, ℤ, ◌&&◌, ◌+◌, ◌<ℤ◌, ◌<◌, ◌==◌, ◌^◌, ◌∙◌, ◌≡◌, ◌≤ℤ◌, ◌≤◌, ◌⊎◌}
use Rattle.masked_draw.specs.Rules.{Drawseg, FragmentNote, SIL_BOTTOM, SIL_TOP, SpriteEntry, ViewValue, drawseg_has, entry_has, gives_bottom, gives_top, is_behind}
use Rattle.vissprites.specs.Bounds.{lies_within}
use Rattle.masked_draw.specs.Clipped.{clips_bottom, clips_top, row_after}
use Rattle.masked_draw.specs.Marks.{AreOwnMarked, MarksBy, MissesColumns, is_between, is_passed, unmarked_strips}
use Rattle.masked_draw.proofs.MarkLemmas.{marks-none, marks-same, unmarked-none, unmarked-plain, unmarked-same}

-- a drawn fragment as its note has it
pub record IsSegOf (d : FragmentNote) (drawseg : Drawseg) : Type 0 where
  pub first : drawseg.first ≡ d.first
  pub last : drawseg.last ≡ d.last
  pub has_bottom : drawseg.has_bottom ≡ not (bit_and d.silhouette SIL_BOTTOM == 0)
  pub has_top : drawseg.has_top ≡ not (bit_and d.silhouette SIL_TOP == 0)
  pub bottom_height : drawseg.bottom_height ≡ d.bottom_height
  pub top_height : drawseg.top_height ≡ d.top_height

-- a sprite's columns are numbers of columns
pub record HasColumnNumbers (e : SpriteEntry) : Type 0 where
  pub first_least : pos 0 ≤ℤ e.first
  pub first_greatest : e.first <ℤ pos (2 ^ 16)
  pub last_least : pos 0 ≤ℤ e.last
  pub last_greatest : e.last <ℤ pos (2 ^ 16)

numbers_of : (first last : ℤ) (width : ℕ) → width ≤ 320 → int_le (pos 0) first ≡ true → int_lt last (pos width) ≡ true → first ≤ℤ last →
    (pos 0 ≤ℤ first) × (first <ℤ pos (2 ^ 16)) × (pos 0 ≤ℤ last) × (last <ℤ pos (2 ^ 16))
numbers_of first last width l a b o = (grind (arith, ints), grind (arith, ints), grind (arith, ints), grind (arith, ints))

pub entry-numbers : (e : SpriteEntry) (width : ℕ) → width ≤ 320 → lies_within width e ≡ true → e.first ≤ℤ e.last → HasColumnNumbers e
unfolding lies_within
entry-numbers e width l h o =
    let bounds = and_parts (int_le (pos 0) e.first) (int_lt e.last (pos width)) h in
    let numbers = numbers_of e.first e.last width l bounds.0 bounds.1 o in
    record { first_least = numbers.0; first_greatest = numbers.1; last_least = numbers.2; last_greatest = numbers.3 }

last_of : (last : ℤ) (n width : ℕ) → int_lt last (pos width) ≡ true → last ≡ pos n → n < width
last_of last n width h e = grind (arith, ints)

pub entry-within : (e : SpriteEntry) (width last : ℕ) → lies_within width e ≡ true → e.last ≡ pos last → last < width
unfolding lies_within
entry-within e width last h f = last_of e.last last width (and_parts (int_le (pos 0) e.first) (int_lt e.last (pos width)) h).1 f

pub ordered-numbers : (a b : ℤ) (first last : ℕ) → a ≡ pos first → b ≡ pos last → a ≤ℤ b → first ≤ last
ordered-numbers a b first last e f o = grind (arith, ints)

between_of : (first last x : ℕ) → (int_le (pos first) (pos x) && int_le (pos x) (pos last)) ≡ (nat_le first x && nat_lt x (last + 1))
between_of first last x = grind (arith, ints, nat_tests)

-- a sprite has the columns from its first to its last
pub entry-between : (e : SpriteEntry) (first last x : ℕ) → e.first ≡ pos first → e.last ≡ pos last → entry_has e x ≡ is_between first last x
unfolding entry_has
entry-between e first last x f l =
    ap (λ (z : ℤ). int_le z (pos x) && int_le (pos x) e.last) f ∙ ap (λ (z : ℤ). int_le (pos first) (pos x) && int_le (pos x) z) l ∙ between_of first last x

-- where the fragment misses the sprite, or does nothing
off_left : (first last a b x : ℕ) → (last < a) ⊎ (b < first) → a ≤ x → x ≤ b → is_between first last x ≡ false
off_left first last a b x (inl h) l m = grind (arith, nat_tests)
off_left first last a b x (inr h) l m = grind (arith, nat_tests)

no_passed : (e : SpriteEntry) (d : FragmentNote) (drawseg : Drawseg) (first last x : ℕ) → e.first ≡ pos first → e.last ≡ pos last →
    (last < d.first) ⊎ (d.last < first) → d.first ≤ x → x ≤ d.last → is_passed e drawseg x ≡ false
no_passed e d drawseg first last x f l h a b =
    and-false_left (entry_has e x) (is_behind drawseg e) (entry-between e first last x f l ∙ off_left first last d.first d.last x h a b)

own_plain : (d : FragmentNote) (gives : ℕ → Bool) (marks : List Bool) (masked : Option ℕ) → masked ≡ None → AreOwnMarked d gives marks marks masked
own_plain d gives marks masked e = let WithMasked : Option ℕ → Type 0 = λ o. AreOwnMarked d gives marks marks o in subst WithMasked (sym e) tt

marks_plain : (d : FragmentNote) (gives : ℕ → Bool) (marks : List Bool) → d.masked ≡ None → MarksBy d gives marks marks
marks_plain d gives marks e = record { own = own_plain d gives marks d.masked e; others = λ p o. refl }

pub misses-marks : (e : SpriteEntry) (d : FragmentNote) (drawseg : Drawseg) (first last : ℕ) (marks : List Bool) → e.first ≡ pos first → e.last ≡ pos last →
    MissesColumns d first last → MarksBy d (is_passed e drawseg) marks marks
misses-marks e d drawseg first last marks f l (inl h) = marks-none d (is_passed e drawseg) marks (λ x a b. no_passed e d drawseg first last x f l (inl h) a b)
misses-marks e d drawseg first last marks f l (inr (inl h)) =
    marks-none d (is_passed e drawseg) marks (λ x a b. no_passed e d drawseg first last x f l (inr h) a b)
misses-marks e d drawseg first last marks f l (inr (inr h)) = marks_plain d (is_passed e drawseg) marks h.1

pub misses-strips : (v : ViewValue) (k : ℕ) (e : SpriteEntry) (d : FragmentNote) (drawseg : Drawseg) (first last : ℕ) (marks : List Bool) →
    e.first ≡ pos first → e.last ≡ pos last → MissesColumns d first last → unmarked_strips v marks d (is_passed e drawseg) k drawseg ≡ []
misses-strips v k e d drawseg first last marks f l (inl h) =
    unmarked-none v marks d (is_passed e drawseg) k drawseg (λ x a b. no_passed e d drawseg first last x f l (inl h) a b)
misses-strips v k e d drawseg first last marks f l (inr (inl h)) =
    unmarked-none v marks d (is_passed e drawseg) k drawseg (λ x a b. no_passed e d drawseg first last x f l (inr h) a b)
misses-strips v k e d drawseg first last marks f l (inr (inr h)) = unmarked-plain v marks d (is_passed e drawseg) k drawseg h.1

off_row : (row : ℤ) (old : Option ℤ) (gives : Bool) → gives ≡ false → old ≡ row_after gives row old
off_row row (Some r) gives h = refl
off_row row None gives h = sym (ap (λ (b : Bool). row_after b row None) h)

has_out : (a b first last x : ℕ) → (last < a) ⊎ (b < first) → is_between first last x ≡ true → (nat_le a x && nat_le x b) ≡ false
has_out a b first last x (inl h) t = grind (arith, nat_tests)
has_out a b first last x (inr h) t = grind (arith, nat_tests)

-- in its columns the fragment has none
no_column : (e : SpriteEntry) (d : FragmentNote) (drawseg : Drawseg) (first last x : ℕ) → IsSegOf d drawseg → e.first ≡ pos first → e.last ≡ pos last →
    (last < d.first) ⊎ (d.last < first) → entry_has e x ≡ true → drawseg_has drawseg x ≡ false
unfolding drawseg_has
no_column e d drawseg first last x s f l h t =
    ap (λ (a : ℕ). nat_le a x && nat_le x drawseg.last) s.first ∙ ap (λ (b : ℕ). nat_le d.first x && nat_le x b) s.last
    ∙ has_out d.first d.last first last x h (sym (entry-between e first last x f l) ∙ t)

no_bottom : (e : SpriteEntry) (drawseg : Drawseg) (x : ℕ) → drawseg_has drawseg x ≡ false → gives_bottom e x drawseg ≡ false
unfolding gives_bottom
no_bottom e drawseg x h = and-false_left (drawseg_has drawseg x) (not (is_behind drawseg e) && (drawseg.has_bottom && int_lt e.gz drawseg.bottom_height)) h

no_top : (e : SpriteEntry) (drawseg : Drawseg) (x : ℕ) → drawseg_has drawseg x ≡ false → gives_top e x drawseg ≡ false
unfolding gives_top
no_top e drawseg x h = and-false_left (drawseg_has drawseg x) (not (is_behind drawseg e) && (drawseg.has_top && int_lt drawseg.top_height e.gzt)) h

third_off : (a b c t : Bool) → c ≡ false → (a && (b && (c && t))) ≡ false
third_off true true c t h = ap (λ (z : Bool). z && t) h
third_off true false c t h = refl
third_off false b c t h = refl

plain_bottom : (e : SpriteEntry) (d : FragmentNote) (drawseg : Drawseg) (x : ℕ) → IsSegOf d drawseg → d.silhouette ≡ 0 → gives_bottom e x drawseg ≡ false
unfolding gives_bottom
plain_bottom e d drawseg x s z =
    third_off (drawseg_has drawseg x) (not (is_behind drawseg e)) drawseg.has_bottom (int_lt e.gz drawseg.bottom_height)
    (s.has_bottom ∙ ap (λ (n : ℕ). not (bit_and n SIL_BOTTOM == 0)) z)

plain_top : (e : SpriteEntry) (d : FragmentNote) (drawseg : Drawseg) (x : ℕ) → IsSegOf d drawseg → d.silhouette ≡ 0 → gives_top e x drawseg ≡ false
unfolding gives_top
plain_top e d drawseg x s z =
    third_off (drawseg_has drawseg x) (not (is_behind drawseg e)) drawseg.has_top (int_lt drawseg.top_height e.gzt)
    (s.has_top ∙ ap (λ (n : ℕ). not (bit_and n SIL_TOP == 0)) z)

pub misses-bottom : (e : SpriteEntry) (d : FragmentNote) (drawseg : Drawseg) (first last x : ℕ) (row : ℤ) (old : Option ℤ) → IsSegOf d drawseg →
    e.first ≡ pos first → e.last ≡ pos last → MissesColumns d first last → entry_has e x ≡ true → old ≡ row_after (gives_bottom e x drawseg) row old
misses-bottom e d drawseg first last x row old s f l (inl h) t =
    off_row row old (gives_bottom e x drawseg) (no_bottom e drawseg x (no_column e d drawseg first last x s f l (inl h) t))
misses-bottom e d drawseg first last x row old s f l (inr (inl h)) t =
    off_row row old (gives_bottom e x drawseg) (no_bottom e drawseg x (no_column e d drawseg first last x s f l (inr h) t))
misses-bottom e d drawseg first last x row old s f l (inr (inr h)) t = off_row row old (gives_bottom e x drawseg) (plain_bottom e d drawseg x s h.0)

pub misses-top : (e : SpriteEntry) (d : FragmentNote) (drawseg : Drawseg) (first last x : ℕ) (row : ℤ) (old : Option ℤ) → IsSegOf d drawseg →
    e.first ≡ pos first → e.last ≡ pos last → MissesColumns d first last → entry_has e x ≡ true → old ≡ row_after (gives_top e x drawseg) row old
misses-top e d drawseg first last x row old s f l (inl h) t =
    off_row row old (gives_top e x drawseg) (no_top e drawseg x (no_column e d drawseg first last x s f l (inl h) t))
misses-top e d drawseg first last x row old s f l (inr (inl h)) t =
    off_row row old (gives_top e x drawseg) (no_top e drawseg x (no_column e d drawseg first last x s f l (inr h) t))
misses-top e d drawseg first last x row old s f l (inr (inr h)) t = off_row row old (gives_top e x drawseg) (plain_top e d drawseg x s h.0)

-- where the fragment is behind the sprite: it gives no clip, and its columns are those of both
second_off : (a b c : Bool) → b ≡ true → (a && (not b && c)) ≡ false
second_off true b c h = ap (λ (z : Bool). not z && c) h
second_off false b c h = refl

pub behind-bottom : (e : SpriteEntry) (drawseg : Drawseg) (x : ℕ) (row : ℤ) (old : Option ℤ) → is_behind drawseg e ≡ true →
    old ≡ row_after (gives_bottom e x drawseg) row old
unfolding gives_bottom
behind-bottom e drawseg x row old b = off_row row old (gives_bottom e x drawseg) (second_off (drawseg_has drawseg x) (is_behind drawseg e) (drawseg.has_bottom && int_lt e.gz drawseg.bottom_height) b)

pub behind-top : (e : SpriteEntry) (drawseg : Drawseg) (x : ℕ) (row : ℤ) (old : Option ℤ) → is_behind drawseg e ≡ true →
    old ≡ row_after (gives_top e x drawseg) row old
unfolding gives_top
behind-top e drawseg x row old b =
    off_row row old (gives_top e x drawseg) (second_off (drawseg_has drawseg x) (is_behind drawseg e) (drawseg.has_top && int_lt drawseg.top_height e.gzt) b)

inner : (first last a b x : ℕ) → a ≤ x → x ≤ b → is_between (max first a) (min last b) x ≡ is_between first last x
inner first last a b x l m = grind (arith, nat_tests)

and_on : (a b : Bool) → b ≡ true → a ≡ (a && b)
and_on true b h = sym h
and_on false b h = refl

passed_here : (e : SpriteEntry) (d : FragmentNote) (drawseg : Drawseg) (first last x : ℕ) → e.first ≡ pos first → e.last ≡ pos last →
    is_behind drawseg e ≡ true → d.first ≤ x → x ≤ d.last → is_between (max first d.first) (min last d.last) x ≡ is_passed e drawseg x
passed_here e d drawseg first last x f l b p q =
    inner first last d.first d.last x p q ∙ sym (entry-between e first last x f l) ∙ and_on (entry_has e x) (is_behind drawseg e) b

pub behind-marks : (e : SpriteEntry) (d : FragmentNote) (drawseg : Drawseg) (first last : ℕ) (old new : List Bool) → e.first ≡ pos first → e.last ≡ pos last →
    is_behind drawseg e ≡ true → MarksBy d (is_between (max first d.first) (min last d.last)) old new → MarksBy d (is_passed e drawseg) old new
behind-marks e d drawseg first last old new f l b h =
    marks-same d (is_between (max first d.first) (min last d.last)) (is_passed e drawseg) old new (λ x p q. passed_here e d drawseg first last x f l b p q) h

pub behind-strips : (v : ViewValue) (k : ℕ) (e : SpriteEntry) (d : FragmentNote) (drawseg : Drawseg) (first last : ℕ) (marks : List Bool) →
    e.first ≡ pos first → e.last ≡ pos last → is_behind drawseg e ≡ true →
    unmarked_strips v marks d (is_between (max first d.first) (min last d.last)) k drawseg ≡ unmarked_strips v marks d (is_passed e drawseg) k drawseg
behind-strips v k e d drawseg first last marks f l b =
    unmarked-same v marks d (is_between (max first d.first) (min last d.last)) (is_passed e drawseg) k drawseg (λ x p q. passed_here e d drawseg first last x f l b p q)

pub front-marks : (e : SpriteEntry) (d : FragmentNote) (drawseg : Drawseg) (marks : List Bool) → is_behind drawseg e ≡ false →
    MarksBy d (is_passed e drawseg) marks marks
front-marks e d drawseg marks b = marks-none d (is_passed e drawseg) marks (λ x p q. and-false_right (entry_has e x) (is_behind drawseg e) b)

pub front-strips : (v : ViewValue) (k : ℕ) (e : SpriteEntry) (d : FragmentNote) (drawseg : Drawseg) (marks : List Bool) →
    is_behind drawseg e ≡ false → unmarked_strips v marks d (is_passed e drawseg) k drawseg ≡ []
front-strips v k e d drawseg marks b =
    unmarked-none v marks d (is_passed e drawseg) k drawseg (λ x p q. and-false_right (entry_has e x) (is_behind drawseg e) b)

has_inner : (a b first last x : ℕ) → is_between first last x ≡ true → is_between (max first a) (min last b) x ≡ (nat_le a x && nat_le x b)
has_inner a b first last x t = grind (arith, nat_tests)

front_has : (e : SpriteEntry) (d : FragmentNote) (drawseg : Drawseg) (first last x : ℕ) → IsSegOf d drawseg → e.first ≡ pos first → e.last ≡ pos last →
    entry_has e x ≡ true → is_between (max first d.first) (min last d.last) x ≡ drawseg_has drawseg x
unfolding drawseg_has
front_has e d drawseg first last x s f l t =
    has_inner d.first d.last first last x (sym (entry-between e first last x f l) ∙ t)
    ∙ sym (ap (λ (a : ℕ). nat_le a x && nat_le x drawseg.last) s.first ∙ ap (λ (b : ℕ). nat_le d.first x && nat_le x b) s.last)

skip_behind : (a b c d : Bool) → b ≡ false → c ≡ d → (a && c) ≡ (a && (not b && d))
skip_behind a b c d h e = ap (λ (z : Bool). a && z) e ∙ sym (ap (λ (z : Bool). a && (not z && d)) h)

-- so it gives a clip in its columns where it has one of that kind
front_gives : (e : SpriteEntry) (d : FragmentNote) (drawseg : Drawseg) (first last x : ℕ) (clips gives : Bool) → IsSegOf d drawseg → e.first ≡ pos first →
    e.last ≡ pos last → entry_has e x ≡ true → is_behind drawseg e ≡ false → clips ≡ gives →
    (is_between (max first d.first) (min last d.last) x && clips) ≡ (drawseg_has drawseg x && (not (is_behind drawseg e) && gives))
front_gives e d drawseg first last x clips gives s f l t b same =
    ap (λ (c : Bool). c && clips) (front_has e d drawseg first last x s f l t) ∙ skip_behind (drawseg_has drawseg x) (is_behind drawseg e) clips gives b same

clips_bottom-seg : (e : SpriteEntry) (d : FragmentNote) (drawseg : Drawseg) → IsSegOf d drawseg →
    clips_bottom d e ≡ (drawseg.has_bottom && int_lt e.gz drawseg.bottom_height)
clips_bottom-seg e d drawseg s = sym (ap (λ (c : Bool). c && int_lt e.gz drawseg.bottom_height) s.has_bottom ∙ ap (λ (y : ℤ). not (bit_and d.silhouette SIL_BOTTOM == 0) && int_lt e.gz y) s.bottom_height)

clips_top-seg : (e : SpriteEntry) (d : FragmentNote) (drawseg : Drawseg) → IsSegOf d drawseg →
    clips_top d e ≡ (drawseg.has_top && int_lt drawseg.top_height e.gzt)
clips_top-seg e d drawseg s = sym (ap (λ (c : Bool). c && int_lt drawseg.top_height e.gzt) s.has_top ∙ ap (λ (y : ℤ). not (bit_and d.silhouette SIL_TOP == 0) && int_lt y e.gzt) s.top_height)

pub front-bottom : (e : SpriteEntry) (d : FragmentNote) (drawseg : Drawseg) (first last x : ℕ) (row : ℤ) (old new : Option ℤ) → IsSegOf d drawseg →
    e.first ≡ pos first → e.last ≡ pos last → entry_has e x ≡ true → is_behind drawseg e ≡ false →
    new ≡ row_after (is_between (max first d.first) (min last d.last) x && clips_bottom d e) row old → new ≡ row_after (gives_bottom e x drawseg) row old
unfolding gives_bottom
front-bottom e d drawseg first last x row old new s f l t b h =
    h ∙ ap (λ (c : Bool). row_after c row old) (front_gives e d drawseg first last x _ _ s f l t b (clips_bottom-seg e d drawseg s))

pub front-top : (e : SpriteEntry) (d : FragmentNote) (drawseg : Drawseg) (first last x : ℕ) (row : ℤ) (old new : Option ℤ) → IsSegOf d drawseg →
    e.first ≡ pos first → e.last ≡ pos last → entry_has e x ≡ true → is_behind drawseg e ≡ false →
    new ≡ row_after (is_between (max first d.first) (min last d.last) x && clips_top d e) row old → new ≡ row_after (gives_top e x drawseg) row old
unfolding gives_top
front-top e d drawseg first last x row old new s f l t b h =
    h ∙ ap (λ (c : Bool). row_after c row old) (front_gives e d drawseg first last x _ _ s f l t b (clips_top-seg e d drawseg s))
