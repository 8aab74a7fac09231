-- Laws of a fragment that a sprite, or the end of the pass, comes to: the unmarked columns are those of the moment, and what is marked after it.
use Rattle.picture_rules.proofs.Common.{and-false_left, ap, arith, Bool, cases_lt, cond, false, filter, IfSome, inl, inr, is_some, length, List, nat_lt, nat_tests, None, not, Option, refl, slice_get, Some, subst, sym, true, ℕ, ◌&&◌, ◌+◌, ◌-◌, ◌<◌, ◌||◌, ◌∙◌, ◌≡◌, ◌≢◌, ◌≤◌, ◌⊎◌}
use Rattle.masked_draw.specs.Rules.{Drawseg, FragmentNote, ListsApart, SpriteEntry, ViewValue, columns_at, joined_lists, listed_from, same_number, sprite_in_front}
use Rattle.masked_draw.specs.Strips.{masked_column_strips, moment_strips}
use Rattle.masked_draw.specs.Marks.{mark_of, unmarked_by, unmarked_strips, is_between, is_passed, is_before, IsOutside, MarksBy, AreBefore, MarkedTo}
use Rattle.masked_draw.proofs.MomentLemmas.{front-now, front-more, front-left}
use Rattle.masked_draw.proofs.MarkLemmas.{range_agree, range_none, own_at}

-- a drawn fragment has the columns of its note
pub record HasColumnsOf (d : FragmentNote) (drawseg : Drawseg) : Type 0 where
  pub first : drawseg.first ≡ d.first
  pub last : drawseg.last ≡ d.last
  pub masked : drawseg.masked ≡ is_some d.masked

on_and : (a b : Bool) → a ≡ true → (a && b) ≡ b
on_and a b h = ap (λ (z : Bool). z && b) h

-- the columns of a fragment at a moment, by what is not marked
columns_of_moment : (marks : List Bool) (es : List SpriteEntry) (moment : Option ℕ) (d : FragmentNote) (drawseg : Drawseg) (gives : ℕ → Bool) (masked : Option ℕ) → drawseg.masked ≡ is_some masked →
    ((place x : ℕ) → masked ≡ Some place → d.first ≤ x → x ≤ d.last → (not (mark_of marks d place x) && gives x) ≡ same_number (sprite_in_front es drawseg x) moment) →
    unmarked_by marks d gives masked ≡ filter (λ x. drawseg.masked && same_number (sprite_in_front es drawseg x) moment) (listed_from (λ x. x) d.first d.last)
unfolding unmarked_by listed_from
columns_of_moment marks es moment d drawseg gives None e h =
    sym (range_none (λ x. drawseg.masked && same_number (sprite_in_front es drawseg x) moment) d.first (d.last + 1 - d.first)
    (λ x l m. and-false_left drawseg.masked (same_number (sprite_in_front es drawseg x) moment) e))
columns_of_moment marks es moment d drawseg gives (Some place) e h =
    range_agree (λ x. not (mark_of marks d place x) && gives x) (λ x. drawseg.masked && same_number (sprite_in_front es drawseg x) moment) d.first (d.last + 1 - d.first)
    (λ x l m. h place x refl l (omega arith) ∙ sym (on_and drawseg.masked (same_number (sprite_in_front es drawseg x) moment) e))

columns_moved : (es : List SpriteEntry) (moment : Option ℕ) (drawseg : Drawseg) (first last : ℕ) → drawseg.first ≡ first → drawseg.last ≡ last →
    filter (λ x. drawseg.masked && same_number (sprite_in_front es drawseg x) moment) (listed_from (λ x. x) first last) ≡ columns_at es moment drawseg
unfolding columns_at
columns_moved es moment drawseg first last e f =
    ap (λ (a : ℕ). filter (λ x. drawseg.masked && same_number (sprite_in_front es drawseg x) moment) (listed_from (λ x. x) a last)) (sym e)
    ∙ ap (λ (b : ℕ). filter (λ x. drawseg.masked && same_number (sprite_in_front es drawseg x) moment) (listed_from (λ x. x) drawseg.first b)) (sym f)

strips_of_moment : (v : ViewValue) (marks : List Bool) (es : List SpriteEntry) (moment : Option ℕ) (k : ℕ) (d : FragmentNote) (drawseg : Drawseg) (gives : ℕ → Bool) → HasColumnsOf d drawseg →
    ((place x : ℕ) → d.masked ≡ Some place → d.first ≤ x → x ≤ d.last → (not (mark_of marks d place x) && gives x) ≡ same_number (sprite_in_front es drawseg x) moment) →
    unmarked_strips v marks d gives k drawseg ≡ moment_strips v es moment k (Some drawseg)
unfolding unmarked_strips moment_strips
strips_of_moment v marks es moment k d drawseg gives a h =
    ap (joined_lists (masked_column_strips v k drawseg))
    (columns_of_moment marks es moment d drawseg gives d.masked a.masked h ∙ columns_moved es moment drawseg d.first d.last a.first a.last)

-- the mark of one column of a note
before_at : (seg : FragmentNote → Drawseg) (es : List SpriteEntry) (marks : List Bool) (d : FragmentNote) (i place : ℕ) (masked : Option ℕ) →
    masked ≡ Some place → AreBefore seg es marks d i masked → (x : ℕ) → d.first ≤ x → x ≤ d.last →
    mark_of marks d place x ≡ is_before (sprite_in_front es (seg d) x) i
before_at seg es marks d i place masked e a = let WithMasked : Option ℕ → Type 0 = λ o. AreBefore seg es marks d i o in subst WithMasked e a

-- the marks of one of the notes
note_at : (seg : FragmentNote → Drawseg) (notes : List FragmentNote) (es : List SpriteEntry) (n : ℕ) (turn : ℕ → ℕ) (marks : List Bool) (k : ℕ) (d : FragmentNote) → MarkedTo seg notes es n turn marks → k < n → slice_get notes k ≡ Some d → AreBefore seg es marks d (turn k) d.masked
note_at seg notes es n turn marks k d h l e =
    let OfNote : Option FragmentNote → Type 0 = λ o. IfSome o (λ d. AreBefore seg es marks d (turn k) d.masked) in subst OfNote e (h.at k l)

-- the unmarked columns of a fragment behind a sprite are those of its moment
pub passed-middles : (v : ViewValue) (seg : FragmentNote → Drawseg) (notes : List FragmentNote) (es : List SpriteEntry) (n : ℕ) (turn : ℕ → ℕ)
    (marks : List Bool) (k i : ℕ) (d : FragmentNote) (e : SpriteEntry) →
    HasColumnsOf d (seg d) → MarkedTo seg notes es n turn marks → k < n → slice_get notes k ≡ Some d → turn k ≡ i → i < length es → slice_get es i ≡ Some e →
    unmarked_strips v marks d (is_passed e (seg d)) k (seg d) ≡ moment_strips v es (Some i) k (Some (seg d))
passed-middles v seg notes es n turn marks k i d e a h l g t m f =
    let AtTurn : ℕ → Type 0 = λ j. AreBefore seg es marks d j d.masked in
    let marked_before : AreBefore seg es marks d i d.masked = subst AtTurn t (note_at seg notes es n turn marks k d h l g) in
    strips_of_moment v marks es (Some i) k d (seg d) (is_passed e (seg d)) a
    (λ place x s p q. ap (λ (z : Bool). not z && is_passed e (seg d) x) (before_at seg es marks d i place d.masked s marked_before x p q) ∙ sym (front-now es (seg d) x i e m f))

between_all : (first last x : ℕ) → first ≤ x → x ≤ last → is_between first last x ≡ true
between_all first last x l m = grind (arith, nat_tests)

and_yes : (a b : Bool) → b ≡ true → (a && b) ≡ a
and_yes true b h = h
and_yes false b h = refl

-- those of a fragment that are left after all sprites
pub left-middles : (v : ViewValue) (seg : FragmentNote → Drawseg) (notes : List FragmentNote) (es : List SpriteEntry) (n : ℕ) (turn : ℕ → ℕ)
    (marks : List Bool) (k : ℕ) (d : FragmentNote) →
    HasColumnsOf d (seg d) → MarkedTo seg notes es n turn marks → k < n → slice_get notes k ≡ Some d → turn k ≡ length es →
    unmarked_strips v marks d (is_between d.first d.last) k (seg d) ≡ moment_strips v es None k (Some (seg d))
left-middles v seg notes es n turn marks k d a h l g t =
    let AtTurn : ℕ → Type 0 = λ j. AreBefore seg es marks d j d.masked in
    let marked_before : AreBefore seg es marks d (length es) d.masked = subst AtTurn t (note_at seg notes es n turn marks k d h l g) in
    strips_of_moment v marks es None k d (seg d) (is_between d.first d.last) a
    (λ place x s p q. and_yes (not (mark_of marks d place x)) (is_between d.first d.last x) (between_all d.first d.last x p q)
    ∙ ap not (before_at seg es marks d (length es) place d.masked s marked_before x p q) ∙ sym (front-left es (seg d) x))

-- places of different notes are apart
outside_low : (d e : FragmentNote) (other x : ℕ) (masked : Option ℕ) → d.first ≤ x → x ≤ d.last → (place : ℕ) → ListsApart d (Some place) masked →
    IsOutside e masked (place + (x - d.first))
outside_low d e other x None l m place h = tt
outside_low d e other x (Some start) l m place h = inl (omega (arith, h))

outside_high : (d e : FragmentNote) (x : ℕ) (masked : Option ℕ) → d.first ≤ x → x ≤ d.last → (place : ℕ) → ListsApart e masked (Some place) →
    IsOutside e masked (place + (x - d.first))
outside_high d e x None l m place h = tt
outside_high d e x (Some start) l m place h = inr (omega (arith, h))

-- the notes' lists are apart
pub record ApartNotes (notes : List FragmentNote) : Type 0 where
  pub at : (i k : ℕ) → i < k → IfSome (slice_get notes i) (λ d. IfSome (slice_get notes k) (λ e. ListsApart d d.masked e.masked))

-- the lists of two notes are apart
pair_at : (notes : List FragmentNote) (i k : ℕ) (d e : FragmentNote) → ApartNotes notes → i < k → slice_get notes i ≡ Some d → slice_get notes k ≡ Some e →
    ListsApart d d.masked e.masked
pair_at notes i k d e h l f g =
    let OfLower : Option FragmentNote → Type 0 = λ o. IfSome o (λ d. IfSome (slice_get notes k) (λ e. ListsApart d d.masked e.masked)) in
    let OfHigher : Option FragmentNote → Type 0 = λ o. IfSome o (λ e. ListsApart d d.masked e.masked) in
    subst OfHigher g (subst OfLower f (h.at i k l))

masked_left : (d e : FragmentNote) (place : ℕ) (masked : Option ℕ) → d.masked ≡ Some place → ListsApart d d.masked masked → ListsApart d (Some place) masked
masked_left d e place masked f h = let WithMasked : Option ℕ → Type 0 = λ o. ListsApart d o masked in subst WithMasked f h

masked_right : (d e : FragmentNote) (place : ℕ) (masked : Option ℕ) → d.masked ≡ Some place → ListsApart e masked d.masked → ListsApart e masked (Some place)
masked_right d e place masked f h = let WithMasked : Option ℕ → Type 0 = λ o. ListsApart e masked o in subst WithMasked f h

other_outside : (notes : List FragmentNote) (j k : ℕ) (d e : FragmentNote) → ApartNotes notes → j ≢ k → slice_get notes j ≡ Some d →
    slice_get notes k ≡ Some e → (place x : ℕ) → d.masked ≡ Some place → d.first ≤ x → x ≤ d.last → IsOutside e e.masked (place + (x - d.first))
other_outside notes j k d e h ne f g place x s l m = elim (cases_lt j k) [
  | inl a ↦ outside_low d e 0 x e.masked l m place (masked_left d e place e.masked s (pair_at notes j k d e h a f g))
  | inr b ↦ outside_high d e x e.masked l m place (masked_right d e place e.masked s (pair_at notes k j e d h (omega arith) g f))
]

before_from : (seg : FragmentNote → Drawseg) (es : List SpriteEntry) (marks : List Bool) (d : FragmentNote) (i : ℕ) (masked : Option ℕ) →
    ((place x : ℕ) → masked ≡ Some place → d.first ≤ x → x ≤ d.last → mark_of marks d place x ≡ is_before (sprite_in_front es (seg d) x) i) →
    AreBefore seg es marks d i masked
before_from seg es marks d i None h = tt
before_from seg es marks d i (Some place) h = λ x l m. h place x refl l m

-- a note that was not come to keeps its marks
other_before : (seg : FragmentNote → Drawseg) (notes : List FragmentNote) (es : List SpriteEntry) (old new : List Bool) (gives : ℕ → Bool) (j k i : ℕ) (d e : FragmentNote) → ApartNotes notes → j ≢ k → slice_get notes j ≡ Some d → slice_get notes k ≡ Some e →
    MarksBy e gives old new → AreBefore seg es old d i d.masked → AreBefore seg es new d i d.masked
other_before seg notes es old new gives j k i d e h ne f g w b =
    before_from seg es new d i d.masked (λ place x s l m.
    w.others (place + (x - d.first)) (other_outside notes j k d e h ne f g place x s l m) ∙ before_at seg es old d i place d.masked s b x l m)

-- the note that was come to has the marks of one sprite more
own_before : (seg : FragmentNote → Drawseg) (es : List SpriteEntry) (old new : List Bool) (i : ℕ) (d : FragmentNote) (e : SpriteEntry) → i < length es →
    slice_get es i ≡ Some e → MarksBy d (is_passed e (seg d)) old new → AreBefore seg es old d i d.masked → AreBefore seg es new d (i + 1) d.masked
own_before seg es old new i d e l f w b =
    before_from seg es new d (i + 1) d.masked (λ place x s p q.
    own_at d (is_passed e (seg d)) old new place d.masked s w.own x p q
    ∙ ap (λ (z : Bool). z || is_passed e (seg d) x) (before_at seg es old d i place d.masked s b x p q)
    ∙ sym (front-more es (seg d) x i e l f))

if_some : {X : Type 0} (P : X → Type 0) (o : Option X) → ((x : X) → o ≡ Some x → P x) → IfSome o P
if_some P None h = tt
if_some P (Some x) h = h x refl

-- the turn of each note where those from m on had sprite i
abbrev pub turn_at : ℕ → ℕ → ℕ → ℕ
turn_at i m k = cond (nat_lt k m) i (i + 1)

turn_low : (i m k : ℕ) → k < m → turn_at i m k ≡ i
turn_low i m k l = grind (arith, nat_tests)

turn_high : (i m k : ℕ) → m ≤ k → turn_at i m k ≡ i + 1
turn_high i m k l = grind (arith, nat_tests)

turn_same : (i m k : ℕ) → k ≢ m → turn_at i (m + 1) k ≡ turn_at i m k
turn_same i m k l = grind (arith, nat_tests)

same_some : {X : Type 0} (d e : X) (o : Option X) → o ≡ Some d → o ≡ Some e → d ≡ e
same_some d e o f g = cc

-- the marks of a note after one was come to: its own, or as they were
pass_note : (seg : FragmentNote → Drawseg) (notes : List FragmentNote) (es : List SpriteEntry) (n : ℕ) (old new : List Bool) (i m : ℕ) (d : FragmentNote)
    (e : SpriteEntry) →
    ApartNotes notes → slice_get notes m ≡ Some d → m < n → i < length es → slice_get es i ≡ Some e → MarksBy d (is_passed e (seg d)) old new →
    MarkedTo seg notes es n (turn_at i (m + 1)) old → (k : ℕ) → k < n → (c : FragmentNote) → slice_get notes k ≡ Some c → (k < m) ⊎ (m ≤ k) →
    AreBefore seg es new c (turn_at i m k) c.masked
pass_note seg notes es n old new i m d e a g b l f w h k s c r (inl low) =
    let index_differs : k ≢ m = omega arith in
    let AtTurn : ℕ → Type 0 = λ j. AreBefore seg es new c j c.masked in
    subst AtTurn (turn_same i m k index_differs) (other_before seg notes es old new (is_passed e (seg d)) k m (turn_at i (m + 1) k) c d a index_differs r g w (note_at seg notes es n (turn_at i (m + 1)) old k c h s r))
pass_note seg notes es n old new i m d e a g b l f w h k s c r (inr high) = elim (cases_lt m k) [
  | inl up ↦
      let index_differs : k ≢ m = omega arith in
      let AtTurn : ℕ → Type 0 = λ j. AreBefore seg es new c j c.masked in
      subst AtTurn (turn_same i m k index_differs) (other_before seg notes es old new (is_passed e (seg d)) k m (turn_at i (m + 1) k) c d a index_differs r g w (note_at seg notes es n (turn_at i (m + 1)) old k c h s r))
  | inr here ↦
      let numbers_same : m ≡ k = omega arith in
      let OldAtTurn : ℕ → Type 0 = λ j. AreBefore seg es old d j d.masked in
      let are_before_turn : AreBefore seg es old d i d.masked = subst OldAtTurn (turn_low i (m + 1) m (omega arith)) (note_at seg notes es n (turn_at i (m + 1)) old m d h b g) in
      let now : AreBefore seg es new d (i + 1) d.masked = own_before seg es old new i d e l f w are_before_turn in
      let notes_same : d ≡ c = same_some d c (slice_get notes k) (ap (slice_get notes) (sym numbers_same) ∙ g) r in
      let AtTurn : ℕ → Type 0 = λ j. AreBefore seg es new c j c.masked in
      let OfNote : FragmentNote → Type 0 = λ z. AreBefore seg es new z (i + 1) z.masked in
      subst AtTurn (sym (turn_high i m k high)) (subst OfNote notes_same now)
]

-- one note more had its turn
pub marked-pass : (seg : FragmentNote → Drawseg) (notes : List FragmentNote) (es : List SpriteEntry) (n : ℕ) (old new : List Bool) (i m : ℕ) (d : FragmentNote)
    (e : SpriteEntry) →
    ApartNotes notes → slice_get notes m ≡ Some d → m < n → i < length es → slice_get es i ≡ Some e → MarksBy d (is_passed e (seg d)) old new →
    MarkedTo seg notes es n (turn_at i (m + 1)) old → MarkedTo seg notes es n (turn_at i m) new
marked-pass seg notes es n old new i m d e a g b l f w h = record {
  at = λ k s. if_some (λ c. AreBefore seg es new c (turn_at i m k) c.masked) (slice_get notes k) (λ c r. pass_note seg notes es n old new i m d e a g b l f w h k s c r (cases_lt k m));
}

-- a note whose own columns were painted last is asked no more
pub marked-left : (seg : FragmentNote → Drawseg) (notes : List FragmentNote) (es : List SpriteEntry) (turn : ℕ → ℕ) (gives : ℕ → Bool) (old new : List Bool)
    (m : ℕ) (d : FragmentNote) →
    ApartNotes notes → slice_get notes m ≡ Some d → MarksBy d gives old new → MarkedTo seg notes es (m + 1) turn old → MarkedTo seg notes es m turn new
marked-left seg notes es turn gives old new m d a g w h = record {
  at = λ k s. if_some (λ c. AreBefore seg es new c (turn k) c.masked) (slice_get notes k) (λ c r.
      let index_differs : k ≢ m = omega arith in
      other_before seg notes es old new gives k m (turn k) c d a index_differs r g w (note_at seg notes es (m + 1) turn old k c h (omega arith) r));
}

-- what is known by some turns is known by equal ones
pub marked-turn : (seg : FragmentNote → Drawseg) (notes : List FragmentNote) (es : List SpriteEntry) (n : ℕ) (turn other : ℕ → ℕ) (marks : List Bool) →
    ((k : ℕ) → k < n → turn k ≡ other k) → MarkedTo seg notes es n turn marks → MarkedTo seg notes es n other marks
marked-turn seg notes es n turn other marks e h = record {
  at = λ k s. let AtTurn : ℕ → Type 0 = λ j. IfSome (slice_get notes k) (λ d. AreBefore seg es marks d j d.masked) in subst AtTurn (e k s) (h.at k s);
}

pub turns-start : (i n k : ℕ) → k < n → i ≡ turn_at i n k
turns-start i n k l = sym (turn_low i n k l)

pub turn-here : (i m : ℕ) → turn_at i (m + 1) m ≡ i
turn-here i m = turn_low i (m + 1) m (omega arith)

pub turns-end : (i k : ℕ) → turn_at i 0 k ≡ i + 1
turns-end i k = turn_high i 0 k (omega arith)
