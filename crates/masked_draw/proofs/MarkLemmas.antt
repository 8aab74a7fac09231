-- Laws of the marks of masked columns, and of the columns that are not marked.
use Rattle.picture_rules.proofs.Common.{[], and-false, ap, append-nil, append_assoc, arith, Bool, cases_lt, cond, false, filter, inl, inr, List, map, nat_le, nat_lt, nat_tests, None, not, Option, range_with_len, refl, Some, subst, suc, sym, true, zero, ℕ, ◌&&◌, ◌++◌, ◌+◌, ◌-◌, ◌<◌, ◌||◌, ◌∙◌, ◌∷◌, ◌≡◌, ◌≢◌, ◌≤◌, ◌⊎◌}
use Rattle.masked_draw.specs.Rules.{Drawseg, FragmentNote, ViewValue, joined_lists, listed_from}
use Rattle.brush.specs.Strips.{Strip}
use Rattle.masked_draw.specs.Strips.{masked_column_strips}
use Rattle.picture_rules.proofs.Laws.{joined_lists-append}
use Rattle.masked_draw.specs.Marks.{mark_in, mark_of, unmarked_by, unmarked_strips, IsOutside, AreOwnMarked, MarksBy}

-- filters over a range
pub range_agree : (p q : ℕ → Bool) (a n : ℕ) → ((x : ℕ) → a ≤ x → x < a + n → p x ≡ q x) →
    filter p (map (λ x. x) (range_with_len a n)) ≡ filter q (map (λ x. x) (range_with_len a n))
range_agree p q a zero h = refl
range_agree p q a (suc n) h =
    ap (λ (b : Bool). cond b (a ∷ filter p (map (λ x. x) (range_with_len (a + 1) n))) (filter p (map (λ x. x) (range_with_len (a + 1) n)))) (h a (omega arith) (omega arith))
    ∙ ap (λ (xs : List ℕ). cond (q a) (a ∷ xs) xs) (range_agree p q (a + 1) n (λ x l m. h x (omega arith) (omega arith)))

pub range_none : (p : ℕ → Bool) (a n : ℕ) → ((x : ℕ) → a ≤ x → x < a + n → p x ≡ false) → filter p (map (λ x. x) (range_with_len a n)) ≡ []
range_none p a zero h = refl
range_none p a (suc n) h =
    ap (λ (b : Bool). cond b (a ∷ filter p (map (λ x. x) (range_with_len (a + 1) n))) (filter p (map (λ x. x) (range_with_len (a + 1) n)))) (h a (omega arith) (omega arith))
    ∙ range_none p (a + 1) n (λ x l m. h x (omega arith) (omega arith))

-- the columns below x that pass, and then x
up_to : (ℕ → Bool) → ℕ → ℕ → ℕ → Bool
up_to q from x y = q y && (nat_le from y && nat_lt y x)

here : (b : Bool) → (b && (true && true)) ≡ b
here true = refl
here false = refl

up_at : (q : ℕ → Bool) (from x : ℕ) → from ≤ x → up_to q from (x + 1) x ≡ q x
unfolding up_to
up_at q from x l =
    let from_reached : nat_le from x ≡ true = grind (arith, nat_tests) in
    let before_next : nat_lt x (x + 1) ≡ true = grind (arith, nat_tests) in
    rw (from_reached, before_next) (here (q x))

both_no : (b c : Bool) → (b && (c && false)) ≡ false
both_no true true = refl
both_no true false = refl
both_no false c = refl

up_past : (q : ℕ → Bool) (from x y : ℕ) → x ≤ y → up_to q from x y ≡ false
unfolding up_to
up_past q from x y l =
    let not_below : nat_lt y x ≡ false = grind (arith, nat_tests) in
    rw not_below (both_no (q y) (nat_le from y))

up_below : (q : ℕ → Bool) (from x y : ℕ) → y < x → up_to q from (x + 1) y ≡ up_to q from x y
unfolding up_to
up_below q from x y l =
    let is_below : nat_lt y x ≡ true = grind (arith, nat_tests) in
    let below_next : nat_lt y (x + 1) ≡ true = grind (arith, nat_tests) in
    rw (is_below, below_next) refl

one_more_at : (q : ℕ → Bool) (from x n : ℕ) → from ≤ x → filter (up_to q from (x + 1)) (map (λ x. x) (range_with_len x (suc n))) ≡ filter (up_to q from x) (map (λ x. x) (range_with_len x (suc n))) ++ cond (q x) (x ∷ []) []
one_more_at q from x n l =
    let with_it = up_to q from (x + 1) in
    let without_it = up_to q from x in
    let columns_after : List ℕ = map (λ x. x) (range_with_len (x + 1) n) in
    let no_later_column = range_none with_it (x + 1) n (λ y a b. up_past q from (x + 1) y a) in
    let none_g = range_none without_it x (suc n) (λ y a b. up_past q from x y a) in
    ap (λ (b : Bool). cond b (x ∷ filter with_it columns_after) (filter with_it columns_after)) (up_at q from x l)
    ∙ ap (λ (xs : List ℕ). cond (q x) (x ∷ xs) xs) no_later_column
    ∙ sym (ap (λ (xs : List ℕ). xs ++ cond (q x) (x ∷ []) []) none_g)

head_append : (b : Bool) (a : ℕ) (xs ys zs : List ℕ) → xs ≡ ys ++ zs → cond b (a ∷ xs) xs ≡ cond b (a ∷ ys) ys ++ zs
head_append true a xs ys zs h = ap (λ (l : List ℕ). a ∷ l) h
head_append false a xs ys zs h = h

-- one column more at the end of those that were asked
one_more : (q : ℕ → Bool) (from x a n : ℕ) → from ≤ x → a ≤ x → x < a + n →
    filter (up_to q from (x + 1)) (map (λ x. x) (range_with_len a n)) ≡ filter (up_to q from x) (map (λ x. x) (range_with_len a n)) ++ cond (q x) (x ∷ []) []
one_more q from x a zero l m r = absurd (omega arith)
one_more q from x a (suc n) l m r = elim (cases_lt a x) [
  | inl s ↦
      let with_it = up_to q from (x + 1) in
      let without_it = up_to q from x in
      ap (λ (b : Bool). cond b (a ∷ filter with_it (map (λ x. x) (range_with_len (a + 1) n))) (filter with_it (map (λ x. x) (range_with_len (a + 1) n)))) (up_below q from x a s)
      ∙ head_append (without_it a) a (filter with_it (map (λ x. x) (range_with_len (a + 1) n))) (filter without_it (map (λ x. x) (range_with_len (a + 1) n))) (cond (q x) (x ∷ []) []) (one_more q from x (a + 1) n l (omega arith) (omega arith))
  | inr s ↦
      let is_start : x ≡ a = omega arith in
      subst (λ (z : ℕ). filter (up_to q from (x + 1)) (map (λ x. x) (range_with_len z (suc n))) ≡ filter (up_to q from x) (map (λ x. x) (range_with_len z (suc n))) ++ cond (q x) (x ∷ []) []) is_start (one_more_at q from x n l)
]

unmarked_same : (marks : List Bool) (d : FragmentNote) (gives other : ℕ → Bool) (masked : Option ℕ) → ((x : ℕ) → d.first ≤ x → x ≤ d.last → gives x ≡ other x) →
    unmarked_by marks d gives masked ≡ unmarked_by marks d other masked
unfolding unmarked_by listed_from
unmarked_same marks d gives other None h = refl
unmarked_same marks d gives other (Some place) h =
    range_agree (λ x. not (mark_of marks d place x) && gives x) (λ x. not (mark_of marks d place x) && other x) d.first (d.last + 1 - d.first)
    (λ x l m. ap (λ (b : Bool). not (mark_of marks d place x) && b) (h x l (omega arith)))

pub unmarked-same : (v : ViewValue) (marks : List Bool) (d : FragmentNote) (gives other : ℕ → Bool) (k : ℕ) (drawseg : Drawseg) →
    ((x : ℕ) → d.first ≤ x → x ≤ d.last → gives x ≡ other x) → unmarked_strips v marks d gives k drawseg ≡ unmarked_strips v marks d other k drawseg
unfolding unmarked_strips
unmarked-same v marks d gives other k drawseg h = ap (joined_lists (masked_column_strips v k drawseg)) (unmarked_same marks d gives other d.masked h)

unmarked_none : (marks : List Bool) (d : FragmentNote) (gives : ℕ → Bool) (masked : Option ℕ) → ((x : ℕ) → d.first ≤ x → x ≤ d.last → gives x ≡ false) →
    unmarked_by marks d gives masked ≡ []
unfolding unmarked_by listed_from
unmarked_none marks d gives None h = refl
unmarked_none marks d gives (Some place) h =
    range_none (λ x. not (mark_of marks d place x) && gives x) d.first (d.last + 1 - d.first)
    (λ x l m. ap (λ (b : Bool). not (mark_of marks d place x) && b) (h x l (omega arith)) ∙ and-false (not (mark_of marks d place x)))

-- none of them passes
pub unmarked-none : (v : ViewValue) (marks : List Bool) (d : FragmentNote) (gives : ℕ → Bool) (k : ℕ) (drawseg : Drawseg) →
    ((x : ℕ) → d.first ≤ x → x ≤ d.last → gives x ≡ false) → unmarked_strips v marks d gives k drawseg ≡ []
unfolding unmarked_strips joined_lists
unmarked-none v marks d gives k drawseg h = ap (joined_lists (masked_column_strips v k drawseg)) (unmarked_none marks d gives d.masked h)

-- the note is not masked
pub unmarked-plain : (v : ViewValue) (marks : List Bool) (d : FragmentNote) (gives : ℕ → Bool) (k : ℕ) (drawseg : Drawseg) → d.masked ≡ None →
    unmarked_strips v marks d gives k drawseg ≡ []
unfolding unmarked_strips joined_lists unmarked_by
unmarked-plain v marks d gives k drawseg e = ap (λ (m : Option ℕ). joined_lists (masked_column_strips v k drawseg) (unmarked_by marks d gives m)) e

abbrev pub between : ℕ → ℕ → ℕ → Bool
between from x y = nat_le from y && nat_lt y x

unmarked_more : (marks : List Bool) (d : FragmentNote) (place from x : ℕ) → d.first ≤ from → from ≤ x → x ≤ d.last →
    unmarked_by marks d (between from (x + 1)) (Some place)
    ≡ unmarked_by marks d (between from x) (Some place) ++ cond (not (mark_of marks d place x)) (x ∷ []) []
unfolding unmarked_by listed_from up_to
unmarked_more marks d place from x l m r =
    one_more (λ y. not (mark_of marks d place y)) from x d.first (d.last + 1 - d.first) m (omega arith) (omega arith)

joined_cond : (f : ℕ → List Strip) (b : Bool) (x : ℕ) → joined_lists f (cond b (x ∷ []) []) ≡ cond b (f x) []
unfolding joined_lists
joined_cond f true x = append-nil (f x)
joined_cond f false x = refl

-- one column more
pub unmarked-more : (v : ViewValue) (marks : List Bool) (d : FragmentNote) (place from x k : ℕ) (drawseg : Drawseg) → d.masked ≡ Some place →
    d.first ≤ from → from ≤ x → x ≤ d.last →
    unmarked_strips v marks d (between from (x + 1)) k drawseg
    ≡ unmarked_strips v marks d (between from x) k drawseg ++ cond (not (mark_of marks d place x)) (masked_column_strips v k drawseg x) []
unfolding unmarked_strips
unmarked-more v marks d place from x k drawseg e l m r =
    let strips_at = masked_column_strips v k drawseg in
    ap (λ (o : Option ℕ). joined_lists strips_at (unmarked_by marks d (between from (x + 1)) o)) e
    ∙ ap (joined_lists strips_at) (unmarked_more marks d place from x l m r)
    ∙ joined_lists-append strips_at (unmarked_by marks d (between from x) (Some place)) (cond (not (mark_of marks d place x)) (x ∷ []) [])
    ∙ ap (λ ys. joined_lists strips_at (unmarked_by marks d (between from x) (Some place)) ++ ys) (joined_cond strips_at (not (mark_of marks d place x)) x)
    ∙ ap (λ (o : Option ℕ). joined_lists strips_at (unmarked_by marks d (between from x) o) ++ cond (not (mark_of marks d place x)) (strips_at x) []) (sym e)

-- what is left from a column on
unmarked_rest : (v : ViewValue) (marks : List Bool) (d : FragmentNote) (place from x k n : ℕ) (drawseg : Drawseg) → d.masked ≡ Some place → d.first ≤ from → from ≤ x → x + n ≤ d.last + 1 →
    (rest : List Strip) × (unmarked_strips v marks d (between from x) k drawseg ++ rest ≡ unmarked_strips v marks d (between from (x + n)) k drawseg)
unmarked_rest v marks d place from x k zero drawseg e l m r =
    let same : x ≡ x + 0 = omega arith in
    ([], append-nil (unmarked_strips v marks d (between from x) k drawseg) ∙ ap (λ (y : ℕ). unmarked_strips v marks d (between from y) k drawseg) same)
unmarked_rest v marks d place from x k (suc n) drawseg e l m r =
    let next : x + n + 1 ≡ x + suc n = omega arith in
    let before = unmarked_rest v marks d place from x k n drawseg e l m (omega (arith, r)) in
    let own : List Strip = cond (not (mark_of marks d place (x + n))) (masked_column_strips v k drawseg (x + n)) [] in (
      before.0 ++ own,
      sym (append_assoc (unmarked_strips v marks d (between from x) k drawseg) before.0 own) ∙ ap (λ (xs : List Strip). xs ++ own) before.1
          ∙ sym (unmarked-more v marks d place from (x + n) k drawseg e l (omega (arith, m)) (omega (arith, r)))
          ∙ ap (λ (y : ℕ). unmarked_strips v marks d (between from y) k drawseg) next,
    )

pub unmarked-left : (v : ViewValue) (marks : List Bool) (d : FragmentNote) (place from x last k : ℕ) (drawseg : Drawseg) → d.masked ≡ Some place → d.first ≤ from → from ≤ x → x ≤ last → last ≤ d.last →
    (rest : List Strip) × (unmarked_strips v marks d (between from x) k drawseg ++ (cond (not (mark_of marks d place x)) (masked_column_strips v k drawseg x) [] ++ rest) ≡ unmarked_strips v marks d (between from (last + 1)) k drawseg)
unmarked-left v marks d place from x last k drawseg e l m r s =
    let end : x + 1 + (last - x) ≡ last + 1 = omega (arith, r) in
    let after = unmarked_rest v marks d place from (x + 1) k (last - x) drawseg e l (omega (arith, m)) (omega (arith, end, s)) in
    let own : List Strip = cond (not (mark_of marks d place x)) (masked_column_strips v k drawseg x) [] in (
      after.0,
      sym (append_assoc (unmarked_strips v marks d (between from x) k drawseg) own after.0)
          ∙ ap (λ (xs : List Strip). xs ++ after.0) (sym (unmarked-more v marks d place from x k drawseg e l m (omega (arith, r, s))))
          ∙ after.1 ∙ ap (λ (y : ℕ). unmarked_strips v marks d (between from y) k drawseg) end,
    )

-- marks of columns: none, one column more, and another test
or_no : (b : Bool) → b ≡ (b || false)
or_no true = refl
or_no false = refl

or_yes : (b : Bool) → true ≡ (b || true)
or_yes true = refl
or_yes false = refl

own_none : (d : FragmentNote) (gives : ℕ → Bool) (marks : List Bool) (masked : Option ℕ) → ((x : ℕ) → d.first ≤ x → x ≤ d.last → gives x ≡ false) →
    AreOwnMarked d gives marks marks masked
own_none d gives marks None h = tt
own_none d gives marks (Some place) h =
    λ x l m. or_no (mark_of marks d place x) ∙ ap (λ (b : Bool). mark_of marks d place x || b) (sym (h x l m))

pub marks-none : (d : FragmentNote) (gives : ℕ → Bool) (marks : List Bool) → ((x : ℕ) → d.first ≤ x → x ≤ d.last → gives x ≡ false) →
    MarksBy d gives marks marks
marks-none d gives marks h = record { own = own_none d gives marks d.masked h; others = λ p o. refl }

own_same : (d : FragmentNote) (gives other : ℕ → Bool) (old new : List Bool) (masked : Option ℕ) → ((x : ℕ) → d.first ≤ x → x ≤ d.last → gives x ≡ other x) →
    AreOwnMarked d gives old new masked → AreOwnMarked d other old new masked
own_same d gives other old new None h a = tt
own_same d gives other old new (Some place) h a =
    λ x l m. a x l m ∙ ap (λ (b : Bool). mark_of old d place x || b) (h x l m)

pub marks-same : (d : FragmentNote) (gives other : ℕ → Bool) (old new : List Bool) → ((x : ℕ) → d.first ≤ x → x ≤ d.last → gives x ≡ other x) →
    MarksBy d gives old new → MarksBy d other old new
marks-same d gives other old new h a = record { own = own_same d gives other old new d.masked h a.own; others = a.others }

between_none : (from y : ℕ) → between from from y ≡ false
between_none from y = grind (arith, nat_tests)

between_here : (from x : ℕ) → from ≤ x → between from (x + 1) x ≡ true
between_here from x l = grind (arith, nat_tests)

between_past : (from x : ℕ) → between from x x ≡ false
between_past from x = grind (arith, nat_tests)

between_other : (from x y : ℕ) → y ≢ x → between from x y ≡ between from (x + 1) y
between_other from x y h = grind (arith, nat_tests)

pub marks-start : (d : FragmentNote) (from : ℕ) (marks : List Bool) → MarksBy d (between from from) marks marks
marks-start d from marks = marks-none d (between from from) marks (λ x l m. between_none from x)

pub unmarked-start : (v : ViewValue) (marks : List Bool) (d : FragmentNote) (from k : ℕ) (drawseg : Drawseg) →
    unmarked_strips v marks d (between from from) k drawseg ≡ []
unmarked-start v marks d from k drawseg = unmarked-none v marks d (between from from) k drawseg (λ x l m. between_none from x)

pub own_at : (d : FragmentNote) (gives : ℕ → Bool) (old new : List Bool) (place : ℕ) (masked : Option ℕ) → masked ≡ Some place →
    AreOwnMarked d gives old new masked → (x : ℕ) → d.first ≤ x → x ≤ d.last → mark_of new d place x ≡ (mark_of old d place x || gives x)
own_at d gives old new place masked e a = let WithMasked : Option ℕ → Type 0 = λ o. AreOwnMarked d gives old new o in subst WithMasked e a

own_from : (d : FragmentNote) (gives : ℕ → Bool) (old new : List Bool) (place : ℕ) (masked : Option ℕ) → masked ≡ Some place →
    ((x : ℕ) → d.first ≤ x → x ≤ d.last → mark_of new d place x ≡ (mark_of old d place x || gives x)) → AreOwnMarked d gives old new masked
own_from d gives old new place masked e a = let WithMasked : Option ℕ → Type 0 = λ o. AreOwnMarked d gives old new o in subst WithMasked (sym e) a

outside_at : (d : FragmentNote) (p place : ℕ) (masked : Option ℕ) → masked ≡ Some place → IsOutside d masked p →
    (p < place) ⊎ (place + (d.last + 1 - d.first) ≤ p)
outside_at d p place masked e a = let WithMasked : Option ℕ → Type 0 = λ o. IsOutside d o p in subst WithMasked e a

pub outside_not : (d : FragmentNote) (p place x : ℕ) → d.first ≤ x → x ≤ d.last → (p < place) ⊎ (place + (d.last + 1 - d.first) ≤ p) → p ≢ place + (x - d.first)
outside_not d p place x l m (inl a) = omega arith
outside_not d p place x l m (inr b) = omega arith

-- the column that was asked last has its mark as before
pub marks-here : (d : FragmentNote) (place from x : ℕ) (old now : List Bool) → d.masked ≡ Some place → d.first ≤ x → x ≤ d.last →
    MarksBy d (between from x) old now → mark_of now d place x ≡ mark_of old d place x
marks-here d place from x old now e l m h =
    own_at d (between from x) old now place d.masked e h.own x l m
    ∙ ap (λ (b : Bool). mark_of old d place x || b) (between_past from x) ∙ sym (or_no (mark_of old d place x))

more_at : (d : FragmentNote) (place from x y : ℕ) (old now new : List Bool) → d.first ≤ from → from ≤ x → d.first ≤ y →
    mark_of now d place y ≡ (mark_of old d place y || between from x y) →
    mark_of new d place x ≡ true → ((p : ℕ) → p ≢ place + (x - d.first) → mark_in new p ≡ mark_in now p) → (y < x) ⊎ (x ≤ y) →
    mark_of new d place y ≡ (mark_of old d place y || between from (x + 1) y)
more_at d place from x y old now new a l g h t s (inl b) =
    let column_differs : y ≢ x = omega arith in
    let place_differs : place + (y - d.first) ≢ place + (x - d.first) = omega arith in
    s (place + (y - d.first)) place_differs ∙ h ∙ ap (λ (c : Bool). mark_of old d place y || c) (between_other from x y column_differs)
more_at d place from x y old now new a l g h t s (inr b) = elim (cases_lt x y) [
  | inl c ↦
      let column_differs : y ≢ x = omega arith in
      let place_differs : place + (y - d.first) ≢ place + (x - d.first) = omega arith in
      s (place + (y - d.first)) place_differs ∙ h ∙ ap (λ (c : Bool). mark_of old d place y || c) (between_other from x y column_differs)
  | inr c ↦
      let is_same : x ≡ y = omega arith in
      let IsMarkedAt : ℕ → Type 0 = λ z. mark_of new d place z ≡ (mark_of old d place z || between from (x + 1) z) in
      subst IsMarkedAt is_same (t ∙ or_yes (mark_of old d place x) ∙ ap (λ (c : Bool). mark_of old d place x || c) (sym (between_here from x l)))
]

-- one column more is marked
pub marks-more : (d : FragmentNote) (place from x : ℕ) (old now new : List Bool) → d.masked ≡ Some place → d.first ≤ from → from ≤ x → x ≤ d.last →
    MarksBy d (between from x) old now → mark_of new d place x ≡ true → ((p : ℕ) → p ≢ place + (x - d.first) → mark_in new p ≡ mark_in now p) →
    MarksBy d (between from (x + 1)) old new
marks-more d place from x old now new e a l m h t s = record {
  own = own_from d (between from (x + 1)) old new place d.masked e
      (λ y f g. more_at d place from x y old now new a l f (own_at d (between from x) old now place d.masked e h.own y f g) t s (cases_lt y x));
  others = λ p o. s p (outside_not d p place x (omega arith) m (outside_at d p place d.masked e o)) ∙ h.others p o;
}
