-- Laws of ranges that are apart and in order.
use Rattle.word_rules.proofs.Common.{[], ap, arith, Bool, cases_lt, cond, drop, false, get_or, get_or-replicate, inl, inr, length, length-replicate, List, nat_le, nat_lt, nat_tests, refl, replicate, suc, sym, take, true, ℕ, ◌&&◌, ◌*◌, ◌++◌, ◌+◌, ◌<◌, ◌||◌, ◌∙◌, ◌∷◌, ◌≡◌, ◌≤◌}
use Rattle.word_rules.proofs.ListedLemmas.{length-listed, get_or-listed, listed-all}
use Rattle.level_rules.specs.walk.Covered.{cover, is_covered}
use Rattle.level_rules.proofs.walk.CoverLemmas.{length-cover, covered-before, covered-between, covered-after}
use Rattle.node_walk.specs.declared.ranges.Range.{Range}
use Rattle.node_walk.specs.Ranges.{is_in_range, is_within_range, columns_of, are_apart, ends_before, starts_after, ranges_before, union, joined, with_range}

-- the parts of `are_apart`
abbrev pub AreApart : ℕ → ℕ → List Range → Type 0
AreApart j width [] = Unit {0}
AreApart j width (r ∷ rs) = (j ≤ r.first) × (r.first ≤ r.last) × (r.last < width) × AreApart (r.last + 2) width rs

-- four tests that hold together, one by one
four_parts : (a b c d : Bool) → (a && (b && (c && d))) ≡ true → (a ≡ true) × (b ≡ true) × (c ≡ true) × (d ≡ true)
four_parts true true true true e = (refl, refl, refl, refl)
four_parts true true true false e = cc
four_parts true true false d e = cc
four_parts true false c d e = cc
four_parts false b c d e = cc

-- what the test tells
pub apart_parts : (j width : ℕ) (rs : List Range) → are_apart j width rs ≡ true → AreApart j width rs
apart_parts j width [] e = tt
apart_parts j width (r ∷ rs) e =
    let tests_hold = four_parts (nat_le j r.first) (nat_le r.first r.last) (nat_lt r.last width) (are_apart (r.last + 2) width rs) e in
    let from_j : j ≤ r.first = let starts_test : nat_le j r.first ≡ true = tests_hold.0 in grind (arith, nat_tests) in
    let in_order : r.first ≤ r.last = let order_test : nat_le r.first r.last ≡ true = tests_hold.1 in grind (arith, nat_tests) in
    let within_width : r.last < width = let width_test : nat_lt r.last width ≡ true = tests_hold.2 in grind (arith, nat_tests) in
    (from_j, in_order, within_width, apart_parts (r.last + 2) width rs tests_hold.3)

-- four tests that hold, together
four_hold : (a b c d : Bool) → a ≡ true → b ≡ true → c ≡ true → d ≡ true → (a && (b && (c && d))) ≡ true
four_hold a b c d p q r s = rw (p, q, r, s)

-- ranges that are apart pass the test
pub apart_test : (j width : ℕ) (rs : List Range) → AreApart j width rs → are_apart j width rs ≡ true
apart_test j width [] a = refl
apart_test j width (r ∷ rs) a =
    let starts_test : nat_le j r.first ≡ true = (let from_j : j ≤ r.first = a.0 in grind (arith, nat_tests)) in
    let order_test : nat_le r.first r.last ≡ true = (let in_order : r.first ≤ r.last = a.1 in grind (arith, nat_tests)) in
    let width_test : nat_lt r.last width ≡ true = (let within_width : r.last < width = a.2 in grind (arith, nat_tests)) in
    four_hold _ _ _ _ starts_test order_test width_test (apart_test (r.last + 2) width rs a.3)

-- what is apart from a column on is so from one before it
pub apart_from : (i j width : ℕ) (rs : List Range) → i ≤ j → AreApart j width rs → AreApart i width rs
apart_from i j width [] l a = tt
apart_from i j width (r ∷ rs) l a = (omega arith, a.1, a.2, a.3)

-- ranges that are apart in a view are so in a wider one
pub apart_wider : (j width wider : ℕ) (rs : List Range) → width ≤ wider → AreApart j width rs → AreApart j wider rs
apart_wider j width wider [] l a = tt
apart_wider j width wider (r ∷ rs) l a = (a.0, a.1, (let within_width : r.last < width = a.2 in omega arith), apart_wider (r.last + 2) width wider rs l a.3)

-- there are at most half as many ranges as columns
pub length-apart : (j width : ℕ) (rs : List Range) → j ≤ width + 1 → AreApart j width rs → j + 2 * length rs ≤ width + 1
length-apart j width [] l a = omega arith
length-apart j width (r ∷ rs) l a =
    let rest_fits : r.last + 2 + 2 * length rs ≤ width + 1 = length-apart (r.last + 2) width rs (omega arith) a.3 in
    omega arith

-- by whether the first range ends before the new one
split_at : (range r : Range) (rs : List Range) (n : ℕ) (b : Bool) → with_range range rs ≡ take n rs ++ joined range (drop n rs) →
    cond b (r ∷ with_range range rs) (joined range (r ∷ rs)) ≡ take (cond b (suc n) 0) (r ∷ rs) ++ joined range (drop (cond b (suc n) 0) (r ∷ rs))
split_at range r rs n true e = ap (λ (xs : List Range). r ∷ xs) e
split_at range r rs n false e = refl

-- one more range stands behind those that end before it
pub with_range-split : (range : Range) (rs : List Range) →
    with_range range rs ≡ take (ranges_before range.first rs) rs ++ joined range (drop (ranges_before range.first rs) rs)
with_range-split range [] = refl
with_range-split range (r ∷ rs) = split_at range r rs (ranges_before range.first rs) (ends_before range.first r) (with_range-split range rs)

-- a range that took up those that it touches, put in behind those that end before it
pub with_range-inserted : (range took : Range) (old rest new : List Range) (i : ℕ) → i ≡ ranges_before range.first old → take i rest ≡ take i old →
    joined range (drop i old) ≡ took ∷ drop i rest → new ≡ take i rest ++ (took ∷ drop i rest) → new ≡ with_range range old
with_range-inserted range took old rest new i count front join e =
    e ∙ ap (λ (xs : List Range). xs ++ (took ∷ drop i rest)) front ∙ ap (λ (xs : List Range). take i old ++ xs) (sym join)
    ∙ ap (λ (n : ℕ). take n old ++ joined range (drop n old)) count ∙ sym (with_range-split range old)

or_assoc : (a b c : Bool) → ((a || b) || c) ≡ (a || (b || c))
or_assoc true b c = refl
or_assoc false b c = refl

or_swap : (a b c : Bool) → (a || (b || c)) ≡ (b || (a || c))
or_swap true true c = refl
or_swap true false c = refl
or_swap false b c = refl

-- a column lies in two ranges that touch exactly where it lies in one of them
union-is_in : (x : ℕ) (m r : Range) → m.first ≤ r.last + 1 → r.first ≤ m.last + 1 → m.first ≤ m.last → r.first ≤ r.last →
    is_in_range x (union m r) ≡ (is_in_range x m || is_in_range x r)
union-is_in x m r a b c d = grind (arith, nat_tests)

-- the first of the ranges ends where the range begins, or later
abbrev Touches : Range → List Range → Type 0
Touches m [] = Unit {0}
Touches m (r ∷ rs) = m.first ≤ r.last + 1

next_touches : (m r : Range) (width : ℕ) (rs : List Range) → m.first ≤ r.last + 1 → AreApart (r.last + 2) width rs → Touches (union m r) rs
next_touches m r width [] t a = tt
next_touches m r width (s ∷ rs) t a = omega arith

-- by whether the next range begins behind the one that is joined
within_cases : (x : ℕ) (m r : Range) (rs : List Range) (b : Bool) → starts_after m.last r ≡ b → (b ≡ false → is_within_range (joined (union m r) rs) x ≡ (is_in_range x (union m r) || is_within_range rs x)) →
    m.first ≤ m.last → r.first ≤ r.last → m.first ≤ r.last + 1 → is_within_range (cond b (m ∷ (r ∷ rs)) (joined (union m r) rs)) x ≡ (is_in_range x m || is_within_range (r ∷ rs) x)
unfolding is_within_range
within_cases x m r rs true e h c d t = refl
within_cases x m r rs false e h c d t =
    let range_touches : r.first ≤ m.last + 1 = grind (arith, nat_tests) in
    h refl ∙ ap (λ v. v || is_within_range rs x) (union-is_in x m r t range_touches c d) ∙ or_assoc (is_in_range x m) (is_in_range x r) (is_within_range rs x)

-- the columns of a range joined with those that it touches
joined-is_within : (x j width : ℕ) (m : Range) (rs : List Range) → AreApart j width rs → Touches m rs → m.first ≤ m.last →
    is_within_range (joined m rs) x ≡ (is_in_range x m || is_within_range rs x)
unfolding is_within_range
joined-is_within x j width m [] a t c = refl
joined-is_within x j width m (r ∷ rs) a t c =
    within_cases x m r rs (starts_after m.last r) refl
    (λ _. joined-is_within x (r.last + 2) width (union m r) rs a.3 (next_touches m r width rs t a.3) (omega (arith, a.1))) c a.1 t

with_cases : (x j width : ℕ) (m r : Range) (rs : List Range) (b : Bool) → ends_before m.first r ≡ b → is_within_range (with_range m rs) x ≡ (is_in_range x m || is_within_range rs x) →
    AreApart j width (r ∷ rs) → m.first ≤ m.last → is_within_range (cond b (r ∷ with_range m rs) (joined m (r ∷ rs))) x ≡ (is_in_range x m || is_within_range (r ∷ rs) x)
unfolding is_within_range
with_cases x j width m r rs true e h a c = ap (λ (v : Bool). is_in_range x r || v) h ∙ or_swap (is_in_range x r) (is_in_range x m) (is_within_range rs x)
with_cases x j width m r rs false e h a c = joined-is_within x j width m (r ∷ rs) a (grind (arith, nat_tests)) c

-- one more range covers its columns, and no other
pub with_range-is_within : (x j width : ℕ) (m : Range) (rs : List Range) → AreApart j width rs → m.first ≤ m.last →
    is_within_range (with_range m rs) x ≡ (is_in_range x m || is_within_range rs x)
unfolding is_within_range
with_range-is_within x j width m [] a c = refl
with_range-is_within x j width m (r ∷ rs) a c =
    with_cases x j width m r rs (ends_before m.first r) refl (with_range-is_within x (r.last + 2) width m rs a.3 c) a c

joined_cases : (j width : ℕ) (m r : Range) (rs : List Range) (b : Bool) → starts_after m.last r ≡ b → AreApart j width (joined (union m r) rs) →
    AreApart j width (r ∷ rs) → j ≤ m.first → m.first ≤ m.last → m.last < width → AreApart j width (cond b (m ∷ (r ∷ rs)) (joined (union m r) rs))
joined_cases j width m r rs true e h a p c q =
    (p, c, q, ((let joined_lies_before : m.last + 1 < r.first = grind (arith, nat_tests) in omega arith), a.1, a.2, a.3))
joined_cases j width m r rs false e h a p c q = h

-- a range that took up those that it touches is apart from the others
joined-apart : (j width : ℕ) (m : Range) (rs : List Range) → AreApart j width rs → j ≤ m.first → m.first ≤ m.last → m.last < width → AreApart j width (joined m rs)
joined-apart j width m [] a p c q = (p, c, q, tt)
joined-apart j width m (r ∷ rs) a p c q =
    joined_cases j width m r rs (starts_after m.last r) refl
    (joined-apart j width (union m r) rs (apart_from j (r.last + 2) width rs (omega (arith, a.0, a.1)) a.3)
    (omega (arith, a.0)) (omega (arith, a.1)) (omega (arith, a.2)))
    a p c q

apart_cases : (j width : ℕ) (m r : Range) (rs : List Range) (b : Bool) → ends_before m.first r ≡ b → (b ≡ true → AreApart (r.last + 2) width (with_range m rs)) →
    AreApart j width (joined m (r ∷ rs)) → AreApart j width (r ∷ rs) → AreApart j width (cond b (r ∷ with_range m rs) (joined m (r ∷ rs)))
apart_cases j width m r rs true e h g a = (a.0, a.1, a.2, h refl)
apart_cases j width m r rs false e h g a = g

-- with one more, ranges are apart as before
pub with_range-apart : (j width : ℕ) (m : Range) (rs : List Range) → AreApart j width rs → j ≤ m.first → m.first ≤ m.last → m.last < width → AreApart j width (with_range m rs)
with_range-apart j width m [] a p c q = (p, c, q, tt)
with_range-apart j width m (r ∷ rs) a p c q =
    apart_cases j width m r rs (ends_before m.first r) refl
    (λ e. with_range-apart (r.last + 2) width m rs a.3 (let range_lies_before : r.last + 1 < m.first = grind (arith, nat_tests) in omega arith) c q)
    (joined-apart j width m (r ∷ rs) a p c q) a

pub length-columns_of : (width : ℕ) (rs : List Range) → length (columns_of width rs) ≡ width
unfolding columns_of
length-columns_of width rs = length-listed (is_within_range rs) width

-- a column of a cover lies within the width
pub column_within : (width column : ℕ) (rs : List Range) (columns : List Bool) → columns_of width rs ≡ columns → column < length columns → column < width
column_within width column rs columns is l = omega (arith, l, ap length is, length-columns_of width rs)

-- the columns before the width are those of the ranges
pub columns_of-covered : (width x : ℕ) (rs : List Range) → x < width → is_covered (columns_of width rs) x ≡ is_within_range rs x
unfolding columns_of is_covered
columns_of-covered width x rs l = get_or-listed (is_within_range rs) width x true l

in_range : (x first last : ℕ) → first ≤ x → x ≤ last → is_in_range x (record { first = first; last = last }) ≡ true
in_range x first last a b = grind (arith, nat_tests)

out_before : (x first last : ℕ) → x < first → is_in_range x (record { first = first; last = last }) ≡ false
out_before x first last a = grind (arith, nat_tests)

out_after : (x first last : ℕ) → last < x → is_in_range x (record { first = first; last = last }) ≡ false
out_after x first last a = grind (arith, nat_tests)

-- one column of the wider cover, by whether it lies before, in or behind the new columns
covered_at : (width first last x : ℕ) (rs : List Range) → first ≤ last → last < width → x < width →
    is_covered (cover (columns_of width rs) first last) x ≡ (is_in_range x (record { first = first; last = last }) || is_within_range rs x)
covered_at width first last x rs o l h =
    let last_is_there : last < length (columns_of width rs) = omega (arith, length-columns_of width rs) in
    elim (cases_lt x first) [
      | inl b ↦ rw (covered-before (columns_of width rs) first last x o last_is_there b, columns_of-covered width x rs h, out_before x first last b)
      | inr g ↦ elim (cases_lt last x) [
        | inl a ↦ rw (covered-after (columns_of width rs) first last x o last_is_there a, columns_of-covered width x rs h, out_after x first last a)
        | inr e ↦ rw (covered-between (columns_of width rs) first last x o last_is_there g e, in_range x first last g e)
      ]
    ]

covered_values : (width first last k : ℕ) (rs : List Range) → AreApart 0 width rs → first ≤ last → last < width → k < width →
    get_or (cover (columns_of width rs) first last) k true ≡ is_within_range (with_range (record { first = first; last = last }) rs) k
unfolding is_covered
covered_values width first last k rs a o l h =
    covered_at width first last k rs o l h ∙ sym (with_range-is_within k 0 width (record { first = first; last = last }) rs a o)

-- one more range covers its columns
pub with_range-cover : (width first last : ℕ) (rs : List Range) → AreApart 0 width rs → first ≤ last → last < width →
    columns_of width (with_range (record { first = first; last = last }) rs) ≡ cover (columns_of width rs) first last
unfolding columns_of
with_range-cover width first last rs a o l =
    let same_width : length (cover (columns_of width rs) first last) ≡ width =
    length-cover (columns_of width rs) first last o (omega (arith, length-columns_of width rs)) ∙ length-columns_of width rs in
    sym (listed-all (is_within_range (with_range (record { first = first; last = last }) rs)) (cover (columns_of width rs) first last) width true same_width
    (λ k h. covered_values width first last k rs a o l h))

-- no range covers no column
pub columns_of-none : (width : ℕ) → replicate width false ≡ columns_of width []
unfolding columns_of is_within_range
columns_of-none width =
    listed-all (is_within_range []) (replicate width false) width true (length-replicate width false) (λ k h. get_or-replicate width k false true h)
