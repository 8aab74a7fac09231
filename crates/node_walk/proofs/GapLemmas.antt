-- The gaps between ranges are the runs of uncovered columns, and there is none where the columns are hidden.
use Rattle.word_rules.proofs.Common.{[], ap, arith, Bool, cases_lt, cond, drop, drop-cons, false, get_or, inl, inr, length, List, max, min, nat_le, nat_lt, nat_tests, refl, replicate, suc, sym, take, true, zero, ℕ, ◌&&◌, ◌++◌, ◌+◌, ◌-◌, ◌<◌, ◌∙◌, ◌∷◌, ◌≡◌, ◌≤◌}
use Rattle.level_rules.specs.walk.Covered.{runs, fragments, hides, is_covered}
use Rattle.level_rules.proofs.walk.CoverLemmas.{runs-covered, runs-open, fragments-hides, hides-fragments}
use Rattle.node_walk.specs.declared.ranges.Range.{Range}
use Rattle.node_walk.specs.Ranges.{is_in_range, is_within_range, columns_of, range_gaps, hides_in}
use Rattle.node_walk.proofs.RangeLemmas.{AreApart, columns_of-covered, length-columns_of}

-- the columns from at to last
abbrev slice : List Bool → ℕ → ℕ → List Bool
slice columns at last = take (last + 1 - at) (drop at columns)

-- past the last column there is none
slice_none : (columns : List Bool) (at last : ℕ) → last < at → slice columns at last ≡ []
slice_none columns at last l = let none_left : last + 1 - at ≡ 0 = omega arith in ap (λ (n : ℕ). take n (drop at columns)) none_left

-- the first of them, and the others
slice_one : (columns : List Bool) (at last : ℕ) → at ≤ last → last < length columns → slice columns at last ≡ get_or columns at true ∷ slice columns (at + 1) last
slice_one columns at last l h =
    let count_is_suc : last + 1 - at ≡ suc (last + 1 - (at + 1)) = omega arith in
    let next_is_suc : at + 1 ≡ suc at = omega arith in
    ap (λ (n : ℕ). take n (drop at columns)) count_is_suc
    ∙ ap (take (suc (last + 1 - (at + 1)))) (drop-cons columns at true (omega arith))
    ∙ ap (λ (n : ℕ). get_or columns at true ∷ take (last + 1 - (at + 1)) (drop n columns)) (sym next_is_suc)

-- n columns that are all covered, or all not, come first
stretch : (n at last : ℕ) (columns : List Bool) (b : Bool) → at + n ≤ last + 1 → last < length columns →
    ((x : ℕ) → at ≤ x → x < at + n → is_covered columns x ≡ b) → slice columns at last ≡ replicate n b ++ slice columns (at + n) last
unfolding is_covered
stretch zero at last columns b l h same = let same_place : at ≡ at + 0 = omega arith in ap (λ (i : ℕ). slice columns i last) same_place
stretch (suc n) at last columns b l h same =
    let same_place : at + 1 + n ≡ at + suc n = omega arith in
    slice_one columns at last (omega arith) h
    ∙ ap (λ (v : Bool). v ∷ slice columns (at + 1) last) (same at (omega arith) (omega arith))
    ∙ ap (λ (xs : List Bool). b ∷ xs) (stretch n (at + 1) last columns b (omega arith) h (λ x p q. same x (omega arith) (omega arith)) ∙ ap (λ (i : ℕ). replicate n b ++ slice columns i last) same_place)

-- no column before the first range lies in one
before_all : (j width x : ℕ) (rs : List Range) → AreApart j width rs → x < j → is_within_range rs x ≡ false
unfolding is_within_range
before_all j width x [] a l = refl
before_all j width x (r ∷ rs) a l =
    let is_outside : is_in_range x r ≡ false = (let from_j : j ≤ r.first = a.0 in grind (arith, nat_tests)) in
    rw is_outside (before_all (r.last + 2) width x rs a.3 (let from_j : j ≤ r.first = a.0 in let in_order : r.first ≤ r.last = a.1 in omega arith))

-- nor does one before the first range itself
before_first : (j width x : ℕ) (r : Range) (rs : List Range) → AreApart j width (r ∷ rs) → x < r.first → is_within_range (r ∷ rs) x ≡ false
before_first j width x r rs a l = before_all r.first width x (r ∷ rs) (omega arith, a.1, a.2, a.3) l

-- a column of the first range lies in one
in_first : (x : ℕ) (r : Range) (rs : List Range) → r.first ≤ x → x ≤ r.last → is_within_range (r ∷ rs) x ≡ true
unfolding is_within_range
in_first x r rs a b = let is_in : is_in_range x r ≡ true = grind (arith, nat_tests) in rw is_in refl

-- past the first range, the others decide
past_first : (x : ℕ) (r : Range) (rs : List Range) → r.last < x → is_within_range (r ∷ rs) x ≡ is_within_range rs x
unfolding is_within_range
past_first x r rs a = let is_out : is_in_range x r ≡ false = grind (arith, nat_tests) in rw is_out refl

-- the columns from at to last are covered where the ranges say so
pub record Agree (columns : List Bool) (at last : ℕ) (rs : List Range) : Type 0 where
  pub within : last < length columns
  pub same : (x : ℕ) → at ≤ x → x ≤ last → is_covered columns x ≡ is_within_range rs x

-- behind the first range, the others say so
agree_past : (columns : List Bool) (at next last : ℕ) (r : Range) (rs : List Range) → at ≤ next → r.last < next → Agree columns at last (r ∷ rs) → Agree columns next last rs
agree_past columns at next last r rs l p g = record {
  within = g.within;
  same = λ x a b. g.same x (omega arith) b ∙ past_first x r rs (omega arith);
}

-- from past the last column on there is no gap
gaps_none : (at last : ℕ) (rs : List Range) → last < at → range_gaps at last rs ≡ []
gaps_none at last [] l = let is_past : nat_lt last at ≡ true = grind (arith, nat_tests) in rw is_past refl
gaps_none at last (r ∷ rs) l = let is_past : nat_lt last at ≡ true = grind (arith, nat_tests) in rw is_past refl

-- nor a run of uncovered columns
runs_none : (columns : List Bool) (at last : ℕ) → last < at → runs at (slice columns at last) ≡ []
unfolding runs
runs_none columns at last l = ap (runs at) (slice_none columns at last l)

-- after a range, the gaps go on behind it
after_range : (columns : List Bool) (at last : ℕ) (r : Range) (rs : List Range) → r.first ≤ at → at ≤ r.last + 1 → at ≤ last + 1 → Agree columns at last (r ∷ rs) →
    (r.last ≤ last → range_gaps (r.last + 1) last rs ≡ runs (r.last + 1) (slice columns (r.last + 1) last)) → range_gaps (r.last + 1) last rs ≡ runs at (slice columns at last)
after_range columns at last r rs f l m g rest =
    elim (cases_lt last r.last) [
      | inl short ↦
          let reaches_end : at + (last + 1 - at) ≡ last + 1 = omega arith in
          gaps_none (r.last + 1) last rs (omega arith)
          ∙ sym (ap (runs at) (stretch (last + 1 - at) at last columns true (omega arith) g.within (λ x a b. g.same x a (omega arith) ∙ in_first x r rs (omega arith) (omega arith)))
          ∙ runs-covered (last + 1 - at) at (slice columns (at + (last + 1 - at)) last)
          ∙ ap (λ (i : ℕ). runs i (slice columns i last)) reaches_end
          ∙ runs_none columns (last + 1) last (omega arith))
      | inr long ↦
          let reaches_range_end : at + (r.last + 1 - at) ≡ r.last + 1 = omega arith in
          rest long
          ∙ sym (ap (runs at) (stretch (r.last + 1 - at) at last columns true (omega arith) g.within (λ x a b. g.same x a (omega arith) ∙ in_first x r rs (omega arith) (omega arith)))
          ∙ runs-covered (r.last + 1 - at) at (slice columns (at + (r.last + 1 - at)) last)
          ∙ ap (λ (i : ℕ). runs i (slice columns i last)) reaches_range_end)
    ]

-- whether the first of the columns is covered
first_of_slice : (columns : List Bool) (at last : ℕ) → at ≤ last → last < length columns → get_or (slice columns at last) 0 true ≡ is_covered columns at
unfolding is_covered
first_of_slice columns at last l h = ap (λ (xs : List Bool). get_or xs 0 true) (slice_one columns at last l h)

-- n + 1 uncovered columns are the first run
open_run : (columns : List Bool) (n at last : ℕ) → at + n ≤ last → last < length columns → ((x : ℕ) → at ≤ x → x ≤ at + n → is_covered columns x ≡ false) →
    get_or (slice columns (at + n + 1) last) 0 true ≡ true → runs at (slice columns at last) ≡ (at, at + n) ∷ runs (at + n + 1) (slice columns (at + n + 1) last)
open_run columns n at last l h none edge =
    let same_place : at + suc n ≡ at + n + 1 = omega arith in
    ap (runs at) (stretch (suc n) at last columns false (omega arith) h (λ x a b. none x a (omega arith)) ∙ ap (λ (i : ℕ). replicate (suc n) false ++ slice columns i last) same_place)
    ∙ runs-open n at (slice columns (at + n + 1) last) edge

-- columns that no range covers are one gap, and one run
last_gap : (columns : List Bool) (at last : ℕ) → at ≤ last → last < length columns → ((x : ℕ) → at ≤ x → x ≤ last → is_covered columns x ≡ false) →
    (at, last) ∷ [] ≡ runs at (slice columns at last)
last_gap columns at last l h none =
    let reaches_last : at + (last - at) ≡ last = omega arith in
    let edge : get_or (slice columns (at + (last - at) + 1) last) 0 true ≡ true = ap (λ (xs : List Bool). get_or xs 0 true) (slice_none columns (at + (last - at) + 1) last (omega arith)) in
    sym (open_run columns (last - at) at last (omega arith) h (λ x a b. none x a (omega arith)) edge
    ∙ ap (λ (rs : List (ℕ × ℕ)). (at, at + (last - at)) ∷ rs) (runs_none columns (at + (last - at) + 1) last (omega arith))
    ∙ ap (λ (i : ℕ). (at, i) ∷ []) reaches_last)

-- the gap before the first range, and what follows the range
first_gap : (columns : List Bool) (at last j width : ℕ) (r : Range) (rs : List Range) → at < r.first → at ≤ last → AreApart j width (r ∷ rs) → Agree columns at last (r ∷ rs) →
    range_gaps (r.last + 1) last rs ≡ runs r.first (slice columns r.first last) → (at, min last (r.first - 1)) ∷ range_gaps (r.last + 1) last rs ≡ runs at (slice columns at last)
first_gap columns at last j width r rs f l a g rest =
    elim (cases_lt last r.first) [
      | inl short ↦
          let ends_at_last : min last (r.first - 1) ≡ last = omega arith in
          let range_is_past : last < r.last + 1 = (let in_order : r.first ≤ r.last = a.1 in omega arith) in
          ap (λ (i : ℕ). (at, i) ∷ range_gaps (r.last + 1) last rs) ends_at_last
          ∙ ap (λ (xs : List (ℕ × ℕ)). (at, last) ∷ xs) (gaps_none (r.last + 1) last rs range_is_past)
          ∙ last_gap columns at last l g.within (λ x p q. g.same x p q ∙ before_first j width x r rs a (omega arith))
      | inr long ↦
          let ends_before_range : min last (r.first - 1) ≡ r.first - 1 = omega arith in
          let reaches_gap_end : at + (r.first - 1 - at) ≡ r.first - 1 = omega arith in
          let reaches_range : at + (r.first - 1 - at) + 1 ≡ r.first = omega arith in
          let in_order : r.first ≤ r.last = a.1 in
          let edge : get_or (slice columns (at + (r.first - 1 - at) + 1) last) 0 true ≡ true =
          ap (λ (i : ℕ). get_or (slice columns i last) 0 true) reaches_range ∙ first_of_slice columns r.first last long g.within ∙ g.same r.first (omega arith) long ∙ in_first r.first r rs (omega arith) in_order in
          ap (λ (i : ℕ). (at, i) ∷ range_gaps (r.last + 1) last rs) ends_before_range
          ∙ ap (λ (xs : List (ℕ × ℕ)). (at, r.first - 1) ∷ xs) rest
          ∙ sym (open_run columns (r.first - 1 - at) at last (omega arith) g.within (λ x p q. g.same x p (omega arith) ∙ before_first j width x r rs a (omega arith)) edge
          ∙ ap (λ (i : ℕ). (at, i) ∷ runs (at + (r.first - 1 - at) + 1) (slice columns (at + (r.first - 1 - at) + 1) last)) reaches_gap_end
          ∙ ap (λ (i : ℕ). (at, r.first - 1) ∷ runs i (slice columns i last)) reaches_range)
    ]

-- a later part of the columns agrees too
agree_later : (columns : List Bool) (at next last : ℕ) (rs : List Range) → at ≤ next → Agree columns at last rs → Agree columns next last rs
agree_later columns at next last rs l g = record { within = g.within; same = λ x a b. g.same x (omega arith) b }

-- by whether a column is left, and whether the first range begins behind it
gaps_cases : (columns : List Bool) (at last j width : ℕ) (r : Range) (rs : List Range) (b c : Bool) → nat_lt last at ≡ b → nat_lt at r.first ≡ c → at ≤ last + 1 → AreApart j width (r ∷ rs) → Agree columns at last (r ∷ rs) →
    ((next : ℕ) → at ≤ next → r.last < next → next ≤ last + 1 → range_gaps next last rs ≡ runs next (slice columns next last)) →
    cond b [] (cond c ((at, min last (r.first - 1)) ∷ range_gaps (r.last + 1) last rs) (range_gaps (max at (r.last + 1)) last rs)) ≡ runs at (slice columns at last)
gaps_cases columns at last j width r rs true c d e l a g rest = sym (runs_none columns at last (grind (arith, nat_tests)))
gaps_cases columns at last j width r rs false true d e l a g rest =
    let before_range : at < r.first = grind (arith, nat_tests) in
    let not_past : at ≤ last = grind (arith, nat_tests) in
    let in_order : r.first ≤ r.last = a.1 in
    first_gap columns at last j width r rs before_range not_past a g
    (elim (cases_lt last r.first) [
      | inl short ↦ gaps_none (r.last + 1) last rs (omega arith) ∙ sym (runs_none columns r.first last short)
      | inr long ↦ after_range columns r.first last r rs (omega arith) (omega arith) (omega arith) (agree_later columns at r.first last (r ∷ rs) (omega arith) g) (λ h. rest (r.last + 1) (omega arith) (omega arith) (omega arith))
    ])
gaps_cases columns at last j width r rs false false d e l a g rest =
    let range_began : r.first ≤ at = grind (arith, nat_tests) in
    elim (cases_lt r.last at) [
      | inl past ↦
          let max_stays : max at (r.last + 1) ≡ at = omega arith in
          ap (λ (i : ℕ). range_gaps i last rs) max_stays ∙ rest at (omega arith) past l
      | inr within ↦
          let moves_on : max at (r.last + 1) ≡ r.last + 1 = omega arith in
          ap (λ (i : ℕ). range_gaps i last rs) moves_on ∙ after_range columns at last r rs range_began (omega arith) l g (λ h. rest (r.last + 1) (omega arith) (omega arith) (omega arith))
    ]

-- where no range is left
gap_alone : (columns : List Bool) (at last : ℕ) (b : Bool) → nat_lt last at ≡ b → Agree columns at last [] → cond b [] ((at, last) ∷ []) ≡ runs at (slice columns at last)
unfolding is_within_range
gap_alone columns at last true e g = sym (runs_none columns at last (grind (arith, nat_tests)))
gap_alone columns at last false e g = last_gap columns at last (grind (arith, nat_tests)) g.within (λ x p q. g.same x p q)

-- the gaps from a column on are the runs of uncovered columns there
gaps_runs : (columns : List Bool) (at last j width : ℕ) (rs : List Range) → at ≤ last + 1 → AreApart j width rs → Agree columns at last rs →
    range_gaps at last rs ≡ runs at (slice columns at last)
gaps_runs columns at last j width [] l a g = gap_alone columns at last (nat_lt last at) refl g
gaps_runs columns at last j width (r ∷ rs) l a g =
    gaps_cases columns at last j width r rs (nat_lt last at) (nat_lt at r.first) refl refl l a g
    (λ next p q s. gaps_runs columns next last (r.last + 2) width rs s a.3 (agree_past columns at next last r rs p q g))

-- the gaps between the ranges of a cover are its fragments
pub gaps-fragments : (width first last : ℕ) (rs : List Range) → AreApart 0 width rs → first ≤ last → last < width →
    range_gaps first last rs ≡ fragments (columns_of width rs) first last
unfolding fragments
gaps-fragments width first last rs a o l =
    gaps_runs (columns_of width rs) first last 0 width rs (omega arith) a
    (record { within = omega (arith, length-columns_of width rs); same = λ x p q. columns_of-covered width x rs (omega arith) })

-- a gap is left where a range begins past the first column, or ends before the last
gap_left : (at last j width : ℕ) (rs : List Range) → at ≤ last → AreApart j width rs → at < j → range_gaps at last rs ≡ [] → ⊥
gap_left at last j width [] l a h e = let not_past : nat_lt last at ≡ false = grind (arith, nat_tests) in cc
gap_left at last j width (r ∷ rs) l a h e =
    let not_past : nat_lt last at ≡ false = grind (arith, nat_tests) in
    let before_range : nat_lt at r.first ≡ true = (let from_j : j ≤ r.first = a.0 in grind (arith, nat_tests)) in cc

-- what the first range that reaches the columns says of them
hidden_here : (first last width : ℕ) (r : Range) (rs : List Range) (d : Bool) → (nat_le r.first first && nat_le last r.last) ≡ d → first ≤ last →
    first ≤ r.last → AreApart (r.last + 2) width rs → (d ≡ true → range_gaps first last (r ∷ rs) ≡ []) × (d ≡ false → range_gaps first last (r ∷ rs) ≡ [] → ⊥)
hidden_here first last width r rs d e o t a =
    let not_past : nat_lt last first ≡ false = grind (arith, nat_tests) in
    elim (cases_lt first r.first) [
      | inl before ↦
          let before_range : nat_lt first r.first ≡ true = grind (arith, nat_tests) in
          let begins_later : nat_le r.first first ≡ false = grind (arith, nat_tests) in
          (λ h. cc, λ h none. cc)
      | inr from ↦
          let not_before_range : nat_lt first r.first ≡ false = grind (arith, nat_tests) in
          let moves_on : max first (r.last + 1) ≡ r.last + 1 = omega arith in
          let range_began : nat_le r.first first ≡ true = grind (arith, nat_tests) in
          let gaps_go_on : range_gaps first last (r ∷ rs) ≡ range_gaps (r.last + 1) last rs =
          rw (not_past, not_before_range) (ap (λ (i : ℕ). range_gaps i last rs) moves_on) in
          elim (cases_lt r.last last) [
            | inl short ↦
                let ends_short : nat_le last r.last ≡ false = grind (arith, nat_tests) in
                (λ h. cc, λ h none. gap_left (r.last + 1) last (r.last + 2) width rs (omega arith) a (omega arith) (sym gaps_go_on ∙ none))
            | inr long ↦
                let reaches_last : nat_le last r.last ≡ true = grind (arith, nat_tests) in
                (λ h. gaps_go_on ∙ gaps_none (r.last + 1) last rs (omega arith), λ h none. cc)
          ]
    ]

-- a range that ends before the columns changes nothing of their gaps
past_range : (first last : ℕ) (r : Range) (rs : List Range) → first ≤ last → r.first ≤ r.last → r.last < first → range_gaps first last (r ∷ rs) ≡ range_gaps first last rs
past_range first last r rs o p l =
    let not_past : nat_lt last first ≡ false = grind (arith, nat_tests) in
    let not_before_range : nat_lt first r.first ≡ false = grind (arith, nat_tests) in
    let max_stays : max first (r.last + 1) ≡ first = omega arith in
    rw (not_past, not_before_range) (ap (λ (i : ℕ). range_gaps i last rs) max_stays)

-- by whether the first range ends before the columns
hidden_cases : (first last width : ℕ) (r : Range) (rs : List Range) (b : Bool) → nat_lt r.last first ≡ b → first ≤ last → r.first ≤ r.last → AreApart (r.last + 2) width rs →
    ((hides_in first last rs ≡ true → range_gaps first last rs ≡ []) × (hides_in first last rs ≡ false → range_gaps first last rs ≡ [] → ⊥)) →
    (cond b (hides_in first last rs) (nat_le r.first first && nat_le last r.last) ≡ true → range_gaps first last (r ∷ rs) ≡ [])
    × (cond b (hides_in first last rs) (nat_le r.first first && nat_le last r.last) ≡ false → range_gaps first last (r ∷ rs) ≡ [] → ⊥)
hidden_cases first last width r rs true e o p a h =
    let same_gaps : range_gaps first last (r ∷ rs) ≡ range_gaps first last rs = past_range first last r rs o p (grind (arith, nat_tests)) in
    (λ t. same_gaps ∙ h.0 t, λ f none. h.1 f (sym same_gaps ∙ none))
hidden_cases first last width r rs false e o p a h =
    hidden_here first last width r rs (nat_le r.first first && nat_le last r.last) refl o (grind (arith, nat_tests)) a

-- no gap is left exactly where the first range that reaches the columns has them all
hidden : (first last j width : ℕ) (rs : List Range) → first ≤ last → AreApart j width rs →
    (hides_in first last rs ≡ true → range_gaps first last rs ≡ []) × (hides_in first last rs ≡ false → range_gaps first last rs ≡ [] → ⊥)
hidden first last j width [] o a = (λ t. cc, λ f none. (let not_past : nat_lt last first ≡ false = grind (arith, nat_tests) in cc))
hidden first last j width (r ∷ rs) o a =
    hidden_cases first last width r rs (nat_lt r.last first) refl o a.1 a.3 (hidden first last (r.last + 2) width rs o a.3)

-- two tests that say the same of the gaps agree
same_tests : (columns : List Bool) (first last : ℕ) (gs : List (ℕ × ℕ)) (b c : Bool) → hides columns first last ≡ c → gs ≡ fragments columns first last →
    (b ≡ true → gs ≡ []) × (b ≡ false → gs ≡ [] → ⊥) → b ≡ c
same_tests columns first last gs true true e g h = refl
same_tests columns first last gs false false e g h = refl
same_tests columns first last gs true false e g h =
    let is_hidden : hides columns first last ≡ true = hides-fragments columns first last (sym g ∙ h.0 refl) in cc
same_tests columns first last gs false true e g h = absurd (h.1 refl (g ∙ fragments-hides columns first last e))

-- the columns are hidden exactly where no gap is left
pub hides_in-hides : (width first last : ℕ) (rs : List Range) → AreApart 0 width rs → first ≤ last → last < width →
    hides_in first last rs ≡ hides (columns_of width rs) first last
hides_in-hides width first last rs a o l =
    same_tests (columns_of width rs) first last (range_gaps first last rs) (hides_in first last rs) (hides (columns_of width rs) first last) refl
    (gaps-fragments width first last rs a o l) (hidden first last 0 width rs o a)
