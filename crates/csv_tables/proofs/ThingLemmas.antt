-- Laws of the numbers of a thing table's lines.
use Rattle.view_rules.proofs.Common.{◌≡◌, ℕ, zero, suc, ◌+◌, ◌<◌, ◌≤◌, true, false, cond, ◌==◌, List, [], ◌∷◌, ◌++◌, length, get_or, set, replicate, option_map, slice_get, All, IfSome, Option, Some, None, refl, ap, sym, ◌∙◌, arith, inl, inr, eq-eqb, get_or-set_same, get_or-set_other, length-append, length-set, length-replicate, ne_eqb, cases_eq}
use Rattle.level_rules.specs.{declared.ThingLine.ThingLine, Types.row_of}
use Rattle.csv_tables.specs.declared.things.TheConstants.{TYPES}
use Rattle.csv_tables.specs.Things.{IsLineInRange, IsThingInRange}
use Rattle.csv_tables.specs.Slots.{AreNumbersOf, numbered_row}

some-none : {X : Type 0} (x : X) → ◌≡◌ {A = Option X} (Some x) None → ⊥
some-none x e = cc

-- a type that no line has is the new line's type or has no row still
row_of-more : (lines : List ThingLine) (line : ThingLine) (kind : ℕ) → row_of lines line.kind ≡ None → row_of (lines ++ line ∷ []) kind ≡ cond (line.kind == kind) (Some line.row) (row_of lines kind)
unfolding row_of
row_of-more [] line kind e = refl
row_of-more (l ∷ lines) line kind e =
    elim (cases_eq l.kind line.kind) [
      | inl same ↦ let kind_same : (l.kind == line.kind) ≡ true = eq-eqb l.kind line.kind same in absurd (some-none l.row (rw kind_same at e))
      | inr other ↦
          let kind_differs : (l.kind == line.kind) ≡ false = ne_eqb l.kind line.kind other in
          let rest_row_of = row_of-more lines line kind (rw kind_differs at e) in
          elim (cases_eq l.kind kind) [
            | inl here ↦
                let line_kind_same : (l.kind == kind) ≡ true = eq-eqb l.kind kind here in
                let new_kind_differs : (line.kind == kind) ≡ false = ne_eqb line.kind kind (λ q. other (here ∙ sym q)) in
                rw (line_kind_same, new_kind_differs) refl
            | inr there ↦
                let line_kind_differs : (l.kind == kind) ≡ false = ne_eqb l.kind kind there in
                rw line_kind_differs rest_row_of
          ]
    ]

-- the first lines keep their numbers, and the new one has the next
slice_get-first : (lines : List ThingLine) (line : ThingLine) (n : ℕ) → n < length lines → slice_get (lines ++ line ∷ []) n ≡ slice_get lines n
slice_get-first [] line n l = absurd (omega arith)
slice_get-first (x ∷ xs) line zero l = refl
slice_get-first (x ∷ xs) line (suc n) l = slice_get-first xs line n (omega arith)

slice_get-last : (lines : List ThingLine) (line : ThingLine) → slice_get (lines ++ line ∷ []) (length lines) ≡ Some line
slice_get-last [] line = refl
slice_get-last (x ∷ xs) line = slice_get-last xs line

numbered_row-first : (lines : List ThingLine) (line : ThingLine) (n : ℕ) → n ≤ length lines → numbered_row (lines ++ line ∷ []) n ≡ numbered_row lines n
unfolding numbered_row
numbered_row-first lines line zero l = refl
numbered_row-first lines line (suc n) l = ap (option_map (λ (x : ThingLine). x.row)) (slice_get-first lines line n (omega arith))

numbered_row-last : (lines : List ThingLine) (line : ThingLine) (n : ℕ) → n ≡ length lines + 1 → numbered_row (lines ++ line ∷ []) n ≡ Some line.row
unfolding numbered_row
numbered_row-last lines line zero e = absurd (omega arith)
numbered_row-last lines line (suc n) e =
    let number_is_length : n ≡ length lines = omega arith in
    rw number_is_length (ap (option_map (λ (x : ThingLine). x.row)) (slice_get-last lines line))

zeros-at : (n kind : ℕ) → ◌≡◌ {A = ℕ} (get_or (replicate n 0) kind 0) 0
zeros-at zero kind = refl
zeros-at (suc n) zero = refl
zeros-at (suc n) (suc kind) = zeros-at n kind

zero-at : (n kind : ℕ) (numbers : List ℕ) → numbers ≡ replicate n 0 → get_or numbers kind 0 ≡ 0
zero-at n kind numbers e = ap (λ (s : List ℕ). get_or s kind 0) e ∙ zeros-at n kind

-- each row of lines in range is in range
pub numbered_row-range : (lines : List ThingLine) (n : ℕ) → All IsLineInRange lines → IfSome (numbered_row lines n) IsThingInRange
unfolding numbered_row
numbered_row-range lines zero h = tt
numbered_row-range [] (suc n) h = tt
numbered_row-range (line ∷ lines) (suc zero) h = (h 0 line (omega arith)).1
numbered_row-range (line ∷ lines) (suc (suc n)) h = numbered_row-range lines (suc n) (λ k d l. h (suc k) d (omega arith))

-- no line has a number at first
pub numbers-start : (numbers : List ℕ) → numbers ≡ replicate TYPES 0 → AreNumbersOf [] numbers
unfolding row_of numbered_row
numbers-start numbers e = record {
  all = ap length e ∙ length-replicate {0} {A = ℕ} TYPES 0;
  within = λ kind. let number_is_zero : get_or numbers kind 0 ≡ 0 = zero-at TYPES kind numbers e in omega arith;
  rows = λ kind k. let number_is_zero : get_or numbers kind 0 ≡ 0 = zero-at TYPES kind numbers e in rw number_is_zero refl;
}

-- one line more, and its number
pub numbers-step : (lines : List ThingLine) (line : ThingLine) (numbers : List ℕ) (n : ℕ) → AreNumbersOf lines numbers → line.kind < TYPES → row_of lines line.kind ≡ None → n ≡ length lines + 1 → AreNumbersOf (lines ++ line ∷ []) (set numbers line.kind n)
numbers-step lines line numbers n h l e next =
    let count_grows : length (lines ++ line ∷ []) ≡ length lines + 1 = length-append lines (line ∷ []) in
    record {
      all = length-set numbers line.kind n ∙ h.all;
      within = λ kind. elim (cases_eq line.kind kind) [
        | inl same ↦
            let number_is_set : get_or (set numbers line.kind n) line.kind 0 ≡ n = get_or-set_same numbers line.kind n 0 (rw h.all l) in
            let number_here : get_or (set numbers line.kind n) kind 0 ≡ n = ap (λ q. get_or (set numbers line.kind n) q 0) (sym same) ∙ number_is_set in
            omega (arith, number_here, count_grows)
        | inr other ↦
            let old_kept : get_or (set numbers line.kind n) kind 0 ≡ get_or numbers kind 0 = get_or-set_other numbers line.kind kind n 0 (λ q. other (sym q)) in
            let old = h.within kind in
            omega (arith, old_kept, old, count_grows)
      ];
      rows = λ kind k. elim (cases_eq line.kind kind) [
        | inl same ↦
            let kind_same : (line.kind == kind) ≡ true = eq-eqb line.kind kind same in
            let number_is_set : get_or (set numbers line.kind n) line.kind 0 ≡ n = get_or-set_same numbers line.kind n 0 (rw h.all l) in
            let number_here : get_or (set numbers line.kind n) kind 0 ≡ n = ap (λ q. get_or (set numbers line.kind n) q 0) (sym same) ∙ number_is_set in
            ap (numbered_row (lines ++ line ∷ [])) number_here ∙ numbered_row-last lines line n next ∙ sym (row_of-more lines line kind e ∙ rw kind_same refl)
        | inr other ↦
            let kind_differs : (line.kind == kind) ≡ false = ne_eqb line.kind kind other in
            let old_kept : get_or (set numbers line.kind n) kind 0 ≡ get_or numbers kind 0 = get_or-set_other numbers line.kind kind n 0 (λ q. other (sym q)) in
            ap (numbered_row (lines ++ line ∷ [])) old_kept ∙ numbered_row-first lines line (get_or numbers kind 0) (h.within kind) ∙ h.rows kind k ∙ sym (row_of-more lines line kind e ∙ rw kind_differs refl)
      ];
    }
