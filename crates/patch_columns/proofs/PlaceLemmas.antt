-- Laws of the places that composed columns have in the composite.
use Rattle.art_rules.proofs.Common.{[], ap, arith, Bool, cond, false, filter, filter_of_map_range_with_len_more, get_or, length, length-append, List, map-id, nat_lt, nat_tests, range_with_len, refl, suc, sum_by, sum_by_more, sym, take, true, zero, ℕ, ◌*◌, ◌++◌, ◌+◌, ◌<◌, ◌∙◌, ◌∷◌, ◌≡◌, ◌≤◌}
use Rattle.patch_columns.specs.Rules.{ColumnLookup, Empty, PlacedPatch, column_lookup, column_lookups, composed_columns, composed_count, composite_place, is_composed, listed, lookup_of, patches_in}
use Rattle.art_rules.proofs.Laws.{get_or-listed, length-listed}
use Rattle.patch_columns.specs.Seen.{composed_bytes, placed_lookup, seen_lookup, seen_lookups}
use Rattle.patch_columns.proofs.SeenLemmas.{IsChangedBelow, changed_all}

-- the bytes of the composite before column x
unfoldable pub composed_before : ℕ → List ColumnLookup → ℕ → ℕ
composed_before height columns x = sum_by (composed_bytes height) (take x columns)

pub composed_before-none : (height : ℕ) (columns : List ColumnLookup) → 0 ≡ composed_before height columns 0
unfolding composed_before
composed_before-none height columns = refl

pub composed_before-more : (height : ℕ) (columns : List ColumnLookup) (x : ℕ) → x < length columns → composed_before height columns (x + 1) ≡ composed_before height columns x + composed_bytes height (get_or columns x Empty)
unfolding composed_before
composed_before-more height columns x l = sum_by_more (composed_bytes height) columns x Empty l

-- a column of a list where all those before it are known
unfoldable pub placed_in : ℕ → List ColumnLookup → ℕ → ColumnLookup → ColumnLookup
placed_in height columns x lookup = placed_lookup (composed_before height columns x) lookup

pub placed_in-by : (height : ℕ) (columns : List ColumnLookup) (x place : ℕ) (lookup : ColumnLookup) → place ≡ composed_before height columns x → placed_lookup place lookup ≡ placed_in height columns x lookup
unfolding placed_in
placed_in-by height columns x place lookup e = ap (λ p. placed_lookup p lookup) e

composed_columns-more : (patches : List PlacedPatch) (n : ℕ) → composed_columns patches (n + 1) ≡ composed_columns patches n ++ cond (is_composed patches n) (n ∷ []) []
unfolding composed_columns
composed_columns-more patches n =
    ap (filter (is_composed patches)) (sym (map-id (range_with_len 0 (n + 1))))
    ∙ filter_of_map_range_with_len_more (is_composed patches) (λ k. k) 0 n n (omega arith)
    ∙ ap (λ xs. filter (is_composed patches) xs ++ cond (is_composed patches n) (n ∷ []) []) (map-id (range_with_len 0 n))

counted : (n : ℕ) (b : Bool) → length (cond b (n ∷ []) []) ≡ cond b 1 0
counted n true = refl
counted n false = refl

composed_count-more : (patches : List PlacedPatch) (n : ℕ) → composed_count patches (n + 1) ≡ composed_count patches n + cond (is_composed patches n) 1 0
unfolding composed_count
composed_count-more patches n =
    ap length (composed_columns-more patches n)
    ∙ length-append (composed_columns patches n) (cond (is_composed patches n) (n ∷ []) [])
    ∙ ap (λ k. length (composed_columns patches n) + k) (counted n (is_composed patches n))

bytes_of : (bytes : ℕ → List ℕ) (height start x : ℕ) (patches : List PlacedPatch) → composed_bytes height (lookup_of bytes start x patches) ≡ height * cond (nat_lt 1 (length patches)) 1 0
unfolding composed_bytes lookup_of
bytes_of bytes height start x [] = omega arith
bytes_of bytes height start x (first ∷ []) = omega arith
bytes_of bytes height start x (first ∷ second ∷ rest) =
    let more_than_one : nat_lt 1 (suc (suc (length rest))) ≡ true = grind (arith, nat_tests) in rw more_than_one (omega arith)

times_more : (height a b c n : ℕ) → n ≡ a + b → c ≡ height * b → height * n ≡ height * a + c
times_more height a b c n e f = ap (λ k. height * k) e ∙ (omega arith)

-- where the next composed column begins
pub place-more : (bytes : ℕ → List ℕ) (patches : List PlacedPatch) (height x : ℕ) → composite_place patches height (x + 1) ≡ composite_place patches height x + composed_bytes height (seen_lookup bytes patches x)
unfolding composite_place is_composed seen_lookup
place-more bytes patches height x =
    times_more height (composed_count patches x) _ _ (composed_count patches (x + 1)) (composed_count-more patches x) (bytes_of bytes height 0 x (patches_in patches x))

before_step : (bytes : ℕ → List ℕ) (patches : List PlacedPatch) (height n x next : ℕ) → x + 1 ≡ next → next ≤ n → composed_before height (seen_lookups bytes patches n) x ≡ composite_place patches height x → composed_before height (seen_lookups bytes patches n) next ≡ composite_place patches height next
unfolding seen_lookups
before_step bytes patches height n x next e l h =
    let seen_at : ℕ → ColumnLookup = seen_lookup bytes patches in
    let length_is : length (listed seen_at n) ≡ n = length-listed seen_at n in
    ap (composed_before height (listed seen_at n)) (sym e)
    ∙ composed_before-more height (listed seen_at n) x (omega arith)
    ∙ ap (λ k. k + composed_bytes height (get_or (listed seen_at n) x Empty)) h
    ∙ ap (λ c. composite_place patches height x + composed_bytes height c) (get_or-listed seen_at n x Empty (omega arith))
    ∙ sym (place-more bytes patches height x)
    ∙ ap (composite_place patches height) e

-- the bytes before a column are those of the composed columns before it
pub composed_before-seen : (bytes : ℕ → List ℕ) (patches : List PlacedPatch) (height n x : ℕ) → x ≤ n → composed_before height (seen_lookups bytes patches n) x ≡ composite_place patches height x
unfolding composed_before composite_place composed_count composed_columns
composed_before-seen bytes patches height n zero l = omega arith
composed_before-seen bytes patches height n (suc x) l =
    before_step bytes patches height n x (suc x) (omega arith) l (composed_before-seen bytes patches height n x (omega arith))

-- a column once its place is known
pub placed : (bytes : ℕ → List ℕ) (start x : ℕ) (patches : List PlacedPatch) → placed_lookup start (lookup_of bytes 0 x patches) ≡ lookup_of bytes start x patches
unfolding placed_lookup lookup_of
placed bytes start x [] = refl
placed bytes start x (first ∷ []) = refl
placed bytes start x (first ∷ second ∷ rest) = refl

-- all columns once their places are known
pub column_lookups-placed : (bytes : ℕ → List ℕ) (patches : List PlacedPatch) (height : ℕ) (old now : List ColumnLookup) (i : ℕ) → old ≡ seen_lookups bytes patches (length old) → length now ≡ length old → length old ≤ i → IsChangedBelow (placed_in height old) old now i → now ≡ column_lookups bytes patches (length old) height
unfolding seen_lookups column_lookups column_lookup seen_lookup placed_in
column_lookups-placed bytes patches height old now i are count all h =
    changed_all (placed_in height old) (seen_lookup bytes patches) (column_lookup bytes patches height) old now (length old) i are count all h
    (λ k l.
    ap (λ p. placed_lookup p (seen_lookup bytes patches k)) (ap (λ xs. composed_before height xs k) are ∙ composed_before-seen bytes patches height (length old) k (omega arith))
    ∙ placed bytes (composite_place patches height k) k (patches_in patches k))
