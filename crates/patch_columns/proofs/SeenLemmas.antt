-- Laws of the columns of a texture while its patches come one after the other.
use Rattle.art_rules.proofs.Common.{[], ap, append-nil, arith, Bool, cases_lt, cond, false, filter-append, Fits, get_or, get_or-set_other, get_or-set_same, inl, inr, ints, length, List, pos, refl, sym, true, w8, ℕ, ◌++◌, ◌+◌, ◌-ℤ◌, ◌<ℤ◌, ◌<◌, ◌^◌, ◌∙◌, ◌∷◌, ◌≡◌, ◌≢◌, ◌≤ℤ◌, ◌≤◌, set}
use Rattle.patch_columns.specs.Rules.{ColumnLookup, Empty, PlacedPatch, byte_at, column_place, listed, lookup_of, patches_in, stands_in, word_at}
use Rattle.art_rules.proofs.Laws.{get_or-listed, half_at-bytes, length-listed, listed-all, word_at-halves}
use Rattle.patch_columns.specs.Seen.{columns_with, lookup_behind, lookup_with, seen_lookup, seen_lookups}

-- a patch that stands in a column has a column of its own there
pub own_column-first : (x : ℕ) (patch : PlacedPatch) → stands_in x patch ≡ true → pos 0 ≤ℤ (pos x -ℤ patch.x)
unfolding stands_in
own_column-first x patch h = grind (arith, ints)

pub own_column-last : (x : ℕ) (patch : PlacedPatch) → stands_in x patch ≡ true → (pos x -ℤ patch.x) <ℤ pos patch.width
unfolding stands_in
own_column-last x patch h = grind (arith, ints)

word_at-fits : (bytes : List ℕ) (place : ℕ) → ((k : ℕ) → Fits w8 (get_or bytes k 0)) → word_at bytes place < 2 ^ 32
unfolding byte_at
word_at-fits bytes place each =
    let halves = word_at-halves bytes place in
    let low_half = half_at-bytes bytes place in
    let high_half = half_at-bytes bytes (place + 2) in
    let first_byte_fits = each place in let second_byte_fits = each (place + 1) in
    let third_byte_fits = each (place + 2) in
    let fourth_byte_fits = each (place + 2 + 1) in
    omega arith

-- where a column of a patch begins is told by four bytes
pub column_place-fits : (lump : List ℕ) (x : ℕ) → ((k : ℕ) → Fits w8 (get_or lump k 0)) → column_place lump x < 2 ^ 32
unfolding column_place
column_place-fits lump x each = word_at-fits lump _ each

-- a list of columns of which those below i are changed and the others are not
pub record IsChangedBelow (change : ℕ → ColumnLookup → ColumnLookup) (old now : List ColumnLookup) (i : ℕ) : Type 0 where
  pub below : (k : ℕ) → k < i → get_or now k Empty ≡ change k (get_or old k Empty)
  pub above : (k : ℕ) → i ≤ k → get_or now k Empty ≡ get_or old k Empty

pub changed_none : (change : ℕ → ColumnLookup → ColumnLookup) (old : List ColumnLookup) → IsChangedBelow change old old 0
changed_none change old = record { below = λ k l. absurd (omega arith); above = λ k l. refl }

pub changed_more : (change : ℕ → ColumnLookup → ColumnLookup) (old now : List ColumnLookup) (i : ℕ) (y : ColumnLookup) → i < length now → IsChangedBelow change old now i → y ≡ change i (get_or now i Empty) → IsChangedBelow change old (set now i y) (i + 1)
changed_more change old now i y l h e =
    record {
      below = λ k b. elim (cases_lt k i) [
        | inl s ↦ let index_differs : k ≢ i = omega arith in rw get_or-set_other (h.below k s)
        | inr s ↦
            let index_is : k ≡ i = omega arith in
            rw index_is (get_or-set_same now i y Empty l ∙ e ∙ ap (change i) (h.above i (omega arith)))
      ];
      above = λ k b. let index_differs : k ≢ i = omega arith in rw get_or-set_other (h.above k (omega arith));
    }

-- once all are changed, they are the values of g where each is changed into its value
pub changed_all : (change : ℕ → ColumnLookup → ColumnLookup) (f g : ℕ → ColumnLookup) (old now : List ColumnLookup) (n i : ℕ) → old ≡ listed f n → length now ≡ n → n ≤ i → IsChangedBelow change old now i → ((k : ℕ) → k < n → change k (f k) ≡ g k) → now ≡ listed g n
changed_all change f g old now n i are count all h each =
    listed-all g now n Empty count
    (λ k l. h.below k (omega arith) ∙ ap (change k) (ap (λ xs. get_or xs k Empty) are ∙ get_or-listed f n k Empty l) ∙ each k l)

patches_in-added : (patches : List PlacedPatch) (patch : PlacedPatch) (x : ℕ) → patches_in (patches ++ patch ∷ []) x ≡ patches_in patches x ++ cond (stands_in x patch) (patch ∷ []) []
unfolding patches_in
patches_in-added patches patch x = filter-append (stands_in x) patches (patch ∷ [])

lookup_of-behind : (bytes : ℕ → List ℕ) (x : ℕ) (patch : PlacedPatch) (patches : List PlacedPatch) → lookup_of bytes 0 x (patches ++ patch ∷ []) ≡ lookup_behind (bytes patch.lump) patch x (lookup_of bytes 0 x patches)
unfolding lookup_of lookup_behind
lookup_of-behind bytes x patch [] = refl
lookup_of-behind bytes x patch (first ∷ []) = refl
lookup_of-behind bytes x patch (first ∷ second ∷ rest) = refl

lookup_of-added : (bytes : ℕ → List ℕ) (x : ℕ) (patch : PlacedPatch) (patches : List PlacedPatch) (b : Bool) → lookup_of bytes 0 x (patches ++ cond b (patch ∷ []) []) ≡ cond b (lookup_behind (bytes patch.lump) patch x (lookup_of bytes 0 x patches)) (lookup_of bytes 0 x patches)
lookup_of-added bytes x patch patches true = lookup_of-behind bytes x patch patches
lookup_of-added bytes x patch patches false = ap (lookup_of bytes 0 x) (append-nil patches)

-- one patch more
pub seen_lookup-added : (bytes : ℕ → List ℕ) (patches : List PlacedPatch) (patch : PlacedPatch) (x : ℕ) → lookup_with (bytes patch.lump) patch x (seen_lookup bytes patches x) ≡ seen_lookup bytes (patches ++ patch ∷ []) x
unfolding seen_lookup lookup_with
seen_lookup-added bytes patches patch x =
    sym (lookup_of-added bytes x patch (patches_in patches x) (stands_in x patch))
    ∙ sym (ap (lookup_of bytes 0 x) (patches_in-added patches patch x))

-- all columns once a patch is added to each
pub columns_with-changed : (lump : List ℕ) (patch : PlacedPatch) (old now : List ColumnLookup) (i : ℕ) → length now ≡ length old → length old ≤ i → IsChangedBelow (lookup_with lump patch) old now i → now ≡ columns_with lump patch old
unfolding columns_with
columns_with-changed lump patch old now i count all h = listed-all _ now (length old) Empty count (λ k l. h.below k (omega arith))

-- columns by the same bytes
pub columns_with-seen : (bytes : ℕ → List ℕ) (patches : List PlacedPatch) (patch : PlacedPatch) (n : ℕ) → columns_with (bytes patch.lump) patch (seen_lookups bytes patches n) ≡ seen_lookups bytes (patches ++ patch ∷ []) n
unfolding columns_with seen_lookups
columns_with-seen bytes patches patch n =
    let seen_at : ℕ → ColumnLookup = seen_lookup bytes patches in
    let change : ℕ → ColumnLookup = λ x. lookup_with (bytes patch.lump) patch x (get_or (listed seen_at n) x Empty) in
    let count : length (listed seen_at n) ≡ n = length-listed seen_at n in
    listed-all (seen_lookup bytes (patches ++ patch ∷ [])) (listed change (length (listed seen_at n))) n Empty
    (length-listed change (length (listed seen_at n)) ∙ count)
    (λ k l. get_or-listed change (length (listed seen_at n)) k Empty (omega arith) ∙ ap (lookup_with (bytes patch.lump) patch k) (get_or-listed seen_at n k Empty l) ∙ seen_lookup-added bytes patches patch k)

pub columns_with-added : (bytes : ℕ → List ℕ) (lump : List ℕ) (patches : List PlacedPatch) (patch : PlacedPatch) (old : List ColumnLookup) → bytes patch.lump ≡ lump → old ≡ seen_lookups bytes patches (length old) → columns_with lump patch old ≡ seen_lookups bytes (patches ++ patch ∷ []) (length old)
columns_with-added bytes lump patches patch old of are =
    ap (λ xs. columns_with xs patch old) (sym of) ∙ ap (columns_with (bytes patch.lump) patch) are ∙ columns_with-seen bytes patches patch (length old)
