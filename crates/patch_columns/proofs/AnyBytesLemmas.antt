-- Laws of the columns of a texture where the bytes of a lump may be others each time.
use Rattle.std.proofs.Common.{◌≡◌, ℕ, zero, suc, ◌+◌, ◌<◌, ◌≤◌, cond, List, [], ◌∷◌, ◌++◌, length, get_or, refl, ap, sym, subst, ◌∙◌, arith}
use Rattle.patch_columns.specs.Rules.{AreColumnsOf, ColumnLookup, Empty, PlacedPatch, column_lookup, composed_columns, composed_count, composite_place, composite_size, listed, lookup_of, patches_in, stands_in}
use Rattle.art_rules.proofs.Laws.{get_or-listed, length-listed}
use Rattle.patch_columns.specs.Seen.{AreSeen, IsSeen, columns_with, composed_bytes, lookup_behind, lookup_with, placed_lookup, seen_lookup, seen_lookups}
use Rattle.patch_columns.proofs.SeenLemmas.{IsChangedBelow, seen_lookup-added}
use Rattle.patch_columns.proofs.PlaceLemmas.{composed_before, composed_before-more, place-more, placed, placed_in}

-- columns by the same bytes
pub seen_all : (bytes : ℕ → List ℕ) (patches : List PlacedPatch) (columns : List ColumnLookup) → columns ≡ seen_lookups bytes patches (length columns) → AreSeen patches columns
unfolding seen_lookups
seen_all bytes patches columns are = record {
  at = λ x l. record { bytes = bytes; is = ap (λ xs. get_or xs x Empty) are ∙ get_or-listed (seen_lookup bytes patches) (length columns) x Empty l };
}

behind_any : (bytes : ℕ → List ℕ) (x : ℕ) (patch : PlacedPatch) (lump other : List ℕ) (first : PlacedPatch) (rest : List PlacedPatch) → lookup_behind lump patch x (lookup_of bytes 0 x (first ∷ rest)) ≡ lookup_behind other patch x (lookup_of bytes 0 x (first ∷ rest))
unfolding lookup_behind lookup_of
behind_any bytes x patch lump other first [] = refl
behind_any bytes x patch lump other first (second ∷ rest) = refl

with_any : (bytes : ℕ → List ℕ) (x : ℕ) (patch : PlacedPatch) (lump other : List ℕ) (first : PlacedPatch) (rest : List PlacedPatch) → lookup_with lump patch x (lookup_of bytes 0 x (first ∷ rest)) ≡ lookup_with other patch x (lookup_of bytes 0 x (first ∷ rest))
unfolding lookup_with
with_any bytes x patch lump other first rest =
    ap (λ y. cond (stands_in x patch) y (lookup_of bytes 0 x (first ∷ rest))) (behind_any bytes x patch lump other first rest)

alone_any : (bytes other : ℕ → List ℕ) (x : ℕ) → lookup_of bytes 0 x [] ≡ lookup_of other 0 x []
unfolding lookup_of
alone_any bytes other x = refl

added_any : (lump : List ℕ) (patches : List PlacedPatch) (patch : PlacedPatch) (x : ℕ) (lookup : ColumnLookup) (before : List PlacedPatch) → patches_in patches x ≡ before → IsSeen patches x lookup → IsSeen (patches ++ patch ∷ []) x (lookup_with lump patch x lookup)
unfolding seen_lookup
added_any lump patches patch x lookup [] e seen =
    let bytes : ℕ → List ℕ = λ _. lump in
    record {
      bytes = bytes;
      is = ap (lookup_with lump patch x) (seen.is ∙ ap (lookup_of seen.bytes 0 x) e ∙ alone_any seen.bytes bytes x ∙ ap (lookup_of bytes 0 x) (sym e)) ∙ seen_lookup-added bytes patches patch x;
    }
added_any lump patches patch x lookup (first ∷ rest) e seen =
    let bytes = seen.bytes in
    record {
      bytes = bytes;
      is = ap (lookup_with lump patch x) (seen.is ∙ ap (lookup_of bytes 0 x) e) ∙ with_any bytes x patch lump (bytes patch.lump) first rest ∙ ap (lookup_with (bytes patch.lump) patch x) (ap (lookup_of bytes 0 x) (sym e)) ∙ seen_lookup-added bytes patches patch x;
    }

-- all columns once a patch is added to each
pub columns_with-any : (lump : List ℕ) (patches : List PlacedPatch) (patch : PlacedPatch) (columns : List ColumnLookup) → AreSeen patches columns → AreSeen (patches ++ patch ∷ []) (columns_with lump patch columns)
unfolding columns_with
columns_with-any lump patches patch columns are =
    let change : ℕ → ColumnLookup = λ x. lookup_with lump patch x (get_or columns x Empty) in
    let count : length (listed change (length columns)) ≡ length columns = length-listed change (length columns) in
    record {
      at = λ x l.
          let column_within : x < length columns = omega (arith, l, count) in
          subst (IsSeen (patches ++ patch ∷ []) x) (sym (get_or-listed change (length columns) x Empty column_within)) (added_any lump patches patch x (get_or columns x Empty) (patches_in patches x) refl (are.at x column_within));
    }

before_step : (patches : List PlacedPatch) (height : ℕ) (old : List ColumnLookup) (x next : ℕ) → x + 1 ≡ next → next ≤ length old → AreSeen patches old → composed_before height old x ≡ composite_place patches height x → composed_before height old next ≡ composite_place patches height next
before_step patches height old x next e l are h =
    let column_seen = are.at x (omega arith) in
    ap (composed_before height old) (sym e)
    ∙ composed_before-more height old x (omega arith)
    ∙ ap (λ k. k + composed_bytes height (get_or old x Empty)) h
    ∙ ap (λ c. composite_place patches height x + composed_bytes height c) column_seen.is
    ∙ sym (place-more column_seen.bytes patches height x)
    ∙ ap (composite_place patches height) e

before_any : (patches : List PlacedPatch) (height : ℕ) (old : List ColumnLookup) (x : ℕ) → x ≤ length old → AreSeen patches old → composed_before height old x ≡ composite_place patches height x
unfolding composed_before composite_place composed_count composed_columns
before_any patches height old zero l are = omega arith
before_any patches height old (suc x) l are = before_step patches height old x (suc x) (omega arith) l are (before_any patches height old x (omega arith) are)

-- all columns once their places are known
pub columns_any : (patches : List PlacedPatch) (height : ℕ) (old now : List ColumnLookup) (i : ℕ) → length now ≡ length old → length old ≤ i → IsChangedBelow (placed_in height old) old now i → AreSeen patches old → AreColumnsOf patches height now
unfolding column_lookup seen_lookup placed_in
columns_any patches height old now i count all h are = record {
  at = λ x l.
      let column_seen = are.at x (omega arith) in
      record {
        bytes = column_seen.bytes;
        is = h.below x (omega arith)
            ∙ ap (λ p. placed_lookup p (get_or old x Empty)) (before_any patches height old x (omega arith) are)
            ∙ ap (placed_lookup (composite_place patches height x)) column_seen.is
            ∙ placed column_seen.bytes (composite_place patches height x) x (patches_in patches x);
      };
}

-- the bytes of all columns
pub size_any : (patches : List PlacedPatch) (height : ℕ) (old : List ColumnLookup) (i : ℕ) → i ≡ length old → AreSeen patches old → composed_before height old i ≡ composite_size patches (length old) height
unfolding composite_size composite_place
size_any patches height old i e are = ap (composed_before height old) e ∙ before_any patches height old (length old) (omega arith) are
