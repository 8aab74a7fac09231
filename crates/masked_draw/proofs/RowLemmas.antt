-- Laws of the clips that a sprite takes from the fragments, the last first: the first that is taken stays.
use Rattle.picture_rules.proofs.Common.{ap, arith, Bool, cond, drop, false, get_or-drop, get_or-take, length, length-drop, length-take, List, None, Option, option_map, refl, slice_get, Some, sym, true, ℕ, ℤ, take, ◌+◌, ◌-◌, ◌<◌, ◌∙◌, ◌≡◌}
use Rattle.masked_draw.specs.Rules.{Drawseg, greatest, greatest_that, listed, or_else, passes_at}
use Rattle.picture_rules.proofs.Laws.{greatest-more, listed-all}
use Rattle.masked_draw.specs.Clipped.{row_in, row_after}
use Rattle.masked_draw.specs.Strips.{noted_clip}

-- the clip of the greatest fragment below m that passes
pub seen_row : (Drawseg → ℤ) → (Drawseg → Bool) → List Drawseg → ℕ → Option ℤ
seen_row clip test ds m = noted_clip clip ds (greatest (λ k. passes_at test (slice_get ds k)) m)

pub seen_row-none : (clip : Drawseg → ℤ) (test : Drawseg → Bool) (ds : List Drawseg) → seen_row clip test ds 0 ≡ None
unfolding seen_row noted_clip greatest
seen_row-none clip test ds = refl

noted_clip-step : (clip : Drawseg → ℤ) (ds : List Drawseg) (m : ℕ) (d : Drawseg) (b : Bool) (rest : Option ℕ) (old : Option ℤ) → slice_get ds m ≡ Some d →
    or_else old (noted_clip clip ds (cond b (Some m) rest)) ≡ or_else (row_after b (clip d) old) (noted_clip clip ds rest)
unfolding noted_clip
noted_clip-step clip ds m d b rest (Some r) h = refl
noted_clip-step clip ds m d true rest None h = ap (option_map clip) h
noted_clip-step clip ds m d false rest None h = refl

passes_some : (test : Drawseg → Bool) (d : Drawseg) (o : Option Drawseg) → o ≡ Some d → passes_at test o ≡ test d
unfolding passes_at
passes_some test d o h = ap (passes_at test) h

-- one fragment more
pub seen_row-more : (clip : Drawseg → ℤ) (test : Drawseg → Bool) (ds : List Drawseg) (m : ℕ) (d : Drawseg) (old : Option ℤ) → slice_get ds m ≡ Some d →
    or_else old (seen_row clip test ds (m + 1)) ≡ or_else (row_after (test d) (clip d) old) (seen_row clip test ds m)
unfolding seen_row
seen_row-more clip test ds m d old h =
    let passes_test = λ (k : ℕ). passes_at test (slice_get ds k) in
    ap (λ (o : Option ℕ). or_else old (noted_clip clip ds o)) (greatest-more passes_test m)
    ∙ ap (λ (b : Bool). or_else old (noted_clip clip ds (cond b (Some m) (greatest passes_test m)))) (passes_some test d (slice_get ds m) h)
    ∙ noted_clip-step clip ds m d (test d) (greatest passes_test m) old h

-- In some columns the rows are those of the fragments from m on, by a clip and a test of each column.
pub record RowsFrom (clip : ℕ → Drawseg → ℤ) (test : ℕ → Drawseg → Bool) (ds : List Drawseg) (has : ℕ → Bool) (m : ℕ) (rows : List (Option ℤ)) : Type 0 where
  pub seen : (x : ℕ) → has x ≡ true → or_else (row_in rows x) (seen_row (clip x) (test x) ds m) ≡ seen_row (clip x) (test x) ds (length ds)

module _ (clip : ℕ → Drawseg → ℤ) (test : ℕ → Drawseg → Bool) (ds : List Drawseg) (has : ℕ → Bool) where
  pub rows-start : (rows : List (Option ℤ)) → ((x : ℕ) → has x ≡ true → row_in rows x ≡ None) → RowsFrom clip test ds has (length ds) rows
  rows-start rows h = record { seen = λ x l. ap (λ (o : Option ℤ). or_else o (seen_row (clip x) (test x) ds (length ds))) (h x l) }

  pub rows-more : (m : ℕ) (old new : List (Option ℤ)) (d : Drawseg) → slice_get ds m ≡ Some d →
      ((x : ℕ) → has x ≡ true → row_in new x ≡ row_after (test x d) (clip x d) (row_in old x)) → RowsFrom clip test ds has (m + 1) old → RowsFrom clip test ds has m new
  rows-more m old new d g s h = record {
    seen = λ x l.
        ap (λ (o : Option ℤ). or_else o (seen_row (clip x) (test x) ds m)) (s x l)
        ∙ sym (seen_row-more (clip x) (test x) ds m d (row_in old x) g) ∙ h.seen x l;
  }

  or_else-none : (o : Option ℤ) → or_else o None ≡ o
  or_else-none None = refl
  or_else-none (Some r) = refl

  -- after all fragments they are those of the greatest that passes
  pub rows-end : (rows : List (Option ℤ)) → RowsFrom clip test ds has 0 rows → (x : ℕ) → has x ≡ true → row_in rows x ≡ noted_clip (clip x) ds (greatest_that (test x) ds)
  unfolding seen_row greatest_that
  rows-end rows h x l =
      sym (ap (or_else (row_in rows x)) (seen_row-none (clip x) (test x) ds) ∙ or_else-none (row_in rows x)) ∙ h.seen x l

-- a part of the rows, one by one
pub part-listed : (rows : List (Option ℤ)) (first last : ℕ) → last < length rows → take (last + 1 - first) (drop first rows) ≡ listed (λ n. row_in rows (first + n)) (last + 1 - first)
part-listed rows first last l =
    let count : ℕ = last + 1 - first in
    let dropped = length-drop first rows in
    listed-all (λ n. row_in rows (first + n)) (take count (drop first rows)) count None (length-take count (drop first rows) ∙ omega (arith, dropped, l))
    (λ n k. get_or-take count (drop first rows) n None k ∙ get_or-drop first rows n None)
