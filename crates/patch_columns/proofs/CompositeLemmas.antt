-- Laws of the composite while a patch is put into it column by column.
use Rattle.art_rules.proofs.Common.{[], ap, append-nil, Bool, both_ways, cond, false, filter, filter-append, get_or, get_or_from_slice_get, length, List, refl, slice_get, slice_get_within, Some, sym, take, take_more, true, ℕ, ◌++◌, ◌+◌, ◌<◌, ◌∙◌, ◌∷◌, ◌≡◌}
use Rattle.patch_columns.specs.Rules.{AreColumnsOf, ColumnLookup, Composed, PlacedPatch, PlacedPost, column_place, column_posts, composed_byte, composed_column, composed_columns, composed_count, composite_of_first, composite_place, is_composed, is_composed_lookup, joined_lists, listed, own_column, patches_in, placed_posts, stands_in}
use Rattle.art_rules.proofs.Laws.{joined_lists-append, length-listed}
use Rattle.art_rules.proofs.LookupLemmas.{columns_of-composed, columns_of-place}
use Rattle.patch_columns.specs.Composites.{placed_post, posts_at, posts_in, with_posts}
use Rattle.patch_columns.proofs.ColumnLemmas.{with_posts-composed}
use Rattle.patch_columns.proofs.JoinedLemmas.{joined_up_to, joined_up_to-none, joined_up_to-all, joined_up_to-skip, joined_up_to-here, joined_up_to-next, length-joined_lists, below, onward}

-- the posts of a patch are those that its own column has
placed_posts-here : (bytes : ℕ → List ℕ) (lump : List ℕ) (x : ℕ) (patch : PlacedPatch) → bytes patch.lump ≡ lump → placed_posts bytes x patch ≡ posts_at lump (column_place lump (own_column x patch)) patch.y
unfolding placed_posts posts_at placed_post
placed_posts-here bytes lump x patch e = ap (λ (l : List ℕ). posts_at l (column_place l (own_column x patch)) patch.y) e

last_posts : (bytes : ℕ → List ℕ) (lump : List ℕ) (x : ℕ) (patch : PlacedPatch) (b : Bool) → stands_in x patch ≡ b → bytes patch.lump ≡ lump → joined_lists (placed_posts bytes x) (cond b (patch ∷ []) []) ≡ posts_in lump patch x
unfolding joined_lists posts_in
last_posts bytes lump x patch true s e = rw s (append-nil (placed_posts bytes x patch) ∙ placed_posts-here bytes lump x patch e)
last_posts bytes lump x patch false s e = rw s

-- one patch more puts its posts last
pub column_posts-more : (bytes : ℕ → List ℕ) (lump : List ℕ) (x : ℕ) (before : List PlacedPatch) (patch : PlacedPatch) → bytes patch.lump ≡ lump → column_posts bytes (before ++ patch ∷ []) x ≡ column_posts bytes before x ++ posts_in lump patch x
unfolding column_posts patches_in
column_posts-more bytes lump x before patch e =
    ap (joined_lists (placed_posts bytes x)) (filter-append (stands_in x) before (patch ∷ []))
    ∙ joined_lists-append (placed_posts bytes x) (filter (stands_in x) before) (cond (stands_in x patch) (patch ∷ []) [])
    ∙ ap (λ (ps : List PlacedPost). joined_lists (placed_posts bytes x) (filter (stands_in x) before) ++ ps) (last_posts bytes lump x patch (stands_in x patch) refl e)

-- patch n of a texture, and the bytes of its lump
pub record IsNext (bytes : ℕ → List ℕ) (patches : List PlacedPatch) (n : ℕ) (lump : List ℕ) (patch : PlacedPatch) : Type 0 where
  pub is : slice_get patches n ≡ Some patch
  pub its : bytes patch.lump ≡ lump

take_next : (patches : List PlacedPatch) (n : ℕ) (patch : PlacedPatch) → slice_get patches n ≡ Some patch → take (n + 1) patches ≡ take n patches ++ patch ∷ []
take_next patches n patch e =
    take_more patches n patch (slice_get_within patches n patch e)
    ∙ ap (λ (p : PlacedPatch). take n patches ++ p ∷ []) (get_or_from_slice_get patches n patch patch e)

-- a composed column once one patch more is put
composed_column-more : (bytes : ℕ → List ℕ) (patches : List PlacedPatch) (n height x : ℕ) (lump : List ℕ) (patch : PlacedPatch) → IsNext bytes patches n lump patch → composed_column bytes (take (n + 1) patches) height x ≡ with_posts (composed_column bytes (take n patches) height x) (posts_in lump patch x)
unfolding composed_column
composed_column-more bytes patches n height x lump patch h =
    let posts_one_more : column_posts bytes (take (n + 1) patches) x ≡ column_posts bytes (take n patches) x ++ posts_in lump patch x =
    ap (λ (ps : List PlacedPatch). column_posts bytes ps x) (take_next patches n patch h.is) ∙ column_posts-more bytes lump x (take n patches) patch h.its in
    ap (λ (ps : List PlacedPost). listed (composed_byte height ps) height) posts_one_more
    ∙ sym (with_posts-composed height (column_posts bytes (take n patches) x) (posts_in lump patch x))

-- the same, with the columns of the texture, where the composite has the patches before it
pub record IsPutting (bytes : ℕ → List ℕ) (patches : List PlacedPatch) (n : ℕ) (lump : List ℕ) (patch : PlacedPatch) (height : ℕ) (columns : List ColumnLookup) (composite : List ℕ) : Type 0 where
  pub next : IsNext bytes patches n lump patch
  pub lookups : AreColumnsOf patches height columns
  pub before : composite ≡ composite_of_first bytes patches n (length columns) height

-- the composite once patch n is put into the columns below x
unfoldable pub composite_up_to : (ℕ → List ℕ) → List PlacedPatch → ℕ → ℕ → ℕ → ℕ → List ℕ
composite_up_to bytes patches n height x width =
    joined_up_to (composed_column bytes (take (n + 1) patches) height) (composed_column bytes (take n patches) height) (is_composed patches) x width

pub composite_up_to-none : (bytes : ℕ → List ℕ) (patches : List PlacedPatch) (n height width : ℕ) → composite_of_first bytes patches n width height ≡ composite_up_to bytes patches n height 0 width
unfolding composite_up_to composite_of_first composed_columns
composite_up_to-none bytes patches n height width =
    joined_up_to-none (composed_column bytes (take (n + 1) patches) height) (composed_column bytes (take n patches) height) (is_composed patches) width

pub composite_up_to-all : (bytes : ℕ → List ℕ) (patches : List PlacedPatch) (n height width : ℕ) → composite_up_to bytes patches n height width width ≡ composite_of_first bytes patches (n + 1) width height
unfolding composite_up_to composite_of_first composed_columns
composite_up_to-all bytes patches n height width =
    joined_up_to-all (composed_column bytes (take (n + 1) patches) height) (composed_column bytes (take n patches) height) (is_composed patches) width

length-composed_column : (bytes : ℕ → List ℕ) (patches : List PlacedPatch) (height x : ℕ) → length (composed_column bytes patches height x) ≡ height
unfolding composed_column
length-composed_column bytes patches height x = length-listed (composed_byte height (column_posts bytes patches x)) height

-- what one call does to a composite: nothing where the column is not composed, and else posts are
-- put into the rows from its place on
pub record Puts (lookup : ColumnLookup) (height : ℕ) (placed : List PlacedPost) (old new : List ℕ) : Type 0 where
  pub other : ((place : ℕ) → lookup ≡ Composed place → ⊥) → new ≡ old
  pub put : (place : ℕ) (before column after : List ℕ) → lookup ≡ Composed place → old ≡ before ++ (column ++ after) → length before ≡ place → length column ≡ height → new ≡ before ++ (with_posts column placed ++ after)

composed_step : (bytes : ℕ → List ℕ) (patches : List PlacedPatch) (n height x width : ℕ) (lump : List ℕ) (patch : PlacedPatch) (lookup : ColumnLookup) (old new : List ℕ) → IsNext bytes patches n lump patch → x < width → is_composed patches x ≡ true → lookup ≡ Composed (composite_place patches height x) → old ≡ composite_up_to bytes patches n height x width → Puts lookup height (posts_in lump patch x) old new → new ≡ composite_up_to bytes patches n height (x + 1) width
unfolding composite_up_to composite_place composed_count composed_columns
composed_step bytes patches n height x width lump patch lookup old new is l on at before puts =
    let column_after = composed_column bytes (take (n + 1) patches) height in
    let column_before = composed_column bytes (take n patches) height in
    let composed_at = is_composed patches in
    let front = joined_lists column_after (below composed_at x) in
    let columns_behind = joined_lists column_before (onward composed_at (x + 1) width) in
    puts.put (composite_place patches height x) front (column_before x) columns_behind at
    (before ∙ joined_up_to-here column_after column_before composed_at x width l on)
    (length-joined_lists column_after height (below composed_at x) (length-composed_column bytes (take (n + 1) patches) height))
    (length-composed_column bytes (take n patches) height x)
    ∙ ap (λ (column : List ℕ). front ++ (column ++ columns_behind)) (sym (composed_column-more bytes patches n height x lump patch is))
    ∙ sym (joined_up_to-next column_after column_before composed_at x width on)

other_step : (bytes : ℕ → List ℕ) (patches : List PlacedPatch) (n height x width : ℕ) (placed : List PlacedPost) (lookup : ColumnLookup) (old new : List ℕ) → x < width → is_composed patches x ≡ false → ((place : ℕ) → lookup ≡ Composed place → ⊥) → old ≡ composite_up_to bytes patches n height x width → Puts lookup height placed old new → new ≡ composite_up_to bytes patches n height (x + 1) width
unfolding composite_up_to
other_step bytes patches n height x width placed lookup old new l off not before puts =
    puts.other not ∙ before
    ∙ joined_up_to-skip (composed_column bytes (take (n + 1) patches) height) (composed_column bytes (take n patches) height) (is_composed patches) x width l off

step : (bytes : ℕ → List ℕ) (patches : List PlacedPatch) (n height x width : ℕ) (lump : List ℕ) (patch : PlacedPatch) (lookup : ColumnLookup) (old new : List ℕ) (b : Bool) → IsNext bytes patches n lump patch → x < width → is_composed patches x ≡ b → is_composed_lookup lookup ≡ b → (is_composed patches x ≡ true → lookup ≡ Composed (composite_place patches height x)) → old ≡ composite_up_to bytes patches n height x width → Puts lookup height (posts_in lump patch x) old new → new ≡ composite_up_to bytes patches n height (x + 1) width
unfolding is_composed_lookup
step bytes patches n height x width lump patch lookup old new true is l b e at before puts =
    composed_step bytes patches n height x width lump patch lookup old new is l b (at b) before puts
step bytes patches n height x width lump patch lookup old new false is l b e at before puts =
    other_step bytes patches n height x width (posts_in lump patch x) lookup old new l b
    (λ place h. both_ways (is_composed_lookup lookup) e (ap is_composed_lookup h)) before puts

-- one column more
pub composite_up_to-more : (bytes : ℕ → List ℕ) (patches : List PlacedPatch) (n height x : ℕ) (lump : List ℕ) (patch : PlacedPatch) (columns : List ColumnLookup) (past : ColumnLookup) (first old new : List ℕ) → IsPutting bytes patches n lump patch height columns first → x < length columns → old ≡ composite_up_to bytes patches n height x (length columns) → Puts (get_or columns x past) height (posts_in lump patch x) old new → new ≡ composite_up_to bytes patches n height (x + 1) (length columns)
composite_up_to-more bytes patches n height x lump patch columns past first old new h l before puts =
    step bytes patches n height x (length columns) lump patch (get_or columns x past) old new (is_composed patches x) h.next l refl
    (columns_of-composed patches height columns x past h.lookups l) (columns_of-place patches height columns x past h.lookups l) before puts
