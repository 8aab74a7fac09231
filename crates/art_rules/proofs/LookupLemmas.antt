-- Laws of what each column of a texture is read from, and of the composite.
use Rattle.word_rules.proofs.Common.{[], ap, arith, get_or-replicate, get_or_default, length, length-append, length-replicate, List, nat_lt, nat_tests, refl, replicate, replicate-append-replicate, slice_index_or, suc, sym, take_all, true, ℕ, ◌*◌, ◌++◌, ◌+◌, ◌<◌, ◌==◌, ◌∙◌, ◌∷◌, ◌≡◌}
use Rattle.word_rules.specs.Listed.{joined_lists}
use Rattle.word_rules.proofs.ListedLemmas.{get_or-listed, length-listed, listed-all}
use Rattle.art_rules.specs.{declared.PlacedPatch.PlacedPatch, declared.ColumnLookup.ColumnLookup}
use Rattle.art_rules.specs.declared.ColumnLookup.TheVariants.{Empty, Composed}
use Rattle.art_rules.specs.Columns.{patches_in, is_composed, is_single, composed_columns, composed_count, composite_size, composite_place, last_put, composed_byte, column_posts, composed_column, composite, patch_texel, texel_of, texel}
use Rattle.art_rules.specs.Lookups.{lookup_of, column_lookup, column_lookups, AreColumnsOf, composite_of_first, texel_by, single_place, is_single_lookup, is_composed_lookup}

texel_of-lookup_of : (bytes : ℕ → List ℕ) (standing patches : List PlacedPatch) (width height x r : ℕ) → texel_of bytes standing patches width height x r ≡ texel_by bytes (composite bytes patches width height) (lookup_of bytes (composite_place patches height x) x standing) r
unfolding texel_of texel_by lookup_of patch_texel
texel_of-lookup_of bytes [] patches width height x r = refl
texel_of-lookup_of bytes (patch ∷ []) patches width height x r = refl
texel_of-lookup_of bytes (first ∷ second ∷ rest) patches width height x r = refl

-- a texel is that of its column's lookup
pub texel_by-texel : (bytes : ℕ → List ℕ) (patches : List PlacedPatch) (width height x r : ℕ) → texel bytes patches width height x r ≡ texel_by bytes (composite bytes patches width height) (column_lookup bytes patches height x) r
unfolding texel column_lookup
texel_by-texel bytes patches width height x r = texel_of-lookup_of bytes (patches_in patches x) patches width height x r

-- there are as many lookups as columns
pub length-column_lookups : (bytes : ℕ → List ℕ) (patches : List PlacedPatch) (width height : ℕ) → length (column_lookups bytes patches width height) ≡ width
unfolding column_lookups
length-column_lookups bytes patches width height = length-listed (column_lookup bytes patches height) width

-- the lookup of a column of the texture, with a default
pub column_lookups-read : (bytes : ℕ → List ℕ) (patches : List PlacedPatch) (width height x : ℕ) (d : ColumnLookup) → x < width → slice_index_or (column_lookups bytes patches width height) x d ≡ column_lookup bytes patches height x
unfolding column_lookups
column_lookups-read bytes patches width height x d l = get_or-listed (column_lookup bytes patches height) width x d l

lookup_of-single : (bytes : ℕ → List ℕ) (start x : ℕ) (standing : List PlacedPatch) → is_single_lookup (lookup_of bytes start x standing) ≡ (length standing == 1)
unfolding is_single_lookup single_place lookup_of
lookup_of-single bytes start x [] = refl
lookup_of-single bytes start x (patch ∷ []) = refl
lookup_of-single bytes start x (first ∷ second ∷ rest) = grind (arith, nat_tests)

lookup_of-composed : (bytes : ℕ → List ℕ) (start x : ℕ) (standing : List PlacedPatch) → is_composed_lookup (lookup_of bytes start x standing) ≡ nat_lt 1 (length standing)
unfolding is_composed_lookup lookup_of
lookup_of-composed bytes start x [] = refl
lookup_of-composed bytes start x (patch ∷ []) = refl
lookup_of-composed bytes start x (first ∷ second ∷ rest) = grind (arith, nat_tests)

-- a column is read from one lump exactly where one patch stands in it
pub column_lookup-single : (bytes : ℕ → List ℕ) (patches : List PlacedPatch) (height x : ℕ) → is_single_lookup (column_lookup bytes patches height x) ≡ is_single patches x
unfolding column_lookup is_single
column_lookup-single bytes patches height x = lookup_of-single bytes (composite_place patches height x) x (patches_in patches x)

-- it is read from the composite exactly where several stand in it
pub column_lookup-composed : (bytes : ℕ → List ℕ) (patches : List PlacedPatch) (height x : ℕ) → is_composed_lookup (column_lookup bytes patches height x) ≡ is_composed patches x
unfolding column_lookup is_composed
column_lookup-composed bytes patches height x = lookup_of-composed bytes (composite_place patches height x) x (patches_in patches x)

lookup_of-place : (bytes : ℕ → List ℕ) (start x : ℕ) (standing : List PlacedPatch) → nat_lt 1 (length standing) ≡ true → lookup_of bytes start x standing ≡ Composed start
unfolding lookup_of
lookup_of-place bytes start x [] e = cc
lookup_of-place bytes start x (patch ∷ []) e = cc
lookup_of-place bytes start x (first ∷ second ∷ rest) e = refl

-- where it begins in the composite
pub column_lookup-place : (bytes : ℕ → List ℕ) (patches : List PlacedPatch) (height x : ℕ) → is_composed patches x ≡ true → column_lookup bytes patches height x ≡ Composed (composite_place patches height x)
unfolding column_lookup is_composed
column_lookup-place bytes patches height x e = lookup_of-place bytes (composite_place patches height x) x (patches_in patches x) e

-- the same of columns whose lumps' bytes are not told: which are of one patch
pub columns_of-single : (patches : List PlacedPatch) (height : ℕ) (columns : List ColumnLookup) (x : ℕ) (d : ColumnLookup) → AreColumnsOf patches height columns → x < length columns → is_single_lookup (slice_index_or columns x d) ≡ is_single patches x
columns_of-single patches height columns x d are l =
    let column = are.at x l in
    ap is_single_lookup (get_or_default columns x d Empty l ∙ column.is) ∙ column_lookup-single column.bytes patches height x

-- which are composed
pub columns_of-composed : (patches : List PlacedPatch) (height : ℕ) (columns : List ColumnLookup) (x : ℕ) (d : ColumnLookup) → AreColumnsOf patches height columns → x < length columns → is_composed_lookup (slice_index_or columns x d) ≡ is_composed patches x
columns_of-composed patches height columns x d are l =
    let column = are.at x l in
    ap is_composed_lookup (get_or_default columns x d Empty l ∙ column.is) ∙ column_lookup-composed column.bytes patches height x

-- and where those begin
pub columns_of-place : (patches : List PlacedPatch) (height : ℕ) (columns : List ColumnLookup) (x : ℕ) (d : ColumnLookup) → AreColumnsOf patches height columns → x < length columns → is_composed patches x ≡ true → slice_index_or columns x d ≡ Composed (composite_place patches height x)
columns_of-place patches height columns x d are l e =
    let column = are.at x l in
    get_or_default columns x d Empty l ∙ column.is ∙ column_lookup-place column.bytes patches height x e

length-composed_column : (bytes : ℕ → List ℕ) (patches : List PlacedPatch) (height x : ℕ) → length (composed_column bytes patches height x) ≡ height
unfolding composed_column
length-composed_column bytes patches height x = length-listed (composed_byte height (column_posts bytes patches x)) height

length-joined : (f : ℕ → List ℕ) (height : ℕ) (xs : List ℕ) → ((x : ℕ) → length (f x) ≡ height) → length (joined_lists f xs) ≡ height * length xs
unfolding joined_lists
length-joined f height [] each = omega arith
length-joined f height (x ∷ xs) each =
    let rest_length = length-joined f height xs each in
    length-append (f x) (joined_lists f xs) ∙ omega (arith, each x, rest_length)

-- the composite has the bytes of its composed columns
pub composite_size-length : (bytes : ℕ → List ℕ) (patches : List PlacedPatch) (width height : ℕ) → length (composite bytes patches width height) ≡ composite_size patches width height
unfolding composite composite_size composed_count
composite_size-length bytes patches width height =
    length-joined (composed_column bytes patches height) height (composed_columns patches width) (length-composed_column bytes patches height)

-- once all patches are put it is the composite
pub composite_of_first-all : (bytes : ℕ → List ℕ) (patches : List PlacedPatch) (width height : ℕ) → composite_of_first bytes patches (length patches) width height ≡ composite bytes patches width height
unfolding composite_of_first composite
composite_of_first-all bytes patches width height =
    ap (λ ps. joined_lists (composed_column bytes ps height) (composed_columns patches width)) (take_all (length patches) patches (omega arith))

blank_column : (bytes : ℕ → List ℕ) (height x : ℕ) → composed_column bytes [] height x ≡ replicate height 0
unfolding composed_column composed_byte column_posts patches_in joined_lists last_put
blank_column bytes height x =
    sym (listed-all (composed_byte height (column_posts bytes [] x)) (replicate height 0) height 0 (length-replicate height 0) (λ k l. get_or-replicate height k 0 0 l))

joined_same : (f : ℕ → List ℕ) (height : ℕ) (xs : List ℕ) → ((x : ℕ) → f x ≡ replicate height 0) → joined_lists f xs ≡ replicate (height * length xs) 0
unfolding joined_lists
joined_same f height [] each = let product_is_zero : 0 ≡ height * 0 = omega arith in ap (λ (n : ℕ). replicate n 0) product_is_zero
joined_same f height (x ∷ xs) each =
    let product_more : height + height * length xs ≡ height * suc (length xs) = omega arith in
    ap (λ ys. ys ++ joined_lists f xs) (each x)
    ∙ ap (λ ys. replicate height 0 ++ ys) (joined_same f height xs each)
    ∙ replicate-append-replicate height (height * length xs) 0
    ∙ ap (λ (n : ℕ). replicate n 0) product_more

-- while no patch is put each byte is 0
pub composite_of_first-none : (bytes : ℕ → List ℕ) (patches : List PlacedPatch) (width height : ℕ) → composite_of_first bytes patches 0 width height ≡ replicate (composite_size patches width height) 0
unfolding composite_of_first composite_size composed_count
composite_of_first-none bytes patches width height =
    joined_same (composed_column bytes [] height) height (composed_columns patches width) (blank_column bytes height)
