-- The texels of a texture whose patches have other numbers: where the bytes of the one are those of the other, so are
-- the texels.
use Rattle.art_rules.proofs.Common.{[], ap, Bool, cond, false, filter, length, List, map, nat_lt, range_with_len, refl, suc, true, ℕ, ◌*◌, ◌∙◌, ◌∷◌, ◌≡◌}
use Rattle.trim_rules.specs.Rules.{ColumnLookup, Composed, Empty, PlacedPatch, Single, column_lookup, column_posts, composed_byte, composed_column, composed_columns, composed_count, composite, composite_place, is_composed, joined_lists, listed, lookup_of, own_column, patch_texel, patches_in, placed_posts, stands_in, texel, texel_of}

-- a patch whose lump has another number
abbrev pub moved : (ℕ → ℕ) → PlacedPatch → PlacedPatch
moved σ p = record { lump = σ p.lump; x = p.x; y = p.y; width = p.width }

stands-moved : (σ : ℕ → ℕ) (x : ℕ) (p : PlacedPatch) → stands_in x (moved σ p) ≡ stands_in x p
unfolding stands_in
stands-moved σ x p = refl

in_step : (σ : ℕ → ℕ) (b : Bool) (p : PlacedPatch) (ps : List PlacedPatch) → cond b (moved σ p ∷ map (moved σ) ps) (map (moved σ) ps) ≡ map (moved σ) (cond b (p ∷ ps) ps)
in_step σ true p ps = refl
in_step σ false p ps = refl

pub patches_in-moved : (σ : ℕ → ℕ) (ps : List PlacedPatch) (x : ℕ) → patches_in (map (moved σ) ps) x ≡ map (moved σ) (patches_in ps x)
unfolding patches_in
patches_in-moved σ [] x = refl
patches_in-moved σ (p ∷ ps) x =
    rw (stands-moved σ x p, patches_in-moved σ ps x) (in_step σ (stands_in x p) p (filter (stands_in x) ps))

length-moved : (σ : ℕ → ℕ) (ps : List PlacedPatch) → length (map (moved σ) ps) ≡ length ps
length-moved σ [] = refl
length-moved σ (p ∷ ps) = ap suc (length-moved σ ps)

composed-moved : (σ : ℕ → ℕ) (ps : List PlacedPatch) (x : ℕ) → is_composed (map (moved σ) ps) x ≡ is_composed ps x
unfolding is_composed
composed-moved σ ps x = ap (nat_lt 1) (ap length (patches_in-moved σ ps x) ∙ length-moved σ (patches_in ps x))

filter-same : (p q : ℕ → Bool) → ((n : ℕ) → p n ≡ q n) → (ns : List ℕ) → filter p ns ≡ filter q ns
filter-same p q same [] = refl
filter-same p q same (n ∷ ns) = rw (same n, filter-same p q same ns) refl

pub composed_columns-moved : (σ : ℕ → ℕ) (ps : List PlacedPatch) (n : ℕ) → composed_columns (map (moved σ) ps) n ≡ composed_columns ps n
unfolding composed_columns
composed_columns-moved σ ps n = filter-same (is_composed (map (moved σ) ps)) (is_composed ps) (composed-moved σ ps) (range_with_len 0 n)

pub composite_place-moved : (σ : ℕ → ℕ) (ps : List PlacedPatch) (height x : ℕ) → composite_place (map (moved σ) ps) height x ≡ composite_place ps height x
unfolding composite_place composed_count
composite_place-moved σ ps height x = ap (λ ns. height * length ns) (composed_columns-moved σ ps x)

-- the posts of a column
placed-moved : (bytes : ℕ → List ℕ) (σ : ℕ → ℕ) (x : ℕ) (p : PlacedPatch) → placed_posts bytes x (moved σ p) ≡ placed_posts (λ n. bytes (σ n)) x p
unfolding placed_posts own_column
placed-moved bytes σ x p = refl

joined-moved : (bytes : ℕ → List ℕ) (σ : ℕ → ℕ) (x : ℕ) (ps : List PlacedPatch)
    → joined_lists (placed_posts bytes x) (map (moved σ) ps) ≡ joined_lists (placed_posts (λ n. bytes (σ n)) x) ps
unfolding joined_lists
joined-moved bytes σ x [] = refl
joined-moved bytes σ x (p ∷ ps) = rw (placed-moved bytes σ x p, joined-moved bytes σ x ps) refl

pub column_posts-moved : (bytes : ℕ → List ℕ) (σ : ℕ → ℕ) (ps : List PlacedPatch) (x : ℕ)
    → column_posts bytes (map (moved σ) ps) x ≡ column_posts (λ n. bytes (σ n)) ps x
unfolding column_posts
column_posts-moved bytes σ ps x = ap (joined_lists (placed_posts bytes x)) (patches_in-moved σ ps x) ∙ joined-moved bytes σ x (patches_in ps x)

column-moved : (bytes : ℕ → List ℕ) (σ : ℕ → ℕ) (ps : List PlacedPatch) (height x : ℕ)
    → composed_column bytes (map (moved σ) ps) height x ≡ composed_column (λ n. bytes (σ n)) ps height x
unfolding composed_column
column-moved bytes σ ps height x = ap (λ posts. listed (composed_byte height posts) height) (column_posts-moved bytes σ ps x)

joined-same : (f g : ℕ → List ℕ) → ((n : ℕ) → f n ≡ g n) → (ns : List ℕ) → joined_lists f ns ≡ joined_lists g ns
unfolding joined_lists
joined-same f g same [] = refl
joined-same f g same (n ∷ ns) = rw (same n, joined-same f g same ns) refl

pub composite-moved : (bytes : ℕ → List ℕ) (σ : ℕ → ℕ) (ps : List PlacedPatch) (width height : ℕ)
    → composite bytes (map (moved σ) ps) width height ≡ composite (λ n. bytes (σ n)) ps width height
unfolding composite
composite-moved bytes σ ps width height =
    ap (joined_lists (composed_column bytes (map (moved σ) ps) height)) (composed_columns-moved σ ps width)
    ∙ joined-same (composed_column bytes (map (moved σ) ps) height) (composed_column (λ n. bytes (σ n)) ps height) (column-moved bytes σ ps height) (composed_columns ps width)

single-moved : (bytes : ℕ → List ℕ) (σ : ℕ → ℕ) (x : ℕ) (p : PlacedPatch) (r : ℕ) → patch_texel bytes x (moved σ p) r ≡ patch_texel (λ n. bytes (σ n)) x p r
unfolding patch_texel own_column
single-moved bytes σ x p r = refl

of-moved : (bytes : ℕ → List ℕ) (σ : ℕ → ℕ) (here ps : List PlacedPatch) (width height x r : ℕ)
    → texel_of bytes (map (moved σ) here) (map (moved σ) ps) width height x r ≡ texel_of (λ n. bytes (σ n)) here ps width height x r
unfolding texel_of
of-moved bytes σ [] ps width height x r = refl
of-moved bytes σ (p ∷ []) ps width height x r = single-moved bytes σ x p r
of-moved bytes σ (p ∷ q ∷ rest) ps width height x r =
    rw (composite-moved bytes σ ps width height, composite_place-moved σ ps height x) refl

-- the texels of a texture, by lumps under other numbers
pub texel-moved : (bytes : ℕ → List ℕ) (σ : ℕ → ℕ) (ps : List PlacedPatch) (width height x r : ℕ)
    → texel bytes (map (moved σ) ps) width height x r ≡ texel (λ n. bytes (σ n)) ps width height x r
unfolding texel
texel-moved bytes σ ps width height x r =
    ap (λ here. texel_of bytes here (map (moved σ) ps) width height x r) (patches_in-moved σ ps x)
    ∙ of-moved bytes σ (patches_in ps x) ps width height x r

-- what a column is read from, under other numbers
abbrev pub moved_lookup : (ℕ → ℕ) → ColumnLookup → ColumnLookup
moved_lookup σ Empty = Empty
moved_lookup σ (Single lump place) = Single (σ lump) place
moved_lookup σ (Composed place) = Composed place

lookup-moved : (bytes : ℕ → List ℕ) (σ : ℕ → ℕ) (start x : ℕ) (here : List PlacedPatch)
    → lookup_of bytes start x (map (moved σ) here) ≡ moved_lookup σ (lookup_of (λ n. bytes (σ n)) start x here)
unfolding lookup_of own_column
lookup-moved bytes σ start x [] = refl
lookup-moved bytes σ start x (p ∷ []) = refl
lookup-moved bytes σ start x (p ∷ q ∷ rest) = refl

pub column_lookup-moved : (bytes : ℕ → List ℕ) (σ : ℕ → ℕ) (ps : List PlacedPatch) (height x : ℕ)
    → column_lookup bytes (map (moved σ) ps) height x ≡ moved_lookup σ (column_lookup (λ n. bytes (σ n)) ps height x)
unfolding column_lookup
column_lookup-moved bytes σ ps height x =
    ap (λ here. lookup_of bytes (composite_place (map (moved σ) ps) height x) x here) (patches_in-moved σ ps x)
    ∙ ap (λ start. lookup_of bytes start x (map (moved σ) (patches_in ps x))) (composite_place-moved σ ps height x)
    ∙ lookup-moved bytes σ (composite_place ps height x) x (patches_in ps x)
