-- Laws of what the masked pass reads of a drawn fragment: its clips where it has a silhouette or is masked, and its texture columns where it is masked.
use Rattle.picture_rules.proofs.Common.{[], AllZip, and_parts, ap, Bool, cond, false, filter, funext, int_lt, length, length-map, List, map, None, not, Option, option_map, pos, refl, slice_get, Some, suc, sym, true, zero, ℕ, ℤ, ◌&&◌, ◌++◌, ◌+◌, ◌||◌, ◌∙◌, ◌∷◌, ◌≡◌}
use Rattle.frame_core.specs.Rules.{Art, Dot, DrawAlike, Drawseg, SpriteEntry, ViewValue, clip_of_number, clip_of_some, columns_at, drawseg_has, drawseg_scale, gives_bottom, gives_top, greatest, greatest_that, is_behind, joined_lists, listed_from, masked_dots, middle_by, middle_column, middle_masked, middles_at, middles_of, minus_one, passes_at, rows_between, same_number, sprite_bottom, sprite_column, sprite_dots, sprite_in_front, sprite_masked, sprite_step, sprite_top, sprites_from}
use Rattle.picture_rules.proofs.{Laws.greatest-is, sprite.MaskedLemmas.masked_dots-alike}

-- a fragment with nothing where the masked pass does not read
abbrev pub as_read : Drawseg → Drawseg
as_read d = record d {
  bottom_clip = λ x. cond (d.has_bottom || d.masked) (d.bottom_clip x) (pos 0);
  top_clip = λ x. cond (d.has_top || d.masked) (d.top_clip x) (pos 0);
  column = λ x. cond d.masked (d.column x) (pos 0);
}

-- what is read stays
read_first : (has masked : Bool) (z : ℤ) → has ≡ true → cond (has || masked) z (pos 0) ≡ z
read_first true masked z e = refl
read_first false masked z e = absurd (cc)

read_either : (has masked : Bool) (z : ℤ) → masked ≡ true → cond (has || masked) z (pos 0) ≡ z
read_either true masked z e = refl
read_either false true z e = refl
read_either false false z e = absurd (cc)

read_masked : (masked : Bool) (z : ℤ) → masked ≡ true → cond masked z (pos 0) ≡ z
read_masked true z e = refl
read_masked false z e = absurd (cc)

-- the masked columns of a fragment
middle_masked_read : (d : Drawseg) (x : ℕ) → d.masked ≡ true → middle_masked (as_read d) x ≡ middle_masked d x
unfolding middle_masked drawseg_scale
middle_masked_read d x e =
    let top_clip_same = read_either d.has_top d.masked (d.top_clip x) e in
    let bottom_clip_same = read_either d.has_bottom d.masked (d.bottom_clip x) e in cc

middle_column_read : (v : ViewValue) (art : Art) (k : ℕ) (d : Drawseg) (x : ℕ) → d.masked ≡ true → middle_column v art k (as_read d) x ≡ middle_column v art k d x
unfolding middle_column middle_by drawseg_scale
middle_column_read v art k d x e =
    let masked_same = middle_masked_read d x e in
    let column_same = read_masked d.masked (d.column x) e in cc

columns_read : (sprites : List SpriteEntry) (moment : Option ℕ) (d : Drawseg) → columns_at sprites moment (as_read d) ≡ columns_at sprites moment d
unfolding columns_at sprite_in_front is_behind
columns_read sprites moment d = refl

none_kept : (xs : List ℕ) → filter (λ (x : ℕ). false) xs ≡ []
none_kept [] = refl
none_kept (x ∷ xs) = none_kept xs

no_columns : (sprites : List SpriteEntry) (moment : Option ℕ) (d : Drawseg) → d.masked ≡ false → columns_at sprites moment d ≡ []
unfolding columns_at
no_columns sprites moment d e =
    ap (λ (b : Bool). filter (λ x. b && same_number (sprite_in_front sprites d x) moment) (listed_from (λ x. x) d.first d.last)) e
    ∙ none_kept (listed_from (λ x. x) d.first d.last)

middles_by : (v : ViewValue) (art : Art) (sprites : List SpriteEntry) (moment : Option ℕ) (k : ℕ) (d : Drawseg) (masked : Bool) → d.masked ≡ masked →
    joined_lists (middle_column v art k (as_read d)) (columns_at sprites moment d) ≡ joined_lists (middle_column v art k d) (columns_at sprites moment d)
unfolding joined_lists
middles_by v art sprites moment k d true e =
    ap (λ (f : ℕ → List Dot). joined_lists f (columns_at sprites moment d))
    (funext (middle_column v art k (as_read d)) (middle_column v art k d) (λ x. middle_column_read v art k d x e))
middles_by v art sprites moment k d false e =
    ap (joined_lists (middle_column v art k (as_read d))) (no_columns sprites moment d e)
    ∙ sym (ap (joined_lists (middle_column v art k d)) (no_columns sprites moment d e))

middles_read : (v : ViewValue) (art : Art) (sprites : List SpriteEntry) (moment : Option ℕ) (k : ℕ) (o : Option Drawseg) →
    middles_of v art sprites moment k (option_map as_read o) ≡ middles_of v art sprites moment k o
unfolding middles_of
middles_read v art sprites moment k None = refl
middles_read v art sprites moment k (Some d) =
    ap (joined_lists (middle_column v art k (as_read d))) (columns_read sprites moment d) ∙ middles_by v art sprites moment k d d.masked refl

get_read : (ds : List Drawseg) (k : ℕ) → slice_get (map as_read ds) k ≡ option_map as_read (slice_get ds k)
get_read [] k = refl
get_read (d ∷ ds) zero = refl
get_read (d ∷ ds) (suc k) = get_read ds k

middles_at_read : (v : ViewValue) (art : Art) (ds : List Drawseg) (sprites : List SpriteEntry) (moment : Option ℕ) (n : ℕ) →
    middles_at v art (map as_read ds) sprites moment n ≡ middles_at v art ds sprites moment n
unfolding middles_at
middles_at_read v art ds sprites moment zero = refl
middles_at_read v art ds sprites moment (suc n) =
    ap (λ (o : Option Drawseg). middles_of v art sprites moment n o ++ middles_at v art (map as_read ds) sprites moment n) (get_read ds n)
    ∙ ap (λ (xs : List Dot). xs ++ middles_at v art (map as_read ds) sprites moment n) (middles_read v art sprites moment n (slice_get ds n))
    ∙ ap (λ (xs : List Dot). middles_of v art sprites moment n (slice_get ds n) ++ xs) (middles_at_read v art ds sprites moment n)

-- the clips of a sprite
bottom_gives : (e : SpriteEntry) (x : ℕ) (o : Option Drawseg) → passes_at (gives_bottom e x) (option_map as_read o) ≡ passes_at (gives_bottom e x) o
unfolding passes_at gives_bottom drawseg_has is_behind
bottom_gives e x None = refl
bottom_gives e x (Some d) = refl

top_gives : (e : SpriteEntry) (x : ℕ) (o : Option Drawseg) → passes_at (gives_top e x) (option_map as_read o) ≡ passes_at (gives_top e x) o
unfolding passes_at gives_top drawseg_has is_behind
top_gives e x None = refl
top_gives e x (Some d) = refl

greatest_same : (p q : ℕ → Bool) → ((k : ℕ) → p k ≡ q k) → (n : ℕ) → greatest p n ≡ greatest q n
greatest_same p q h n = ap (λ (f : ℕ → Bool). greatest f n) (funext p q h)

that_read : (t : Drawseg → Bool) → ((o : Option Drawseg) → passes_at t (option_map as_read o) ≡ passes_at t o) → (ds : List Drawseg) → greatest_that t (map as_read ds) ≡ greatest_that t ds
unfolding greatest_that
that_read t h ds =
    greatest_same (λ k. passes_at t (slice_get (map as_read ds) k)) (λ k. passes_at t (slice_get ds k)) (λ k. ap (passes_at t) (get_read ds k) ∙ h (slice_get ds k)) (length (map as_read ds))
    ∙ ap (greatest (λ k. passes_at t (slice_get ds k))) (length-map ds as_read)

passes_that : (t : Drawseg → Bool) (ds : List Drawseg) (k : ℕ) → greatest_that t ds ≡ Some k → passes_at t (slice_get ds k) ≡ true
unfolding greatest_that
passes_that t ds k e = (greatest-is (λ k. passes_at t (slice_get ds k)) (length ds) k e).1

passed_read : (has masked first behind test : Bool) (z : ℤ) → (first && (not behind && (has && test))) ≡ true → cond (has || masked) z (pos 0) ≡ z
passed_read has masked first behind test z p =
    read_first has masked z (and_parts has test (and_parts (not behind) (has && test) (and_parts first (not behind && (has && test)) p).1).1).0

bottom_of_some : (e : SpriteEntry) (x : ℕ) (without : ℤ) (o : Option Drawseg) → passes_at (gives_bottom e x) o ≡ true →
    clip_of_some (λ d. d.bottom_clip x) without (option_map as_read o) ≡ clip_of_some (λ d. d.bottom_clip x) without o
unfolding clip_of_some passes_at gives_bottom
bottom_of_some e x without None p = refl
bottom_of_some e x without (Some d) p = passed_read d.has_bottom d.masked (drawseg_has d x) (is_behind d e) (int_lt e.gz d.bottom_height) (d.bottom_clip x) p

top_of_some : (e : SpriteEntry) (x : ℕ) (without : ℤ) (o : Option Drawseg) → passes_at (gives_top e x) o ≡ true →
    clip_of_some (λ d. d.top_clip x) without (option_map as_read o) ≡ clip_of_some (λ d. d.top_clip x) without o
unfolding clip_of_some passes_at gives_top
top_of_some e x without None p = refl
top_of_some e x without (Some d) p = passed_read d.has_top d.masked (drawseg_has d x) (is_behind d e) (int_lt d.top_height e.gzt) (d.top_clip x) p

number_read : (t : Drawseg → Bool) (f : Drawseg → ℤ) (without : ℤ) → ((o : Option Drawseg) → passes_at t o ≡ true → clip_of_some f without (option_map as_read o) ≡ clip_of_some f without o) →
    (ds : List Drawseg) (o : Option ℕ) → ((k : ℕ) → o ≡ Some k → passes_at t (slice_get ds k) ≡ true) → clip_of_number f without (map as_read ds) o ≡ clip_of_number f without ds o
unfolding clip_of_number
number_read t f without h ds None g = refl
number_read t f without h ds (Some k) g = ap (clip_of_some f without) (get_read ds k) ∙ h (slice_get ds k) (g k refl)

sprite_bottom_read : (height : ℕ) (ds : List Drawseg) (e : SpriteEntry) (x : ℕ) → sprite_bottom height (map as_read ds) e x ≡ sprite_bottom height ds e x
unfolding sprite_bottom
sprite_bottom_read height ds e x =
    ap (clip_of_number (λ d. d.bottom_clip x) (pos height) (map as_read ds)) (that_read (gives_bottom e x) (bottom_gives e x) ds)
    ∙ number_read (gives_bottom e x) (λ d. d.bottom_clip x) (pos height) (bottom_of_some e x (pos height)) ds (greatest_that (gives_bottom e x) ds) (passes_that (gives_bottom e x) ds)

sprite_top_read : (ds : List Drawseg) (e : SpriteEntry) (x : ℕ) → sprite_top (map as_read ds) e x ≡ sprite_top ds e x
unfolding sprite_top
sprite_top_read ds e x =
    ap (clip_of_number (λ d. d.top_clip x) minus_one (map as_read ds)) (that_read (gives_top e x) (top_gives e x) ds)
    ∙ number_read (gives_top e x) (λ d. d.top_clip x) minus_one (top_of_some e x minus_one) ds (greatest_that (gives_top e x) ds) (passes_that (gives_top e x) ds)

-- the dots of a sprite
sprite_column_read : (v : ViewValue) (art : Art) (ds : List Drawseg) (e : SpriteEntry) (x : ℕ) → sprite_column v art (map as_read ds) e x ≡ sprite_column v art ds e x
unfolding sprite_column sprite_masked
sprite_column_read v art ds e x = let bottom_same = sprite_bottom_read v.shape.height ds e x in let top_same = sprite_top_read ds e x in cc

sprite_dots_read : (v : ViewValue) (art : Art) (ds : List Drawseg) (e : SpriteEntry) → sprite_dots v art (map as_read ds) e ≡ sprite_dots v art ds e
unfolding sprite_dots
sprite_dots_read v art ds e =
    ap (λ (f : ℕ → List Dot). joined_lists f (rows_between e.first e.last)) (funext (sprite_column v art (map as_read ds) e) (sprite_column v art ds e) (sprite_column_read v art ds e))

sprite_step_read : (v : ViewValue) (art : Art) (ds : List Drawseg) (sprites : List SpriteEntry) (i : ℕ) (e : SpriteEntry) → sprite_step v art (map as_read ds) sprites i e ≡ sprite_step v art ds sprites i e
unfolding sprite_step
sprite_step_read v art ds sprites i e =
    ap (λ (n : ℕ). middles_at v art (map as_read ds) sprites (Some i) n ++ sprite_dots v art (map as_read ds) e) (length-map ds as_read)
    ∙ ap (λ (xs : List Dot). xs ++ sprite_dots v art (map as_read ds) e) (middles_at_read v art ds sprites (Some i) (length ds))
    ∙ ap (λ (xs : List Dot). middles_at v art ds sprites (Some i) (length ds) ++ xs) (sprite_dots_read v art ds e)

sprites_read : (v : ViewValue) (art : Art) (ds : List Drawseg) (sprites : List SpriteEntry) (i : ℕ) (es : List SpriteEntry) → sprites_from v art (map as_read ds) sprites i es ≡ sprites_from v art ds sprites i es
unfolding sprites_from
sprites_read v art ds sprites i [] = refl
sprites_read v art ds sprites i (e ∷ es) =
    ap (λ (xs : List Dot). xs ++ sprites_from v art (map as_read ds) sprites (i + 1) es) (sprite_step_read v art ds sprites i e)
    ∙ ap (λ (xs : List Dot). sprite_step v art ds sprites i e ++ xs) (sprites_read v art ds sprites (i + 1) es)

masked_dots_read : (v : ViewValue) (art : Art) (ds : List Drawseg) (sprites : List SpriteEntry) → masked_dots v art (map as_read ds) sprites ≡ masked_dots v art ds sprites
unfolding masked_dots
masked_dots_read v art ds sprites =
    ap (λ (n : ℕ). sprites_from v art (map as_read ds) sprites 0 sprites ++ middles_at v art (map as_read ds) sprites None n) (length-map ds as_read)
    ∙ ap (λ (xs : List Dot). xs ++ middles_at v art (map as_read ds) sprites None (length ds)) (sprites_read v art ds sprites 0 sprites)
    ∙ ap (λ (xs : List Dot). sprites_from v art ds sprites 0 sprites ++ xs) (middles_at_read v art ds sprites None (length ds))

-- fragments that are alike in what is read of them give the same masked pass
pub masked_dots-read : (v : ViewValue) (art : Art) (ds es : List Drawseg) (sprites : List SpriteEntry) → AllZip DrawAlike (map as_read ds) (map as_read es) → length ds ≡ length es →
    masked_dots v art ds sprites ≡ masked_dots v art es sprites
masked_dots-read v art ds es sprites h l =
    sym (masked_dots_read v art ds sprites)
    ∙ masked_dots-alike v art (map as_read ds) (map as_read es) sprites h (length-map ds as_read ∙ l ∙ sym (length-map es as_read))
    ∙ masked_dots_read v art es sprites
