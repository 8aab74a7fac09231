-- Laws of the masked pass: dots in their own columns, one sprite or fragment more, an empty scene, and that fragments alike paint alike.
use Rattle.word_rules.proofs.Common.{[], AllByRecursion, AllZip, ap, append-nil, append_assoc, arith, Bool, cases_lt, cond, false, filter, flat_map, inl, inr, length, List, map, None, Option, range_with_len, refl, slice_get, Some, suc, sym, true, zero, ℕ, ◌&&◌, ◌++◌, ◌+◌, ◌-◌, ◌∙◌, ◌∷◌, ◌≡◌, ◌≤◌}
use Rattle.picture_rules.specs.Rules.{AreInColumn, Art, Dot, MaskedColumn, Painter, Post, ViewShape, ViewValue, joined_lists, listed_from, post_colour, post_dots, post_rows, rows_between}
use Rattle.pixel_rules.proofs.StripLemmas.{in_column-column_dots}
use Rattle.picture_rules.specs.declared.sprite.SpriteEntry.{SpriteEntry}
use Rattle.picture_rules.specs.sprite.Drawsegs.{Drawseg, is_behind, DrawAlike}
use Rattle.picture_rules.specs.sprite.Clips.{sprite_in_front}
use Rattle.picture_rules.specs.sprite.Sprites.{sprite_masked, sprite_column, sprite_dots}
use Rattle.picture_rules.specs.sprite.Middles.{drawseg_scale, middle_masked, middle_by, middle_column, same_number, columns_at, middles_of, middles_at, sprite_step, sprites_from, masked_dots}
use Rattle.picture_rules.proofs.sprite.ClipLemmas.{alike-sprite_bottom, alike-sprite_top}

-- the posts of a column are in that column
in_column-append : (x : ℕ) (xs ys : List Dot) → AreInColumn x xs → AreInColumn x ys → AreInColumn x (xs ++ ys)
in_column-append x [] ys a b = b
in_column-append x (d ∷ ds) ys a b = (a.0, in_column-append x ds ys a.1 b)

in_column_posts : (shape : ViewShape) (painter : Painter) (x : ℕ) (c : MaskedColumn) (byte shade : ℕ → ℕ) (posts : List Post) → AreInColumn x (flat_map (post_dots shape painter x c byte shade) posts)
unfolding post_dots
in_column_posts shape painter x c byte shade [] = tt
in_column_posts shape painter x c byte shade (p ∷ ps) =
    in_column-append x (post_dots shape painter x c byte shade p) (flat_map (post_dots shape painter x c byte shade) ps)
    (in_column-column_dots painter x (post_colour shape c byte shade p) (post_rows shape c p)) (in_column_posts shape painter x c byte shade ps)

-- the masked columns of one fragment more come before those of the others
pub middles_at-more : (v : ViewValue) (art : Art) (ds : List Drawseg) (sprites : List SpriteEntry) (moment : Option ℕ) (k n : ℕ) → k + 1 ≡ n →
    middles_at v art ds sprites moment n ≡ middles_of v art sprites moment k (slice_get ds k) ++ middles_at v art ds sprites moment k
unfolding middles_at
middles_at-more v art ds sprites moment k n e = let is_suc : suc k ≡ n = omega arith in ap (middles_at v art ds sprites moment) (sym is_suc)

-- one sprite more is drawn behind the others in the list
pub sprites_from-more : (v : ViewValue) (art : Art) (ds : List Drawseg) (sprites : List SpriteEntry) (i n : ℕ) (es : List SpriteEntry) (e : SpriteEntry) →
    i + length es ≡ n → sprites_from v art ds sprites i (es ++ e ∷ []) ≡ sprites_from v art ds sprites i es ++ sprite_step v art ds sprites n e
unfolding sprites_from
sprites_from-more v art ds sprites i n [] e h =
    append-nil (sprite_step v art ds sprites i e) ∙ (let is_last : i ≡ n = omega arith in ap (λ (j : ℕ). sprite_step v art ds sprites j e) is_last)
sprites_from-more v art ds sprites i n (f ∷ fs) e h =
    ap (λ (xs : List Dot). sprite_step v art ds sprites i f ++ xs) (sprites_from-more v art ds sprites (i + 1) n fs e (omega arith))
    ∙ sym (append_assoc (sprite_step v art ds sprites i f) (sprites_from v art ds sprites (i + 1) fs) (sprite_step v art ds sprites n e))

-- what follows: fragments alike give the same masked pass
range_within : (low first n last : ℕ) → low ≤ first → first + n ≤ last + 1 → AllByRecursion (λ x. (low ≤ x) × (x ≤ last)) (map (λ x. x) (range_with_len first n))
range_within low first zero last k l = tt
range_within low first (suc n) last k l = ((k, omega arith), range_within low (first + 1) n last (omega arith) (omega arith))

pub from_first : (first last : ℕ) → AllByRecursion (λ x. (first ≤ x) × (x ≤ last)) (map (λ x. x) (range_with_len first (last + 1 - first)))
from_first first last = elim (cases_lt last first) [
  | inl l ↦ (let no_columns : last + 1 - first ≡ 0 = omega arith in rw no_columns tt)
  | inr l ↦ range_within first first (last + 1 - first) last (omega arith) (omega arith)
]

joined_alike : (f g : ℕ → List Dot) (first last : ℕ) (xs : List ℕ) → AllByRecursion (λ x. (first ≤ x) × (x ≤ last)) xs → ((x : ℕ) → first ≤ x → x ≤ last → f x ≡ g x) → flat_map f xs ≡ flat_map g xs
joined_alike f g first last [] a h = refl
joined_alike f g first last (x ∷ xs) a h =
    ap (λ (ds : List Dot). ds ++ flat_map f xs) (h x a.0.0 a.0.1) ∙ ap (λ (ds : List Dot). g x ++ ds) (joined_alike f g first last xs a.1 h)

alike_masked : (a b : Drawseg) → DrawAlike a b → (x : ℕ) → a.first ≤ x → x ≤ a.last → middle_masked a x ≡ middle_masked b x
unfolding middle_masked drawseg_scale
alike_masked a b h x l m =
    let same_first = h.first in let same_scale = h.scale1 in let same_step = h.step in
    let same_mid = h.mid in let same_top = h.top_clip x l m in let same_bottom = h.bottom_clip x l m in cc

alike_scale : (a b : Drawseg) → DrawAlike a b → (x : ℕ) → drawseg_scale a x ≡ drawseg_scale b x
unfolding drawseg_scale
alike_scale a b h x = let same_first = h.first in let same_scale = h.scale1 in let same_step = h.step in cc

alike_column : (v : ViewValue) (art : Art) (k : ℕ) (a b : Drawseg) → DrawAlike a b → (x : ℕ) → a.first ≤ x → x ≤ a.last → middle_column v art k a x ≡ middle_column v art k b x
unfolding middle_column middle_by
alike_column v art k a b h x l m =
    let same_masked = alike_masked a b h x l m in let same_scale = alike_scale a b h x in
    let same_middle = h.middle in let same_light = h.light in let same_column = h.column x l m in cc

alike_columns : (sprites : List SpriteEntry) (moment : Option ℕ) (a b : Drawseg) → DrawAlike a b → columns_at sprites moment a ≡ columns_at sprites moment b
unfolding columns_at sprite_in_front is_behind
alike_columns sprites moment a b h = rw (h.masked, h.scale1, h.scale2, h.seg, h.first, h.last) refl

kept_range : (p : ℕ → Bool) (first last x : ℕ) (xs : List ℕ) → (first ≤ x) × (x ≤ last) → AllByRecursion (λ y. (first ≤ y) × (y ≤ last)) (filter p xs) → (b : Bool) → AllByRecursion (λ y. (first ≤ y) × (y ≤ last)) (cond b (x ∷ filter p xs) (filter p xs))
kept_range p first last x xs a r true = (a, r)
kept_range p first last x xs a r false = r

filter_range : (p : ℕ → Bool) (first last : ℕ) (xs : List ℕ) → AllByRecursion (λ x. (first ≤ x) × (x ≤ last)) xs → AllByRecursion (λ x. (first ≤ x) × (x ≤ last)) (filter p xs)
filter_range p first last [] a = tt
filter_range p first last (x ∷ xs) a = kept_range p first last x xs a.0 (filter_range p first last xs a.1) (p x)

pub columns_range : (sprites : List SpriteEntry) (moment : Option ℕ) (d : Drawseg) → AllByRecursion (λ x. (d.first ≤ x) × (x ≤ d.last)) (columns_at sprites moment d)
unfolding columns_at listed_from
columns_range sprites moment d =
    filter_range (λ x. d.masked && same_number (sprite_in_front sprites d x) moment) d.first d.last (map (λ x. x) (range_with_len d.first (d.last + 1 - d.first)))
    (from_first d.first d.last)

alike_middles : (v : ViewValue) (art : Art) (sprites : List SpriteEntry) (moment : Option ℕ) (k : ℕ) (a b : Drawseg) → DrawAlike a b → middles_of v art sprites moment k (Some a) ≡ middles_of v art sprites moment k (Some b)
unfolding middles_of joined_lists
alike_middles v art sprites moment k a b h =
    joined_alike (middle_column v art k a) (middle_column v art k b) a.first a.last (columns_at sprites moment a) (columns_range sprites moment a) (alike_column v art k a b h)
    ∙ ap (flat_map (middle_column v art k b)) (alike_columns sprites moment a b h)

some_middles : (v : ViewValue) (art : Art) (sprites : List SpriteEntry) (moment : Option ℕ) (k i : ℕ) (ds es : List Drawseg) → AllZip DrawAlike ds es → length ds ≡ length es → middles_of v art sprites moment k (slice_get ds i) ≡ middles_of v art sprites moment k (slice_get es i)
some_middles v art sprites moment k i [] [] h n = refl
some_middles v art sprites moment k i [] (e ∷ es) h n = absurd (omega arith)
some_middles v art sprites moment k i (d ∷ ds) [] h n = absurd h
some_middles v art sprites moment k zero (d ∷ ds) (e ∷ es) h n = alike_middles v art sprites moment k d e h.0
some_middles v art sprites moment k (suc i) (d ∷ ds) (e ∷ es) h n = some_middles v art sprites moment k i ds es h.1 (omega arith)

alike_middles_at : (v : ViewValue) (art : Art) (sprites : List SpriteEntry) (moment : Option ℕ) (ds es : List Drawseg) → AllZip DrawAlike ds es → length ds ≡ length es → (n : ℕ) → middles_at v art ds sprites moment n ≡ middles_at v art es sprites moment n
unfolding middles_at
alike_middles_at v art sprites moment ds es h l zero = refl
alike_middles_at v art sprites moment ds es h l (suc n) =
    ap (λ (xs : List Dot). xs ++ middles_at v art ds sprites moment n) (some_middles v art sprites moment n n ds es h l)
    ∙ ap (λ (xs : List Dot). middles_of v art sprites moment n (slice_get es n) ++ xs) (alike_middles_at v art sprites moment ds es h l n)

alike_sprite_column : (v : ViewValue) (art : Art) (ds es : List Drawseg) → AllZip DrawAlike ds es → length ds ≡ length es → (e : SpriteEntry) (x : ℕ) → sprite_column v art ds e x ≡ sprite_column v art es e x
unfolding sprite_column sprite_masked
alike_sprite_column v art ds es h l e x =
    let same_bottom = alike-sprite_bottom v.shape.height ds es h l e x in let same_top = alike-sprite_top ds es h l e x in cc

alike_sprite : (v : ViewValue) (art : Art) (ds es : List Drawseg) → AllZip DrawAlike ds es → length ds ≡ length es → (e : SpriteEntry) (xs : List ℕ) → flat_map (sprite_column v art ds e) xs ≡ flat_map (sprite_column v art es e) xs
alike_sprite v art ds es h l e [] = refl
alike_sprite v art ds es h l e (x ∷ xs) =
    ap (λ (zs : List Dot). zs ++ flat_map (sprite_column v art ds e) xs) (alike_sprite_column v art ds es h l e x)
    ∙ ap (λ (zs : List Dot). sprite_column v art es e x ++ zs) (alike_sprite v art ds es h l e xs)

alike_step : (v : ViewValue) (art : Art) (ds es : List Drawseg) (sprites : List SpriteEntry) (i : ℕ) (e : SpriteEntry) → AllZip DrawAlike ds es → length ds ≡ length es → sprite_step v art ds sprites i e ≡ sprite_step v art es sprites i e
unfolding sprite_step sprite_dots joined_lists
alike_step v art ds es sprites i e h l =
    let same_middles = alike_middles_at v art sprites (Some i) ds es h l (length ds) in
    let same_sprite = alike_sprite v art ds es h l e (rows_between e.first e.last) in cc

alike_sprites : (v : ViewValue) (art : Art) (ds es : List Drawseg) (sprites : List SpriteEntry) (i : ℕ) (fs : List SpriteEntry) → AllZip DrawAlike ds es → length ds ≡ length es → sprites_from v art ds sprites i fs ≡ sprites_from v art es sprites i fs
unfolding sprites_from
alike_sprites v art ds es sprites i [] h l = refl
alike_sprites v art ds es sprites i (f ∷ fs) h l =
    let same_step = alike_step v art ds es sprites i f h l in let same_rest = alike_sprites v art ds es sprites (i + 1) fs h l in cc

-- the masked pass reads of a fragment its own columns alone
pub masked_dots-alike : (v : ViewValue) (art : Art) (ds es : List Drawseg) (sprites : List SpriteEntry) → AllZip DrawAlike ds es → length ds ≡ length es → masked_dots v art ds sprites ≡ masked_dots v art es sprites
unfolding masked_dots
masked_dots-alike v art ds es sprites h l =
    let same_sprites = alike_sprites v art ds es sprites 0 sprites h l in
    let same_middles = alike_middles_at v art sprites None ds es h l (length ds) in cc
