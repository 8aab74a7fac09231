-- Laws of where the dots of a view are: those of its masked pass lie in it, and with its walls and planes all.
use Rattle.picture_rules.proofs.Common.{[], All, All-from_recursion, AllByRecursion, AllPass, arith, Bool, cond, false, filter, get_or_from_slice_get, int_le, int_lt, ints, length, List, None, Option, pos, recursion_from_All, refl, slice_get, slice_get_within, Some, subst, suc, true, zero, ℕ, ℤ, ◌&&◌, ◌+◌, ◌<ℤ◌, ◌<◌, ◌∷◌, ◌≡◌, ◌≤ℤ◌, ◌≤◌}
use Rattle.frame_core.specs.Rules.{AreInView, Art, ColumnClip, Drawseg, FRAME_HEIGHT, MaskedColumn, Painter, Post, Scene, SpriteEntry, ViewShape, ViewValue, Wall, bottom_clip, clip_of_number, clip_of_some, clip_past, columns_at, drawseg_of, drawsegs_from, gives_bottom, gives_top, greatest_clip, greatest_that, least_clip, listed_from, masked_dots, middle_by, middle_column, middle_masked, middles_at, middles_of, minus_one, picture_top, post_bottom, post_colour, post_dots, post_first, post_last, post_rows, post_top, posts_dots, rows_between, sprite_bottom, sprite_column, sprite_dots, sprite_masked, sprite_step, sprite_top, sprites_from, top_clip, view_drawsegs}
use Rattle.picture_rules.proofs.FrameLemmas.{in_view-append}
use Rattle.vissprites.specs.Bounds.{lies_within}
use Rattle.wall_columns.specs.{Built.IsDrawn, Windows.IsClipIn}
use Rattle.wall_columns.proofs.ClipLemmas.{clip_before-in}
use Rattle.brush.proofs.PostLemmas.{post_first-low, post_last-high}
use Rattle.picture_rules.proofs.InViewLemmas.{in_view-column, in_view-joined, numbers_between, rows_between-in}

-- a fragment of the view's columns, whose clips leave no row outside the view
pub record IsDrawsegIn (shape : ViewShape) (d : Drawseg) : Type 0 where
  pub within : d.last < shape.width
  pub top : (x : ℕ) → (minus_one ≤ℤ d.top_clip x) × (d.top_clip x ≤ℤ greatest_clip)
  pub bottom : (x : ℕ) → (least_clip ≤ℤ d.bottom_clip x) × (d.bottom_clip x ≤ℤ pos shape.height)

-- the clips of a masked column
record AreClipsIn (shape : ViewShape) (c : MaskedColumn) : Type 0 where
  top : (minus_one ≤ℤ c.top_clip) × (c.top_clip ≤ℤ greatest_clip)
  bottom : (least_clip ≤ℤ c.bottom_clip) × (c.bottom_clip ≤ℤ pos shape.height)

post-in : (shape : ViewShape) (painter : Painter) (x : ℕ) (c : MaskedColumn) (byte shade : ℕ → ℕ) (post : Post) → shape.height ≤ FRAME_HEIGHT → x < shape.width → AreClipsIn shape c → AreInView shape (post_dots shape painter x c byte shade post)
unfolding post_dots post_rows
post-in shape painter x c byte shade post s l i =
    let top : ℤ = post_top (picture_top shape c.mid c.scale) c.scale post.topdelta in
    in_view-column shape painter x (post_colour shape c byte shade post) _ l
    (rows_between-in shape.height (post_first c.top_clip top) (post_last c.bottom_clip (post_bottom top c.scale post.length))
    (λ o. (post_first-low c.top_clip top i.top.0 i.top.1, post_last-high c.bottom_clip (post_bottom top c.scale post.length) shape.height (omega (arith, s)) i.bottom.0 i.bottom.1)))

abbrev any_post : Post → Type 0
any_post p = Unit {0}

all_posts : (posts : List Post) → AllByRecursion any_post posts
all_posts [] = tt
all_posts (p ∷ ps) = (tt, all_posts ps)

posts-in : (shape : ViewShape) (painter : Painter) (x : ℕ) (c : MaskedColumn) (byte shade : ℕ → ℕ) (posts : List Post) → shape.height ≤ FRAME_HEIGHT → x < shape.width → AreClipsIn shape c → AreInView shape (posts_dots shape painter x c byte shade posts)
unfolding posts_dots
posts-in shape painter x c byte shade posts s l i =
    in_view-joined shape (post_dots shape painter x c byte shade) any_post posts (λ p t. post-in shape painter x c byte shade p s l i) (all_posts posts)

-- the clips of a fragment that is there
at_some : (P : ℤ → Type 0) (clip : Drawseg → ℤ) (without : ℤ) (shape : ViewShape) (ds : List Drawseg) (k : ℕ) (o : Option Drawseg) → slice_get ds k ≡ o → All (IsDrawsegIn shape) ds → P without →
    ((d : Drawseg) → IsDrawsegIn shape d → P (clip d)) → P (clip_of_some clip without o)
unfolding clip_of_some
at_some P clip without shape ds k None e a w h = w
at_some P clip without shape ds k (Some d) e a w h =
    h d (subst (IsDrawsegIn shape) (get_or_from_slice_get ds k d d e) (a k d (slice_get_within ds k d e)))

at_number : (P : ℤ → Type 0) (clip : Drawseg → ℤ) (without : ℤ) (shape : ViewShape) (ds : List Drawseg) (o : Option ℕ) → All (IsDrawsegIn shape) ds → P without →
    ((d : Drawseg) → IsDrawsegIn shape d → P (clip d)) → P (clip_of_number clip without ds o)
unfolding clip_of_number
at_number P clip without shape ds None a w h = w
at_number P clip without shape ds (Some k) a w h = at_some P clip without shape ds k (slice_get ds k) refl a w h

top_without : (minus_one ≤ℤ minus_one) × (minus_one ≤ℤ greatest_clip)
unfolding greatest_clip
top_without = (omega (arith, ints), omega (arith, ints))

bottom_without : (height : ℕ) → height ≤ FRAME_HEIGHT → (least_clip ≤ℤ pos height) × (pos height ≤ℤ pos height)
unfolding least_clip
bottom_without height s = (omega (arith, ints), omega (arith, ints))

sprite_clips-in : (v : ViewValue) (ds : List Drawseg) (e : SpriteEntry) (x : ℕ) → v.shape.height ≤ FRAME_HEIGHT → All (IsDrawsegIn v.shape) ds → AreClipsIn v.shape (sprite_masked v ds e x)
unfolding sprite_masked sprite_top sprite_bottom
sprite_clips-in v ds e x s a =
    let is_top_clip : ℤ → Type 0 = λ z. (minus_one ≤ℤ z) × (z ≤ℤ greatest_clip) in
    let is_bottom_clip : ℤ → Type 0 = λ z. (least_clip ≤ℤ z) × (z ≤ℤ pos v.shape.height) in
    record {
      top = at_number is_top_clip (λ d. d.top_clip x) minus_one v.shape ds (greatest_that (gives_top e x) ds) a top_without (λ d i. i.top x);
      bottom = at_number is_bottom_clip (λ d. d.bottom_clip x) (pos v.shape.height) v.shape ds (greatest_that (gives_bottom e x) ds) a (bottom_without v.shape.height s) (λ d i. i.bottom x);
    }

sprite_column-in : (v : ViewValue) (art : Art) (ds : List Drawseg) (e : SpriteEntry) (x : ℕ) → v.shape.height ≤ FRAME_HEIGHT → All (IsDrawsegIn v.shape) ds → x < v.shape.width → AreInView v.shape (sprite_column v art ds e x)
unfolding sprite_column
sprite_column-in v art ds e x s a l = posts-in v.shape _ x (sprite_masked v ds e x) _ _ _ s l (sprite_clips-in v ds e x s a)

both_tests : (width : ℕ) (first last : ℤ) (a b : Bool) → int_le (pos 0) first ≡ a → int_lt last (pos width) ≡ b → (a && b) ≡ true → (pos 0 ≤ℤ first) × (last <ℤ pos width)
both_tests width first last true true f g t = (grind (arith, ints), grind (arith, ints))
both_tests width first last true false f g t = absurd (cc)
both_tests width first last false b f g t = absurd (cc)

within_columns : (width : ℕ) (first last : ℤ) → (int_le (pos 0) first && int_lt last (pos width)) ≡ true → (pos 0 ≤ℤ first) × (last <ℤ pos width)
within_columns width first last e = both_tests width first last (int_le (pos 0) first) (int_lt last (pos width)) refl refl e

sprite_dots-in : (v : ViewValue) (art : Art) (ds : List Drawseg) (e : SpriteEntry) → v.shape.height ≤ FRAME_HEIGHT → All (IsDrawsegIn v.shape) ds → lies_within v.shape.width e ≡ true → AreInView v.shape (sprite_dots v art ds e)
unfolding sprite_dots lies_within
sprite_dots-in v art ds e s a t =
    in_view-joined v.shape (sprite_column v art ds e) (λ x. x < v.shape.width) (rows_between e.first e.last) (λ x l. sprite_column-in v art ds e x s a l)
    (rows_between-in v.shape.width e.first e.last (λ o. within_columns v.shape.width e.first e.last t))

middle-in : (v : ViewValue) (art : Art) (k : ℕ) (d : Drawseg) (x : ℕ) → v.shape.height ≤ FRAME_HEIGHT → IsDrawsegIn v.shape d → x < v.shape.width → AreInView v.shape (middle_column v art k d x)
unfolding middle_column middle_by middle_masked
middle-in v art k d x s i l = posts-in v.shape _ x (middle_masked d x) _ _ _ s l (record { top = i.top x; bottom = i.bottom x })

kept : (P : ℕ → Type 0) (x : ℕ) (xs : List ℕ) (t : Bool) → P x → AllByRecursion P xs → AllByRecursion P (cond t (x ∷ xs) xs)
kept P x xs true h a = (h, a)
kept P x xs false h a = a

filter-all : (P : ℕ → Type 0) (test : ℕ → Bool) (xs : List ℕ) → AllByRecursion P xs → AllByRecursion P (filter test xs)
filter-all P test [] a = tt
filter-all P test (x ∷ xs) a = kept P x (filter test xs) (test x) a.0 (filter-all P test xs a.1)

columns_at-in : (width : ℕ) (sprites : List SpriteEntry) (moment : Option ℕ) (d : Drawseg) → d.last < width → AllByRecursion (λ x. x < width) (columns_at sprites moment d)
unfolding columns_at
columns_at-in width sprites moment d l = filter-all (λ x. x < width) _ (listed_from (λ x. x) d.first d.last) (numbers_between (λ x. x < width) d.first d.last (λ x m n. omega (arith, n, l)))

middles_some : (v : ViewValue) (art : Art) (ds : List Drawseg) (sprites : List SpriteEntry) (moment : Option ℕ) (k : ℕ) (o : Option Drawseg) → slice_get ds k ≡ o → v.shape.height ≤ FRAME_HEIGHT → All (IsDrawsegIn v.shape) ds →
    AreInView v.shape (middles_of v art sprites moment k o)
unfolding middles_of
middles_some v art ds sprites moment k None e s a = tt
middles_some v art ds sprites moment k (Some d) e s a =
    let drawseg_inside : IsDrawsegIn v.shape d = subst (IsDrawsegIn v.shape) (get_or_from_slice_get ds k d d e) (a k d (slice_get_within ds k d e)) in
    in_view-joined v.shape (middle_column v art k d) (λ x. x < v.shape.width) (columns_at sprites moment d) (λ x l. middle-in v art k d x s drawseg_inside l) (columns_at-in v.shape.width sprites moment d drawseg_inside.within)

middles-in : (v : ViewValue) (art : Art) (ds : List Drawseg) (sprites : List SpriteEntry) (moment : Option ℕ) (n : ℕ) → v.shape.height ≤ FRAME_HEIGHT → All (IsDrawsegIn v.shape) ds → AreInView v.shape (middles_at v art ds sprites moment n)
unfolding middles_at
middles-in v art ds sprites moment zero s a = tt
middles-in v art ds sprites moment (suc n) s a =
    in_view-append v.shape (middles_of v art sprites moment n (slice_get ds n)) (middles_at v art ds sprites moment n) (middles_some v art ds sprites moment n (slice_get ds n) refl s a) (middles-in v art ds sprites moment n s a)

step-in : (v : ViewValue) (art : Art) (ds : List Drawseg) (sprites : List SpriteEntry) (i : ℕ) (e : SpriteEntry) → v.shape.height ≤ FRAME_HEIGHT → All (IsDrawsegIn v.shape) ds → lies_within v.shape.width e ≡ true → AreInView v.shape (sprite_step v art ds sprites i e)
unfolding sprite_step
step-in v art ds sprites i e s a t =
    in_view-append v.shape (middles_at v art ds sprites (Some i) (length ds)) (sprite_dots v art ds e) (middles-in v art ds sprites (Some i) (length ds) s a) (sprite_dots-in v art ds e s a t)

sprites-in : (v : ViewValue) (art : Art) (ds : List Drawseg) (sprites : List SpriteEntry) (i : ℕ) (es : List SpriteEntry) → v.shape.height ≤ FRAME_HEIGHT → All (IsDrawsegIn v.shape) ds → AllByRecursion (λ e. lies_within v.shape.width e ≡ true) es →
    AreInView v.shape (sprites_from v art ds sprites i es)
unfolding sprites_from
sprites-in v art ds sprites i [] s a t = tt
sprites-in v art ds sprites i (e ∷ es) s a t =
    in_view-append v.shape (sprite_step v art ds sprites i e) (sprites_from v art ds sprites (i + 1) es) (step-in v art ds sprites i e s a t.0) (sprites-in v art ds sprites (i + 1) es s a t.1)

-- the dots of the masked pass lie in the view, where the fragments and the sprites do
pub masked-in_view : (v : ViewValue) (art : Art) (ds : List Drawseg) (sprites : List SpriteEntry) → v.shape.height ≤ FRAME_HEIGHT → All (IsDrawsegIn v.shape) ds → AllPass (lies_within v.shape.width) sprites →
    AreInView v.shape (masked_dots v art ds sprites)
unfolding masked_dots
masked-in_view v art ds sprites s a t =
    in_view-append v.shape (sprites_from v art ds sprites 0 sprites) (middles_at v art ds sprites None (length ds))
    (sprites-in v art ds sprites 0 sprites s a (recursion_from_All (λ e. lies_within v.shape.width e ≡ true) sprites t)) (middles-in v art ds sprites None (length ds) s a)

-- the clips past a fragment
past-in : (shape : ViewShape) (walls : List Wall) (k x : ℕ) → shape.height ≤ FRAME_HEIGHT → IsClipIn shape.height (clip_past shape walls k x)
unfolding clip_past
past-in shape walls k x s = clip_before-in shape walls (suc k) x s

top_range : (height : ℕ) (constant : Bool) (clip : ColumnClip) → height ≤ FRAME_HEIGHT → IsClipIn height clip →
    (minus_one ≤ℤ cond constant (pos height) clip.ceiling_clip) × (cond constant (pos height) clip.ceiling_clip ≤ℤ greatest_clip)
unfolding greatest_clip
top_range height true clip s i = (omega (arith, ints), omega (arith, ints))
top_range height false clip s i = (i.ceiling_low, i.ceiling_high)

bottom_range : (height : ℕ) (constant : Bool) (clip : ColumnClip) → height ≤ FRAME_HEIGHT → IsClipIn height clip →
    (least_clip ≤ℤ cond constant minus_one clip.floor_clip) × (cond constant minus_one clip.floor_clip ≤ℤ pos height)
unfolding least_clip
bottom_range height true clip s i = (omega (arith, ints), omega (arith, ints))
bottom_range height false clip s i = (i.floor_low, i.floor_high)

drawseg-in : (v : ViewValue) (scene : Scene) (walls : List Wall) (k : ℕ) (w : Wall) → v.shape.height ≤ FRAME_HEIGHT → w.last < v.shape.width → IsDrawsegIn v.shape (drawseg_of v scene walls k w)
unfolding drawseg_of top_clip bottom_clip
drawseg-in v scene walls k w s l = record {
  within = l;
  top = λ x. top_range v.shape.height w.numbers.top_is_constant (clip_past v.shape walls k x) s (past-in v.shape walls k x s);
  bottom = λ x. bottom_range v.shape.height w.numbers.bottom_is_constant (clip_past v.shape walls k x) s (past-in v.shape walls k x s);
}

drawsegs_from-in : (v : ViewValue) (scene : Scene) (walls : List Wall) (k : ℕ) (ws : List Wall) → v.shape.height ≤ FRAME_HEIGHT → AllByRecursion (IsDrawn v) ws → AllByRecursion (IsDrawsegIn v.shape) (drawsegs_from v scene walls k ws)
unfolding drawsegs_from
drawsegs_from-in v scene walls k [] s a = tt
drawsegs_from-in v scene walls k (w ∷ ws) s a = (drawseg-in v scene walls k w s a.0.within, drawsegs_from-in v scene walls (k + 1) ws s a.1)

-- the drawn fragments of a view lie in it, as the masked pass has them
pub drawsegs-in_view : (v : ViewValue) (scene : Scene) (walls : List Wall) → v.shape.height ≤ FRAME_HEIGHT → All (IsDrawn v) walls → All (IsDrawsegIn v.shape) (view_drawsegs v scene walls)
unfolding view_drawsegs
drawsegs-in_view v scene walls s d = All-from_recursion (IsDrawsegIn v.shape) (view_drawsegs v scene walls) (drawsegs_from-in v scene walls 0 walls s (recursion_from_All (IsDrawn v) walls d))
