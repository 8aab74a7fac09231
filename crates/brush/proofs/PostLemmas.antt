-- Laws of the posts of a masked column: which rows they have, and their dots one post after the other.
use Rattle.picture_rules.proofs.Common.{[], ap, arith, Bool, cases_lt, false, FitsSigned, get_or_past, if◌then◌else◌, inl, inr, int_lt, int_wrap_fits, ints, length, List, min, negsuc, None, pos, refl, slice_index, Some, subst, sym, true, w32, ℕ, ℤ, ◌++◌, ◌+ℤ◌, ◌+◌, ◌-ℤ◌, ◌<ℤ◌, ◌<◌, ◌^◌, ◌∙◌, ◌∷◌, ◌≡◌, ◌≤ℤ◌, ◌≤◌, ◌⊎◌}
use Rattle.brush.specs.Rules.{Dot, FRACTION_BITS, MAX_FRACTION, MaskedColumn, Painter, Post, ViewShape, byte_at, column_dots, fixed, greater_word, greatest_clip, is_post, joined_lists, least_clip, lesser_word, listed_from, minus, minus_one, next_place, picture_top, plus, post_at, post_bottom, post_colour, post_dots, post_first, post_in, post_last, post_rows, post_texel, post_top, posts, posts_dots, row_fraction, rows_between, shade, shr_word, texel_row}
use Rattle.picture_rules.proofs.Laws.{greater_word-first, joined_lists-cons, lesser_word-first}
use Rattle.art_rules.proofs.PostLemmas.{is_post-within, posts-none, posts-some}
use Rattle.pixel_strips.specs.Canvases.{CanvasView, with_dots}
use Rattle.pixel_strips.specs.Strips.{column_strip_dots, strip_colour}
use Rattle.pixel_strips.proofs.CanvasLemmas.{dots_none, with_dots-append}
use Rattle.pixel_strips.proofs.RowLemmas.{row_shade, rows-between, strip-rows}
use Rattle.brush.specs.Posts.{HasClipsIn}

-- what lies between two words is a word
fits_between : (z : ℤ) → negsuc 2147483647 ≤ℤ z → z ≤ℤ pos 2147483647 → FitsSigned w32 z
fits_between (pos n) l h = record { sfits = omega (arith, ints) }
fits_between (negsuc n) l h = record { sfits = omega (arith, ints) }

-- the rows of a post are in the view
pub post_first-low : (clip begin : ℤ) → minus_one ≤ℤ clip → clip ≤ℤ greatest_clip →
    pos 0 ≤ℤ post_first clip begin
unfolding post_first plus greatest_clip
post_first-low clip begin l h =
    let sum_fits : plus clip (pos 1) ≡ clip +ℤ pos 1 = int_wrap_fits w32 (clip +ℤ pos 1)
    (fits_between _ (omega (arith, ints)) (omega (arith, ints))) in
    let not_above_screen : pos 0 ≤ℤ (clip +ℤ pos 1) = omega (arith, ints) in
    above (plus clip (pos 1)) _ (subst (λ (z : ℤ). pos 0 ≤ℤ z) (sym sum_fits) not_above_screen) where
      above : (a b : ℤ) → pos 0 ≤ℤ a → pos 0 ≤ℤ greater_word a b
      above a b k = let not_less = greater_word-first a b in omega (arith, ints)

pub post_last-high : (clip end : ℤ) (height : ℕ) → height < 2 ^ 16 → least_clip ≤ℤ clip →
    clip ≤ℤ pos height → post_last clip end <ℤ pos height
unfolding post_last minus least_clip
post_last-high clip end height few l h =
    let difference_fits : minus clip (pos 1) ≡ clip -ℤ pos 1 = int_wrap_fits w32 (clip -ℤ pos 1)
    (fits_between _ (omega (arith, ints)) (omega (arith, ints))) in
    let not_below_screen : (clip -ℤ pos 1) <ℤ pos height = omega (arith, ints) in
    below (minus clip (pos 1)) _ (subst (λ (z : ℤ). z <ℤ pos height) (sym difference_fits) not_below_screen) where
      below : (a b : ℤ) → a <ℤ pos height → lesser_word a b <ℤ pos height
      below a b k = let not_more = lesser_word-first a b in omega (arith, ints)

-- no row, no dot
pub post-none : (shape : ViewShape) (painter : Painter) (x : ℕ) (c : MaskedColumn)
    (byte shade_of : ℕ → ℕ) (post : Post) (top : ℤ) →
    top ≡ post_top (picture_top shape c.mid c.scale) c.scale post.topdelta →
    int_lt (post_last c.bottom_clip (post_bottom top c.scale post.length))
    (post_first c.top_clip top) ≡ true →
    [] ≡ post_dots shape painter x c byte shade_of post
unfolding post_dots post_rows rows_between column_dots
post-none shape painter x c byte shade_of post top is none = rw (← is) (rw none refl)

-- nor where the clips leave no row
minus_one-word : (clip : ℤ) (height : ℕ) → height < 2 ^ 16 → least_clip ≤ℤ clip → clip ≤ℤ pos height →
    minus clip (pos 1) ≡ clip -ℤ pos 1
unfolding minus least_clip
minus_one-word clip height few l h = int_wrap_fits w32 (clip -ℤ pos 1)
    (fits_between _ (omega (arith, ints)) (omega (arith, ints)))

over : (first last : ℤ) → last <ℤ first → int_lt last first ≡ true
over first last h = grind (arith, ints)

shut-post : (shape : ViewShape) (painter : Painter) (x : ℕ) (c : MaskedColumn)
    (byte shade_of : ℕ → ℕ) (post : Post) → minus c.bottom_clip (pos 1) ≡ c.bottom_clip -ℤ pos 1 →
    c.bottom_clip ≤ℤ plus c.top_clip (pos 1) → post_dots shape painter x c byte shade_of post ≡ []
unfolding post_first post_last
shut-post shape painter x c byte shade_of post is shut =
    let top : ℤ = post_top (picture_top shape c.mid c.scale) c.scale post.topdelta in
    let clip_before_first = greater_word-first (plus c.top_clip (pos 1)) (shr_word (plus top MAX_FRACTION) FRACTION_BITS) in
    let last_before_clip = lesser_word-first (minus c.bottom_clip (pos 1))
    (shr_word (minus (post_bottom top c.scale post.length) (pos 1)) FRACTION_BITS) in
    let before_bottom_clip : (c.bottom_clip -ℤ pos 1) <ℤ c.bottom_clip = omega (arith, ints) in
    sym (post-none shape painter x c byte shade_of post top refl
    (over _ _ (lower _ _ _ _ _ last_before_clip is before_bottom_clip shut clip_before_first))) where
      lower : (last least bottom first greatest : ℤ) → last ≤ℤ least → least ≡ bottom -ℤ pos 1 →
          (bottom -ℤ pos 1) <ℤ bottom → bottom ≤ℤ greatest → greatest ≤ℤ first → last <ℤ first
      lower last least bottom first greatest a e b d f = omega (arith, ints, a, e, b, d, f)

-- past the end of the bytes each one is 0
past_end : (bytes : List ℕ) (place r : ℕ) →
    slice_index bytes (min place (length bytes) + r) ≡ slice_index bytes (place + r)
past_end bytes place r = go (cases_lt (length bytes) place) where
  go : (length bytes < place) ⊎ (place ≤ length bytes) →
      slice_index bytes (min place (length bytes) + r) ≡ slice_index bytes (place + r)
  go (inl l) = get_or_past bytes (min place (length bytes) + r) 0 (omega arith)
      ∙ sym (get_or_past bytes (place + r) 0 (omega arith))
  go (inr l) = let is_place : min place (length bytes) ≡ place = omega arith in
      ap (λ (n : ℕ). slice_index bytes (n + r)) is_place

-- a strip that was painted with a post's bytes has the post's dots
pub post-strip : (shape : ViewShape) (painter : Painter) (x : ℕ) (c : MaskedColumn)
    (source colormap : List ℕ) (m : ℕ) (post : Post) (top : ℤ) (first last base : ℕ)
    (fraction step : ℤ) →
    top ≡ post_top (picture_top shape c.mid c.scale) c.scale post.topdelta →
    base ≡ min post.first (length source) → step ≡ c.iscale →
    fraction ≡ row_fraction shape.centre_y (minus c.mid (fixed (pos post.topdelta))) c.iscale first →
    pos first ≡ post_first c.top_clip top →
    pos last ≡ post_last c.bottom_clip (post_bottom top c.scale post.length) →
    int_lt (post_last c.bottom_clip (post_bottom top c.scale post.length))
    (post_first c.top_clip top) ≡ false →
    column_strip_dots painter x (strip_colour source base colormap m fraction step first) first last
    ≡ post_dots shape painter x c (byte_at source) (shade colormap m) post
unfolding post_dots post_colour post_texel post_rows byte_at
post-strip shape painter x c source colormap m post top first last base fraction step is_top is_base
    is_step is_fraction is_first is_last ordered =
    let mid : ℤ = minus c.mid (fixed (pos post.topdelta)) in
    let colour : (y : ℕ) →
    row_shade source base colormap m shape.centre_y mid c.iscale y
    ≡ shade colormap m (slice_index source (post.first
    + texel_row (row_fraction shape.centre_y mid c.iscale y))) =
    λ y. ap (λ (n : ℕ). row_shade source n colormap m shape.centre_y mid c.iscale y) is_base
    ∙ ap (shade colormap m) (past_end source post.first
    (texel_row (row_fraction shape.centre_y mid c.iscale y))) in
    ap (λ (z : ℤ). column_strip_dots painter x
    (strip_colour source base colormap m fraction z first) first last) is_step
    ∙ strip-rows painter x source base colormap m shape.centre_y mid c.iscale fraction first last
    is_fraction
    ∙ ap (λ (f : ℕ → ℕ). column_dots painter x f (listed_from (λ y. y) first last))
    (λ i y. colour y i)
    ∙ ap (column_dots painter x _) (rows-between (post_first c.top_clip top)
    (post_last c.bottom_clip (post_bottom top c.scale post.length)) first last is_first is_last ordered)
    ∙ ap (λ (z : ℤ). column_dots painter x
    (λ y. shade colormap m (slice_index source (post.first
    + texel_row (row_fraction shape.centre_y mid c.iscale y))))
    (rows_between (post_first c.top_clip z)
    (post_last c.bottom_clip (post_bottom z c.scale post.length)))) is_top

posts-cons : (shape : ViewShape) (painter : Painter) (x : ℕ) (c : MaskedColumn)
    (byte shade_of : ℕ → ℕ) (p : Post) (ps : List Post) →
    posts_dots shape painter x c byte shade_of (p ∷ ps)
    ≡ post_dots shape painter x c byte shade_of p ++ posts_dots shape painter x c byte shade_of ps
unfolding posts_dots
posts-cons shape painter x c byte shade_of p ps =
    joined_lists-cons (post_dots shape painter x c byte shade_of) p ps

pub posts-nil : (shape : ViewShape) (painter : Painter) (x : ℕ) (c : MaskedColumn)
    (byte shade_of : ℕ → ℕ) → posts_dots shape painter x c byte shade_of [] ≡ []
unfolding posts_dots joined_lists
posts-nil shape painter x c byte shade_of = refl

-- no post has a dot where the clips leave no row
posts-shut : (shape : ViewShape) (painter : Painter) (x : ℕ) (c : MaskedColumn)
    (byte shade_of : ℕ → ℕ) (ps : List Post) → minus c.bottom_clip (pos 1) ≡ c.bottom_clip -ℤ pos 1 →
    c.bottom_clip ≤ℤ plus c.top_clip (pos 1) → posts_dots shape painter x c byte shade_of ps ≡ []
posts-shut shape painter x c byte shade_of [] is shut = posts-nil shape painter x c byte shade_of
posts-shut shape painter x c byte shade_of (p ∷ ps) is shut =
    posts-cons shape painter x c byte shade_of p ps
    ∙ ap (λ (dots : List Dot). dots ++ posts_dots shape painter x c byte shade_of ps)
    (shut-post shape painter x c byte shade_of p is shut)
    ∙ posts-shut shape painter x c byte shade_of ps is shut

pub shut-dots : (mark : Painter → ℕ → ℕ) (shape : ViewShape) (x : ℕ) (c : MaskedColumn)
    (byte shade_of : ℕ → ℕ) (ps : List Post) (canvas : CanvasView) → shape.height < 2 ^ 16 →
    HasClipsIn shape.height c → c.bottom_clip ≤ℤ plus c.top_clip (pos 1) →
    canvas ≡ with_dots mark (posts_dots shape canvas.painter x c byte shade_of ps) canvas
shut-dots mark shape x c byte shade_of ps canvas few clips shut =
    dots_none mark canvas
    ∙ ap (λ (dots : List Dot). with_dots mark dots canvas)
    (sym (posts-shut shape canvas.painter x c byte shade_of ps
    (minus_one-word c.bottom_clip shape.height few clips.least_bottom clips.greatest_bottom) shut))

-- a post that begins at a place, and none
pub record IsPostAt (bytes : List ℕ) (place : ℕ) (post : Post) : Type 0 where
  pub on : is_post bytes place ≡ true
  pub is : post ≡ post_in bytes place
  pub first : post.first ≡ place + 3

pub post_at-some : (bytes : List ℕ) (place : ℕ) (post : Post) →
    Some post ≡ post_at bytes place → IsPostAt bytes place post
unfolding post_at post_in
post_at-some bytes place post e = go (is_post bytes place) refl e where
  go : (b : Bool) → is_post bytes place ≡ b →
      Some post ≡ (if b then Some (post_in bytes place) else None) → IsPostAt bytes place post
  go true on same = let post_is : post ≡ post_in bytes place = cc in
      record { on = on; is = post_is; first = ap (λ (p : Post). p.first) post_is }
  go false off same = cc

pub post_at-none : (bytes : List ℕ) (place : ℕ) → None ≡ post_at bytes place →
    is_post bytes place ≡ false
unfolding post_at
post_at-none bytes place e = go (is_post bytes place) refl e where
  go : (b : Bool) → is_post bytes place ≡ b →
      None ≡ (if b then Some (post_in bytes place) else None) → is_post bytes place ≡ false
  go true on same = cc
  go false off same = off

pub is_post-past : (bytes : List ℕ) (place : ℕ) → length bytes ≤ place →
    is_post bytes place ≡ false
is_post-past bytes place l = go (is_post bytes place) refl where
  go : (b : Bool) → is_post bytes place ≡ b → is_post bytes place ≡ false
  go true on = let post_is_within = is_post-within bytes place on in absurd (omega arith)
  go false off = off

-- the post after one does not begin before its first texel
pub next_place-from : (post : Post) → post.first ≤ next_place post
unfolding next_place
next_place-from post = omega arith

-- What is left to paint, from a place on, with what was painted of the posts from another place on.
pub record ArePostsLeft (mark : Painter → ℕ → ℕ) (shape : ViewShape) (x : ℕ) (c : MaskedColumn)
    (bytes colormap : List ℕ) (m start place : ℕ) (first now : CanvasView) : Type 0 where
  pub same : with_dots mark (posts_dots shape now.painter x c (byte_at bytes) (shade colormap m)
      (posts bytes place)) now
      ≡ with_dots mark (posts_dots shape first.painter x c (byte_at bytes) (shade colormap m)
      (posts bytes start)) first
  pub left : now.left ≡ first.left
  pub top : now.top ≡ first.top

module _ {mark : Painter → ℕ → ℕ} {shape : ViewShape} {x : ℕ} {c : MaskedColumn}
    {bytes colormap : List ℕ} {m start : ℕ} {first : CanvasView} where
  -- a post was painted
  pub left-more : (place next : ℕ) (now after : CanvasView) (post : Post) →
      ArePostsLeft mark shape x c bytes colormap m start place first now →
      IsPostAt bytes place post → next ≡ next_place post →
      after ≡ with_dots mark (post_dots shape now.painter x c (byte_at bytes) (shade colormap m) post)
      now →
      ArePostsLeft mark shape x c bytes colormap m start next first after
  left-more place next now after post left at is_next painted =
      let dots_of_rest : Painter → List Dot = λ painter. posts_dots shape painter x c (byte_at bytes)
      (shade colormap m) (posts bytes next) in
      let own_dots : List Dot = post_dots shape now.painter x c (byte_at bytes) (shade colormap m) post in
      let posts_are : posts bytes place ≡ post ∷ posts bytes next =
      posts-some bytes place at.on
      ∙ ap (λ (p : Post). p ∷ posts bytes (next_place p)) (sym at.is)
      ∙ ap (λ (n : ℕ). post ∷ posts bytes n) (sym is_next) in
      record {
        same = ap (λ (canvas : CanvasView). with_dots mark (dots_of_rest canvas.painter) canvas) painted
            ∙ with_dots-append mark own_dots (dots_of_rest now.painter) now
            ∙ ap (λ (dots : List Dot). with_dots mark dots now)
            (sym (ap (posts_dots shape now.painter x c (byte_at bytes) (shade colormap m)) posts_are
            ∙ posts-cons shape now.painter x c (byte_at bytes) (shade colormap m) post
            (posts bytes next)))
            ∙ left.same;
        left = ap (λ (canvas : CanvasView). canvas.left) painted ∙ left.left;
        top = ap (λ (canvas : CanvasView). canvas.top) painted ∙ left.top;
      }

  -- no post begins there
  pub left-end : (place : ℕ) (now : CanvasView) →
      ArePostsLeft mark shape x c bytes colormap m start place first now →
      is_post bytes place ≡ false →
      now ≡ with_dots mark (posts_dots shape first.painter x c (byte_at bytes) (shade colormap m)
      (posts bytes start)) first
  left-end place now left off =
      dots_none mark now
      ∙ ap (λ (dots : List Dot). with_dots mark dots now)
      (sym (ap (posts_dots shape now.painter x c (byte_at bytes) (shade colormap m))
      (posts-none bytes place off)
      ∙ posts-nil shape now.painter x c (byte_at bytes) (shade colormap m)))
      ∙ left.same
