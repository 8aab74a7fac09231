-- What the masked pass shows, strip by strip: masked columns of fragments, and sprites (R_DrawMasked, r_things.c).
use Rattle.std.specs.Prelude.{ℕ, ◌+◌, ◌-◌, suc, ◌++◌, ℤ, pos, int_lt, cond, List, [], ◌∷◌, length, Option, Some, None, option_map, slice_get}
use Rattle.masked_draw.specs.Rules.{Drawseg, SPRITE, SpriteEntry, ViewShape, ViewValue, columns_at, drawseg_scale, gives_bottom, gives_top, greatest_that, joined_lists, listed, middle_masked, minus_one, natural, scale_map}
use Rattle.brush.specs.declared.brush.MiddleStrip.{MiddleStrip}
use Rattle.brush.specs.Strips.{Middle, Picture, PictureStripValue, Strip}

-- the masked column of fragment number k at column x
unfoldable pub masked_column_strip : ViewValue → ℕ → Drawseg → ℕ → MiddleStrip
masked_column_strip v k d x = record {
  number = k;
  tex = record { 0 = d.middle };
  column = d.column x;
  shape = v.shape;
  x = x;
  masked = middle_masked d x;
  map = scale_map v d.light (drawseg_scale d x);
}

unfoldable pub masked_column_strips : ViewValue → ℕ → Drawseg → ℕ → List Strip
masked_column_strips v k d x = Middle (masked_column_strip v k d x) ∷ []

-- those of fragment number k that are drawn at a moment: just before a sprite, or, for None, after all of them
unfoldable pub moment_strips : ViewValue → List SpriteEntry → Option ℕ → ℕ → Option Drawseg → List Strip
moment_strips v sprites moment k None = []
moment_strips v sprites moment k (Some d) = joined_lists (masked_column_strips v k d) (columns_at sprites moment d)

-- those of all fragments, the last first
unfoldable pub middles_strips : ViewValue → List Drawseg → List SpriteEntry → Option ℕ → List Strip
middles_strips v ds sprites moment =
    joined_lists (λ n. moment_strips v sprites moment (length ds - suc n) (slice_get ds (length ds - suc n))) (listed (λ n. n) (length ds))

-- a sprite in columns first to last, by the clips that were taken in each
unfoldable pub sprite_strip : ViewShape → SpriteEntry → ℕ → ℕ → (ℕ → Option ℤ) → (ℕ → Option ℤ) → PictureStripValue
sprite_strip shape e first last top bottom = record {
  kind = SPRITE;
  number = e.number;
  lump = e.lump;
  flip = e.flip;
  width = e.width;
  left = e.a1;
  shape = shape;
  first = first;
  last = last;
  masked = record { scale = e.scale; mid = e.mid; iscale = e.iscale; top_clip = minus_one; bottom_clip = pos shape.height };
  map = e.map;
  tops = listed (λ n. top (first + n)) (last + 1 - first);
  bottoms = listed (λ n. bottom (first + n)) (last + 1 - first);
}

-- the clip of the fragment of that number, if there is one
unfoldable pub noted_clip : (Drawseg → ℤ) → List Drawseg → Option ℕ → Option ℤ
noted_clip clip ds None = None
noted_clip clip ds (Some k) = option_map clip (slice_get ds k)

-- the clips that a sprite takes in column x: those of the last fragments in front of it
unfoldable pub top_taken : List Drawseg → SpriteEntry → ℕ → Option ℤ
top_taken ds e x = noted_clip (λ d. d.top_clip x) ds (greatest_that (gives_top e x) ds)

unfoldable pub bottom_taken : List Drawseg → SpriteEntry → ℕ → Option ℤ
bottom_taken ds e x = noted_clip (λ d. d.bottom_clip x) ds (greatest_that (gives_bottom e x) ds)

-- a sprite among these fragments
unfoldable pub shown_sprite : ViewValue → List Drawseg → SpriteEntry → PictureStripValue
shown_sprite v ds e = sprite_strip v.shape e (natural e.first) (natural e.last) (top_taken ds e) (bottom_taken ds e)

-- one strip, and none where it has no column
unfoldable pub sprite_strips : ViewValue → List Drawseg → SpriteEntry → List Strip
sprite_strips v ds e = cond (int_lt e.last e.first) [] (Picture (shown_sprite v ds e) ∷ [])

-- sprite i after the masked columns that are drawn just before it
unfoldable pub step_strips : ViewValue → List Drawseg → List SpriteEntry → ℕ → Option SpriteEntry → List Strip
step_strips v ds sprites i None = []
step_strips v ds sprites i (Some e) = middles_strips v ds sprites (Some i) ++ sprite_strips v ds e

-- each sprite in drawing order
unfoldable pub sprites_strips : ViewValue → List Drawseg → List SpriteEntry → List Strip
sprites_strips v ds sprites = joined_lists (λ i. step_strips v ds sprites i (slice_get sprites i)) (listed (λ i. i) (length sprites))

-- the masked pass: the sprites, and at the end the masked columns that are left
unfoldable pub masked_strips : ViewValue → List Drawseg → List SpriteEntry → List Strip
masked_strips v ds sprites = sprites_strips v ds sprites ++ middles_strips v ds sprites None
