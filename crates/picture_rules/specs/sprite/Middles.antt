-- The pixels of masked mid textures, and when they are drawn (R_RenderMaskedSegRange, r_segs.c; R_DrawMasked, r_things.c).
use Rattle.std.specs.Prelude.{ℕ, zero, suc, ◌+◌, ◌-◌, bit_and, ◌==◌, ◌&&◌, ◌++◌, ℤ, pos, Bool, true, false, cond, List, [], ◌∷◌, length, Option, Some, None, slice_get, filter}
use Rattle.picture_rules.specs.Rules.{Art, BOTTOM_UNPEGGED, Dot, MIDDLE, MaskedColumn, Seg, Source, Surface, ViewValue, fixed, greater_word, inverse_word, joined_lists, lesser_word, listed_from, minus, painter_of, plus, posts_dots, scale_map, step_at}
use Rattle.picture_rules.specs.{declared.sprite.SpriteEntry.SpriteEntry, sprite.Drawsegs.Drawseg}
use Rattle.picture_rules.specs.{sprite.Clips.sprite_in_front, sprite.Sprites.sprite_dots}

-- the texel row at the view's centre row: hung from the lesser ceiling, or standing on the greater floor where the line is so flagged
unfoldable pub middle_hangs : ℤ → Surface → Surface → ℤ
middle_hangs eye_z front back = minus (lesser_word front.ceiling back.ceiling) eye_z

unfoldable pub middle_stands : ℤ → Surface → Surface → ℕ → ℤ
middle_stands eye_z front back height = minus (plus (greater_word front.floor back.floor) (fixed (pos height))) eye_z

-- front is the seg's own front sector, which is not always the leaf's
unfoldable pub masked_mid : ℤ → Seg → Surface → Surface → ℕ → ℤ → ℤ
masked_mid eye_z seg front back height y_offset =
    plus (cond (bit_and seg.flags BOTTOM_UNPEGGED == 0) (middle_hangs eye_z front back) (middle_stands eye_z front back height)) y_offset

-- the fragment's scale at column x
unfoldable pub drawseg_scale : Drawseg → ℕ → ℤ
drawseg_scale d x = step_at d.scale1 d.step (x - d.first)

unfoldable pub middle_masked : Drawseg → ℕ → MaskedColumn
middle_masked d x = record {
  scale = drawseg_scale d x;
  mid = d.mid;
  iscale = inverse_word (drawseg_scale d x);
  top_clip = d.top_clip x;
  bottom_clip = d.bottom_clip x;
}

-- the dots of the masked column of fragment k at column x; its painter has the fragment's number
unfoldable pub middle_by : ViewValue → Art → ℕ → Drawseg → ℕ → Source → List Dot
middle_by v art k d x source =
    posts_dots v.shape (painter_of MIDDLE k source) x (middle_masked d x)
    (art.byte source.number) (art.shade (scale_map v d.light (drawseg_scale d x)))
    (art.texture_posts d.middle (d.column x))

unfoldable pub middle_column : ViewValue → Art → ℕ → Drawseg → ℕ → List Dot
middle_column v art k d x = middle_by v art k d x (art.texture_source d.middle (d.column x))

unfoldable pub same_number : Option ℕ → Option ℕ → Bool
same_number None None = true
same_number None (Some m) = false
same_number (Some n) None = false
same_number (Some n) (Some m) = n == m

-- the columns of the fragment that are drawn at this moment: just before a sprite, or, for None, after all of them
unfoldable pub columns_at : List SpriteEntry → Option ℕ → Drawseg → List ℕ
columns_at sprites moment d =
    filter (λ x. d.masked && same_number (sprite_in_front sprites d x) moment) (listed_from (λ x. x) d.first d.last)

unfoldable pub middles_of : ViewValue → Art → List SpriteEntry → Option ℕ → ℕ → Option Drawseg → List Dot
middles_of v art sprites moment k None = []
middles_of v art sprites moment k (Some d) = joined_lists (middle_column v art k d) (columns_at sprites moment d)

-- those of the fragments below n, the last first
unfoldable pub middles_at : ViewValue → Art → List Drawseg → List SpriteEntry → Option ℕ → ℕ → List Dot
middles_at v art ds sprites moment zero = []
middles_at v art ds sprites moment (suc n) =
    middles_of v art sprites moment n (slice_get ds n) ++ middles_at v art ds sprites moment n

-- sprite i with the masked columns that are drawn just before it
unfoldable pub sprite_step : ViewValue → Art → List Drawseg → List SpriteEntry → ℕ → SpriteEntry → List Dot
sprite_step v art ds sprites i e = middles_at v art ds sprites (Some i) (length ds) ++ sprite_dots v art ds e

unfoldable pub sprites_from : ViewValue → Art → List Drawseg → List SpriteEntry → ℕ → List SpriteEntry → List Dot
sprites_from v art ds sprites i [] = []
sprites_from v art ds sprites i (e ∷ es) = sprite_step v art ds sprites i e ++ sprites_from v art ds sprites (i + 1) es

-- the masked pass: each sprite in drawing order, and at the end the masked columns that are left
unfoldable pub masked_dots : ViewValue → Art → List Drawseg → List SpriteEntry → List Dot
masked_dots v art ds sprites =
    sprites_from v art ds sprites 0 sprites ++ middles_at v art ds sprites None (length ds)
