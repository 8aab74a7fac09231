-- The pixels of a sprite (R_DrawVisSprite, r_things.c).
use Rattle.std.specs.Prelude.{ℕ, ℤ, pos, cond, Bool, List}
use Rattle.picture_rules.specs.Rules.{Art, Dot, MaskedColumn, SPRITE, ViewValue, fixed, joined_lists, lump_source, minus, painter_of, posts_dots, rows_between, shr_word, times}
use Rattle.picture_rules.specs.{declared.sprite.SpriteEntry.SpriteEntry, sprite.Drawsegs.Drawseg}
use Rattle.picture_rules.specs.sprite.Clips.{sprite_bottom, sprite_top}

-- the texel columns from the picture's left edge to column x, 16.16
unfoldable pub texels_across : ℤ → ℤ → ℕ → ℤ
texels_across a1 iscale x = times (minus (pos x) a1) iscale

-- a flipped picture is read from its right edge
unfoldable pub column_fraction : Bool → ℕ → ℤ → ℤ
column_fraction flip width across = cond flip (minus (minus (fixed (pos width)) (pos 1)) across) across

-- the picture's column at column x
unfoldable pub picture_column : Bool → ℕ → ℤ → ℤ → ℕ → ℤ
picture_column flip width a1 iscale x = shr_word (column_fraction flip width (texels_across a1 iscale x)) 16

unfoldable pub sprite_masked : ViewValue → List Drawseg → SpriteEntry → ℕ → MaskedColumn
sprite_masked v ds e x = record {
  scale = e.scale;
  mid = e.mid;
  iscale = e.iscale;
  top_clip = sprite_top ds e x;
  bottom_clip = sprite_bottom v.shape.height ds e x;
}

-- the dots of a sprite in column x; its painter has the number in order of making
unfoldable pub sprite_column : ViewValue → Art → List Drawseg → SpriteEntry → ℕ → List Dot
sprite_column v art ds e x =
    posts_dots v.shape (painter_of SPRITE e.number (lump_source e.lump)) x (sprite_masked v ds e x)
    (art.byte e.lump) (art.shade e.map)
    (art.picture_posts e.lump (picture_column e.flip e.width e.a1 e.iscale x))

unfoldable pub sprite_dots : ViewValue → Art → List Drawseg → SpriteEntry → List Dot
sprite_dots v art ds e = joined_lists (sprite_column v art ds e) (rows_between e.first e.last)
