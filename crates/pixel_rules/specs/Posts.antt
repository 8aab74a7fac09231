-- Posts of a masked column: sprites, masked middles, weapons (R_DrawMaskedColumn, r_things.c).
use Rattle.std.specs.Prelude.{ℕ, ◌+◌, ℤ, pos, List}
use Rattle.word_rules.specs.Words.{plus, minus, times, mul, shr_word, fixed, greater_word, lesser_word}
use Rattle.word_rules.specs.{declared.TheConstants.FRACTION_BITS, Listed.joined_lists}
use Rattle.view_rules.specs.{declared.TheConstants.MAX_FRACTION, declared.ViewShape.ViewShape}
use Rattle.pixel_rules.specs.{declared.Painter.Painter, declared.Post.Post, Dots.Dot}
use Rattle.pixel_rules.specs.Strips.{texel_row, row_fraction, rows_between, column_dots}
use Rattle.pixel_rules.specs.declared.MaskedColumn.{MaskedColumn}

-- the top of the picture on the screen, 16.16
unfoldable pub picture_top : ViewShape → ℤ → ℤ → ℤ
picture_top shape mid scale = minus (fixed (pos shape.centre_y)) (mul mid scale)

-- the top and the bottom of a post there
unfoldable pub post_top : ℤ → ℤ → ℕ → ℤ
post_top top scale topdelta = plus top (times scale (pos topdelta))

unfoldable pub post_bottom : ℤ → ℤ → ℕ → ℤ
post_bottom top scale length = plus top (times scale (pos length))

-- the rows of a post between the clips
unfoldable pub post_first : ℤ → ℤ → ℤ
post_first clip top = greater_word (plus clip (pos 1)) (shr_word (plus top MAX_FRACTION) FRACTION_BITS)

unfoldable pub post_last : ℤ → ℤ → ℤ
post_last clip bottom = lesser_word (minus clip (pos 1)) (shr_word (minus bottom (pos 1)) FRACTION_BITS)

unfoldable pub post_rows : ViewShape → MaskedColumn → Post → List ℕ
post_rows shape c post =
    let top = post_top (picture_top shape c.mid c.scale) c.scale post.topdelta in
    rows_between (post_first c.top_clip top) (post_last c.bottom_clip (post_bottom top c.scale post.length))

-- the texel of a post at row y, counted from its first byte
unfoldable pub post_texel : ViewShape → MaskedColumn → ℕ → ℕ → ℕ
post_texel shape c topdelta y = texel_row (row_fraction shape.centre_y (minus c.mid (fixed (pos topdelta))) c.iscale y)

-- the colour of a post at row y; byte gives the bytes of its lump
unfoldable pub post_colour : ViewShape → MaskedColumn → (ℕ → ℕ) → (ℕ → ℕ) → Post → ℕ → ℕ
post_colour shape c byte shade post y = shade (byte (post.first + post_texel shape c post.topdelta y))

unfoldable pub post_dots : ViewShape → Painter → ℕ → MaskedColumn → (ℕ → ℕ) → (ℕ → ℕ) → Post → List Dot
post_dots shape painter x c byte shade post =
    column_dots painter x (post_colour shape c byte shade post) (post_rows shape c post)

-- the posts of a column, in order
unfoldable pub posts_dots : ViewShape → Painter → ℕ → MaskedColumn → (ℕ → ℕ) → (ℕ → ℕ) → List Post → List Dot
posts_dots shape painter x c byte shade posts = joined_lists (post_dots shape painter x c byte shade) posts
