-- Strips of pixels: some rows of a column, some columns of a row (R_DrawColumn, R_DrawSpan, r_draw.c).
use Rattle.std.specs.Prelude.{◌≡◌, ℕ, ◌+◌, ◌*◌, ◌/◌, ◌%◌, ◌^◌, ℤ, pos, int_lt, cond, List, [], ◌∷◌, map, slice_index, refl}
use Rattle.word_rules.specs.Words.{plus, minus, times, shr_word, bits_of, natural, words_unfolded}
use Rattle.word_rules.specs.{declared.TheConstants.FRACTION_BITS, Listed.listed_from, Steps.step_at}
use Rattle.view_rules.specs.declared.Spans.{Spans}
use Rattle.view_rules.specs.declared.Spans.TheVariants.{Full, Packed}
use Rattle.pixel_rules.specs.{declared.Painter.Painter, Dots.Dot}
use Rattle.pixel_rules.specs.declared.TheConstants.{TEXEL_ROWS, FLAT_SIDE, MAP_COLOURS}

-- the texel row that a fraction (16.16) stands for
unfoldable pub texel_row : ℤ → ℕ
texel_row fraction = bits_of (shr_word fraction FRACTION_BITS) % TEXEL_ROWS

-- the fraction at row y of a column whose texel row at the view's centre row is mid
unfoldable pub row_fraction : ℕ → ℤ → ℤ → ℕ → ℤ
row_fraction centre_y mid iscale y = plus mid (times (minus (pos y) (pos centre_y)) iscale)

-- the place in a flat that two fractions (16.16 texels) stand for
unfoldable pub flat_place : ℤ → ℤ → ℕ
flat_place xfrac yfrac = FLAT_SIDE * (bits_of (shr_word yfrac FRACTION_BITS) % FLAT_SIDE) + bits_of (shr_word xfrac FRACTION_BITS) % FLAT_SIDE

-- two fractions in one word, x in the upper half and y in the lower one, each by its six bits of texel and ten of fraction
unfoldable pub packed_half : ℤ → ℕ
packed_half fraction = bits_of fraction / 2 ^ 6 % 2 ^ 16

unfoldable pub pack : ℤ → ℤ → ℕ
pack xfrac yfrac = 2 ^ 16 * packed_half xfrac + packed_half yfrac

-- the word after n steps: what y carries goes into x
unfoldable pub packed_at : ℕ → ℕ → ℕ → ℕ
packed_at word step n = (word + n * step) % 2 ^ 32

-- the place in a flat that a word stands for
unfoldable pub packed_place : ℕ → ℕ
packed_place word = FLAT_SIDE * (word / 2 ^ 10 % FLAT_SIDE) + word / 2 ^ 26

-- the place in a flat after n steps of a span
unfoldable pub span_place : Spans → ℤ → ℤ → ℤ → ℤ → ℕ → ℕ
span_place Full xfrac yfrac xstep ystep n = flat_place (step_at xfrac xstep n) (step_at yfrac ystep n)
span_place Packed xfrac yfrac xstep ystep n = packed_place (packed_at (pack xfrac yfrac) (pack xstep ystep) n)

-- a colour through colormap m of the lump, 0 past the lump's end
unfoldable pub shade : List ℕ → ℕ → ℕ → ℕ
shade colormap m index = slice_index colormap (MAP_COLOURS * m + index)

-- the colour that a column strip has at a fraction
unfoldable pub column_colour : List ℕ → ℕ → List ℕ → ℕ → ℤ → ℕ
column_colour source base colormap m fraction = shade colormap m (slice_index source (base + texel_row fraction))

-- the colour that a span has at a place in its flat
unfoldable pub span_colour : List ℕ → List ℕ → ℕ → ℕ → ℕ
span_colour flat colormap m place = shade colormap m (slice_index flat place)

-- the rows first to last, none where first is past last
unfoldable pub rows_between : ℤ → ℤ → List ℕ
rows_between first last = cond (int_lt last first) [] (listed_from (λ y. y) (natural first) (natural last))

-- a dot of this colour at each of the rows of column x
unfoldable pub column_dots : Painter → ℕ → (ℕ → ℕ) → List ℕ → List Dot
column_dots painter x colour rows = map (λ y. record { x = x; y = y; colour = colour y; painter = painter }) rows

-- a dot of this colour at each of the columns first to last of row y
unfoldable pub span_dots : Painter → ℕ → (ℕ → ℕ) → ℕ → ℕ → List Dot
span_dots painter y colour first last = listed_from (λ x. record { x = x; y = y; colour = colour x; painter = painter }) first last

-- no row stands between 5 and 4, and three between 5 and 7
pub no_rows_row : rows_between (pos 5) (pos 4) ≡ []
unfolding rows_between
no_rows_row = refl

pub rows_row : rows_between (pos 5) (pos 7) ≡ 5 ∷ 6 ∷ 7 ∷ []
unfolding rows_between listed_from natural
rows_row = refl

-- one row above the centre, half a texel a row: the texel row before 0 is 127
pub texel_row_row : texel_row (row_fraction 100 (pos 0) (pos 32768) 99) ≡ 127
unfolding texel_row row_fraction words_unfolded
texel_row_row = refl

-- half a texel a column in y alone: the next row of texels after two columns, and a carry into x after 128
pub packed_row : packed_place (packed_at (pack (pos 0) (pos 0)) (pack (pos 0) (pos 32768)) 2) ≡ 64
unfolding packed_half pack packed_at packed_place words_unfolded
packed_row = refl

pub carried_row : packed_at (pack (pos 0) (pos 0)) (pack (pos 0) (pos 32768)) 128 ≡ 2 ^ 16
unfolding packed_half pack packed_at words_unfolded
carried_row = refl
