-- The dots of the strips that a canvas is painted with.
use Rattle.std.specs.Prelude.{◌≡◌, ℕ, ◌+◌, ◌-◌, ◌<◌, ℤ, List, length, slice_index}
use Rattle.pixel_strips.specs.Rules.{Dot, Painter, Spans, column_colour, column_dots, listed_from, span_colour, span_place, step_at, texel_row}

-- a column strip: at row y its fraction has been stepped y - first times
unfoldable pub strip_colour : List ℕ → ℕ → List ℕ → ℕ → ℤ → ℤ → ℕ → ℕ → ℕ
strip_colour source base colormap map fraction step first y =
    column_colour source base colormap map (step_at fraction step (y - first))

abbrev pub column_strip_dots : Painter → ℕ → (ℕ → ℕ) → ℕ → ℕ → List Dot
column_strip_dots painter x colour first last = column_dots painter x colour (listed_from (λ y. y) first last)

-- a span strip: at column x its place has been stepped x - first times
unfoldable pub row_colour : Spans → List ℕ → List ℕ → ℕ → ℤ → ℤ → ℤ → ℤ → ℕ → ℕ → ℕ
row_colour spans flat colormap map x_fraction y_fraction x_step y_step first x =
    span_colour flat colormap map (span_place spans x_fraction y_fraction x_step y_step (x - first))

-- a part of some bytes: `count` of them, from an offset on
pub record IsWindow (bytes : List ℕ) (offset count : ℕ) (part : List ℕ) : Type 0 where
  pub size : length part ≡ count
  pub same : (k : ℕ) → k < count → slice_index part k ≡ slice_index bytes (offset + k)

-- the colour of a texel and a colormap that are cut out already
unfoldable pub cut_colour : List ℕ → List ℕ → ℤ → ℕ
cut_colour texels shades fraction = slice_index shades (slice_index texels (texel_row fraction))

unfoldable pub cut_span_colour : List ℕ → List ℕ → ℕ → ℕ
cut_span_colour texels shades place = slice_index shades (slice_index texels place)

-- a column strip of cut out texels and shades: at row y its fraction has been stepped y - first times
unfoldable pub cut_strip_colour : List ℕ → List ℕ → ℤ → ℤ → ℕ → ℕ → ℕ
cut_strip_colour texels shades fraction step first y = cut_colour texels shades (step_at fraction step (y - first))

-- a span strip of them: at column x its place has been stepped x - first times
unfoldable pub cut_row_colour : Spans → List ℕ → List ℕ → ℤ → ℤ → ℤ → ℤ → ℕ → ℕ → ℕ
cut_row_colour spans texels shades x_fraction y_fraction x_step y_step first x =
    cut_span_colour texels shades (span_place spans x_fraction y_fraction x_step y_step (x - first))
