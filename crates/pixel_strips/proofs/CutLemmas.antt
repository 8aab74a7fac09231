-- Colours of texels and shades that are cut out.
use Rattle.word_rules.proofs.Common.{ap, ap₂, arith, FitsSigned, List, of_z, slice_index, to_z, w32, ℕ, ℤ, ◌%◌, ◌*◌, ◌+◌, ◌-◌, ◌/◌, ◌<◌, ◌^◌, ◌∙◌, ◌≡◌, to_z-of_z}
use Rattle.pixel_strips.specs.Rules.{FLAT_SIDE, Full, MAP_COLOURS, Packed, Spans, TEXEL_ROWS, column_colour, flat_place, pack, packed_at, packed_place, shade, span_colour, span_place, step_at, texel_row}
use Rattle.pixel_strips.specs.Strips.{IsWindow, cut_colour, cut_span_colour, strip_colour, row_colour, cut_strip_colour, cut_row_colour}

pub row_within : (fraction : ℤ) → texel_row fraction < TEXEL_ROWS
unfolding texel_row
row_within fraction = omega arith

packed_within : (w : ℕ) → FLAT_SIDE * (w % 2 ^ 32 / 2 ^ 10 % FLAT_SIDE) + w % 2 ^ 32 / 2 ^ 26 < 4096
packed_within w = omega arith

pub place_within : (spans : Spans) (x y a b : ℤ) (n : ℕ) → span_place spans x y a b n < 4096
unfolding span_place flat_place packed_place packed_at
place_within Full x y a b n = omega arith
place_within Packed x y a b n = packed_within (pack x y + n * pack a b)

pub cut_column : (source colormap texels shades : List ℕ) (base map : ℕ) (fraction : ℤ) →
    IsWindow source base TEXEL_ROWS texels → IsWindow colormap (MAP_COLOURS * map) MAP_COLOURS shades → slice_index texels (texel_row fraction) < MAP_COLOURS →
    cut_colour texels shades fraction ≡ column_colour source base colormap map fraction
unfolding cut_colour column_colour shade
cut_column source colormap texels shades base map fraction t s l =
    s.same (slice_index texels (texel_row fraction)) l
    ∙ ap (λ (n : ℕ). slice_index colormap (MAP_COLOURS * map + n)) (t.same (texel_row fraction) (row_within fraction))

pub cut_span : (flat colormap texels shades : List ℕ) (map place : ℕ) → place < 4096 →
    IsWindow flat 0 4096 texels → IsWindow colormap (MAP_COLOURS * map) MAP_COLOURS shades → slice_index texels place < MAP_COLOURS →
    cut_span_colour texels shades place ≡ span_colour flat colormap map place
unfolding cut_span_colour span_colour shade
cut_span flat colormap texels shades map place within t s l =
    s.same (slice_index texels place) l ∙ ap (λ (n : ℕ). slice_index colormap (MAP_COLOURS * map + n))
    (t.same place within ∙ ap (slice_index flat) (let place_is : 0 + place ≡ place = omega arith in place_is))

-- the colour k rows after the first, and k columns after it
pub cut_strip_from : (texels shades : List ℕ) (fraction step : ℤ) (first k : ℕ) →
    cut_colour texels shades (step_at fraction step k) ≡ cut_strip_colour texels shades fraction step first (first + k)
unfolding cut_strip_colour
cut_strip_from texels shades fraction step first k =
    let offset_is : k ≡ first + k - first = omega arith in
    ap (λ (m : ℕ). cut_colour texels shades (step_at fraction step m)) offset_is

pub cut_row_from : (spans : Spans) (texels shades : List ℕ) (x_fraction y_fraction x_step y_step : ℤ) (first k : ℕ) →
    cut_span_colour texels shades (span_place spans x_fraction y_fraction x_step y_step k)
    ≡ cut_row_colour spans texels shades x_fraction y_fraction x_step y_step first (first + k)
unfolding cut_row_colour
cut_row_from spans texels shades x_fraction y_fraction x_step y_step first k =
    let offset_is : k ≡ first + k - first = omega arith in
    ap (λ (m : ℕ). cut_span_colour texels shades (span_place spans x_fraction y_fraction x_step y_step m)) offset_is

-- a strip of what is cut out has the colours of the strip of the whole
pub cut_strip : (source colormap texels shades : List ℕ) (base map : ℕ) (fraction step : ℤ) (first : ℕ) →
    IsWindow source base TEXEL_ROWS texels → IsWindow colormap (MAP_COLOURS * map) MAP_COLOURS shades → ((k : ℕ) → slice_index texels k < MAP_COLOURS) →
    cut_strip_colour texels shades fraction step first ≡ strip_colour source base colormap map fraction step first
unfolding cut_strip_colour strip_colour
cut_strip source colormap texels shades base map fraction step first t s bytes =
    let colours_same : (y : ℕ) → cut_strip_colour texels shades fraction step first y ≡ strip_colour source base colormap map fraction step first y =
    λ y. cut_column source colormap texels shades base map (step_at fraction step (y - first)) t s (bytes (texel_row (step_at fraction step (y - first)))) in
    λ i y. colours_same y i

pub cut_row : (spans : Spans) (flat colormap texels shades : List ℕ) (map : ℕ) (x_fraction y_fraction x_step y_step : ℤ) (first : ℕ) →
    IsWindow flat 0 4096 texels → IsWindow colormap (MAP_COLOURS * map) MAP_COLOURS shades → ((k : ℕ) → slice_index texels k < MAP_COLOURS) →
    cut_row_colour spans texels shades x_fraction y_fraction x_step y_step first ≡ row_colour spans flat colormap map x_fraction y_fraction x_step y_step first
unfolding cut_row_colour row_colour
cut_row spans flat colormap texels shades map x_fraction y_fraction x_step y_step first t s bytes =
    let place : ℕ → ℕ = λ x. span_place spans x_fraction y_fraction x_step y_step (x - first) in
    let colours_same : (x : ℕ) → cut_row_colour spans texels shades x_fraction y_fraction x_step y_step first x ≡ row_colour spans flat colormap map x_fraction y_fraction x_step y_step first x =
    λ x. cut_span flat colormap texels shades map (place x) (place_within spans x_fraction y_fraction x_step y_step (x - first)) t s (bytes (place x)) in
    λ i x. colours_same x i

-- a number that was written to a word and read again
abbrev word : ℤ → ℤ
word z = to_z w32 (of_z w32 z)

-- the same where the fractions are words, as the code has them
pub cut_strip_from_words : (texels shades : List ℕ) (fraction step : ℤ) (first k : ℕ) → FitsSigned w32 fraction → FitsSigned w32 step →
    cut_colour texels shades (step_at (word fraction) (word step) k) ≡ cut_strip_colour texels shades fraction step first (first + k)
cut_strip_from_words texels shades fraction step first k f g =
    ap₂ (λ (a b : ℤ). cut_colour texels shades (step_at a b k)) (to_z-of_z w32 fraction f) (to_z-of_z w32 step g)
    ∙ cut_strip_from texels shades fraction step first k

pub cut_strip_words : (source colormap texels shades : List ℕ) (base map : ℕ) (fraction step : ℤ) (first : ℕ) → FitsSigned w32 fraction → FitsSigned w32 step →
    IsWindow source base TEXEL_ROWS texels → IsWindow colormap (MAP_COLOURS * map) MAP_COLOURS shades → ((k : ℕ) → slice_index texels k < MAP_COLOURS) →
    cut_strip_colour texels shades (word fraction) (word step) first ≡ strip_colour source base colormap map fraction step first
cut_strip_words source colormap texels shades base map fraction step first f g t s bytes =
    ap₂ (λ (a b : ℤ). cut_strip_colour texels shades a b first) (to_z-of_z w32 fraction f) (to_z-of_z w32 step g)
    ∙ cut_strip source colormap texels shades base map fraction step first t s bytes

pub cut_row_words : (spans : Spans) (flat colormap texels shades : List ℕ) (map : ℕ) (x_fraction y_fraction x_step y_step : ℤ) (first : ℕ) →
    FitsSigned w32 x_fraction → FitsSigned w32 y_fraction → FitsSigned w32 x_step → FitsSigned w32 y_step →
    IsWindow flat 0 4096 texels → IsWindow colormap (MAP_COLOURS * map) MAP_COLOURS shades → ((k : ℕ) → slice_index texels k < MAP_COLOURS) →
    cut_row_colour spans texels shades (word x_fraction) (word y_fraction) (word x_step) (word y_step) first ≡ row_colour spans flat colormap map x_fraction y_fraction x_step y_step first
cut_row_words spans flat colormap texels shades map x_fraction y_fraction x_step y_step first f g h k t s bytes =
    ap₂ (λ (a b : ℤ). cut_row_colour spans texels shades a b (word x_step) (word y_step) first) (to_z-of_z w32 x_fraction f) (to_z-of_z w32 y_fraction g)
    ∙ ap₂ (λ (a b : ℤ). cut_row_colour spans texels shades x_fraction y_fraction a b first) (to_z-of_z w32 x_step h) (to_z-of_z w32 y_step k)
    ∙ cut_row spans flat colormap texels shades map x_fraction y_fraction x_step y_step first t s bytes
