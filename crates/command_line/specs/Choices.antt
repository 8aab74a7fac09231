-- The options of a job, by what clap finds: numbers within a range, the format, and whether the job takes them.
use Rattle.std.specs.Prelude.{ℕ, Bool, true, cond, not, ◌%◌, nat_le, ◌==◌, ◌&&◌, ◌||◌, List, [], ◌∷◌, map, Option, Some, None, option_and_then, is_some, codes, bytes_eq}
use Rattle.clap.specs.Words.{Row, Text, first_of}
use Rattle.numerals.specs.Numerals.{numeral}
use Rattle.command_line.specs.Rules.{Format, Full, Index, MAX_PLANES, MAX_SIZE, MAX_SKILL, MAX_ZONE, MIN_OPENINGS, MIN_PLANES, MIN_SIZE, MIN_SKILL, MIN_ZONE, MOST_OPENINGS, OPTIONS, Packed, Ppm, Settings, Spans, ZONE_STEP, takes}
use Rattle.command_line.specs.declared.choices.TheConstants.{DEFAULT_OPENINGS, DEFAULT_PLANES, DEFAULT_SIZE, DEFAULT_SKILL, DEFAULT_ZONE}

-- the number that a word writes, from low to high
unfoldable pub number_within : ℕ → ℕ → Text → Option ℕ
number_within low high text = option_and_then (λ n. cond (nat_le low n && nat_le n high) (Some n) None) (numeral text)

-- the number of an option, or the default of one that is not given
unfoldable pub number_option : ℕ → ℕ → ℕ → Option Text → Option ℕ
number_option low high default None = Some default
number_option low high default (Some text) = number_within low high text

unfoldable pub multiple_of_step : ℕ → Option ℕ
multiple_of_step size = cond (size % ZONE_STEP == 0) (Some size) None

-- a size that a zone can have
unfoldable pub zone_in : List Row → Option ℕ
zone_in rows = option_and_then multiple_of_step (number_option MIN_ZONE MAX_ZONE DEFAULT_ZONE (first_of (codes "zone") rows))

unfoldable pub spans_named : Text → Option Spans
spans_named name = cond (bytes_eq name (codes "full")) (Some Full) (cond (bytes_eq name (codes "packed")) (Some Packed) None)

-- how spans are stepped, in full where it is not given
abbrev pub spans_or_full : Option Text → Option Spans
spans_or_full None = Some Full
spans_or_full (Some name) = spans_named name

unfoldable pub spans_in : List Row → Option Spans
spans_in rows = spans_or_full (first_of (codes "spans") rows)

-- the numbers of a job over a level
unfoldable pub settings_in : List Row → Option Settings
settings_in rows =
    option_and_then (λ zone.
    option_and_then (λ skill.
    option_and_then (λ size.
    option_and_then (λ planes.
    option_and_then (λ openings.
    option_and_then (λ spans.
    Some (record { zone = zone; skill = skill; size = size; planes = planes; openings = openings; spans = spans }))
    (spans_in rows))
    (number_option MIN_OPENINGS MOST_OPENINGS DEFAULT_OPENINGS (first_of (codes "openings") rows)))
    (number_option MIN_PLANES MAX_PLANES DEFAULT_PLANES (first_of (codes "planes") rows)))
    (number_option MIN_SIZE MAX_SIZE DEFAULT_SIZE (first_of (codes "size") rows)))
    (number_option MIN_SKILL MAX_SKILL DEFAULT_SKILL (first_of (codes "skill") rows)))
    (zone_in rows)

unfoldable pub format_named : Text → Option Format
format_named name = cond (bytes_eq name (codes "index")) (Some Index) (cond (bytes_eq name (codes "ppm")) (Some Ppm) None)

-- the format, index where none is given
abbrev pub format_or_index : Option Text → Option Format
format_or_index None = Some Index
format_or_index (Some name) = format_named name

unfoldable pub format_in : List Row → Option Format
format_in rows = format_or_index (first_of (codes "format") rows)

-- an option is not given, or the job takes it
unfoldable pub allows : List Row → Text → Text → Bool
allows rows job option = not (is_some (first_of option rows)) || takes job option

-- so it is for each of these options
abbrev pub takes_each : List Row → Text → List Text → Bool
takes_each rows job [] = true
takes_each rows job (option ∷ options) = allows rows job option && takes_each rows job options

-- and each of all
unfoldable pub takes_given : List Row → Text → Bool
takes_given rows job = takes_each rows job (map (λ w. w.now) OPTIONS)
