-- Worked words.
use Rattle.std.specs.Prelude.{◌≡◌, ℕ, List, [], ◌∷◌, Some, None, codes, refl}
use Rattle.clap.specs.Words.{Text}
use Rattle.clap.proofs.OnLiterals.{clap_on_literals}
use Rattle.numerals.specs.Numerals.{digits_after, is_numeral, numeral}
use Rattle.command_line.specs.Rules.{Audit, Full, Index, Limits, Packed, Ppm, Render, Trace, Trim, Wad, exercise, filled, flat, level_job, make, takes}
use Rattle.command_line.specs.Simple.{simple_command, with_option}
use Rattle.command_line.specs.Choices.{format_in, format_named, multiple_of_step, number_option, number_within, settings_in, spans_in, spans_named, allows, takes_given, zone_in}
use Rattle.command_line.specs.LevelJobs.{are_wads, file_names_in, level_task_in, level_job_of}
use Rattle.command_line.specs.Commands.{command_in, command_of, count_of, exercise_numbers, exercise_command, flat_command, job_named, job_taken, make_job_of, make_command, numbered_make, plain_make, level_command, level_with}

-- what the rows below unfold
unfoldable pub words_unfolded : ℕ
unfolding clap_on_literals digits_after is_numeral numeral filled simple_command with_option format_in format_named multiple_of_step number_option number_within settings_in spans_in spans_named allows takes takes_given zone_in are_wads file_names_in level_task_in level_job_of command_in command_of count_of exercise_numbers exercise_command flat_command job_named job_taken make_job_of make_command numbered_make plain_make level_command level_with
words_unfolded = 0

-- words after `--` are no options
pub flat_after : command_of (codes "flat" ∷ codes "--" ∷ codes "tile" ∷ codes "-a" ∷ []) ≡ Some (flat (84 ∷ 73 ∷ 76 ∷ 69 ∷ 0 ∷ 0 ∷ 0 ∷ 0 ∷ []) (codes "-a"))
unfolding words_unfolded
flat_after = refl

-- an option that the job does not have
pub flat_zone : command_of (codes "--zone" ∷ codes "64" ∷ codes "flat" ∷ codes "TILE" ∷ codes "a" ∷ []) ≡ None
unfolding words_unfolded
flat_zone = refl

-- the greatest number of made files, and the one past it
pub make_most : command_of (codes "make" ∷ codes "wad" ∷ codes "32" ∷ []) ≡ Some (make (Wad 32))
unfolding words_unfolded
make_most = refl

pub make_more : command_of (codes "make" ∷ codes "wad" ∷ codes "33" ∷ []) ≡ None
unfolding words_unfolded
make_more = refl

-- words of an audit with two of its three files, and more words
abbrev pub audit_words : List Text → List Text
audit_words more = codes "audit" ∷ codes "e1m1" ∷ codes "a" ∷ codes "--tables" ∷ codes "t" ∷ codes "--things" ∷ codes "o" ∷ more

-- an audit with the greatest skill
pub audit_most : command_of (audit_words (codes "--path" ∷ codes "p" ∷ codes "--skill" ∷ codes "5" ∷ [])) ≡ Some (level_job Audit (record { map_name = 69 ∷ 49 ∷ 77 ∷ 49 ∷ 0 ∷ 0 ∷ 0 ∷ 0 ∷ []; files = record { tables = codes "t"; things = codes "o"; path = codes "p"; weapon = None }; settings = record { zone = 6291456; skill = 5; size = 11; planes = 128; openings = 20480; spans = Full } }) (codes "a" ∷ []))
unfolding words_unfolded
audit_most = refl

-- the skill past it
pub audit_more : command_of (audit_words (codes "--path" ∷ codes "p" ∷ codes "--skill" ∷ codes "6" ∷ [])) ≡ None
unfolding words_unfolded
audit_more = refl

-- one of the files is not given
pub audit_pathless : command_of (audit_words []) ≡ None
unfolding words_unfolded
audit_pathless = refl

-- words of another job over a level with its three files, and more words
abbrev pub level_words : Text → List Text → List Text
level_words job more = job ∷ codes "e1m1" ∷ codes "a" ∷ codes "--tables" ∷ codes "t" ∷ codes "--things" ∷ codes "o" ∷ codes "--path" ∷ codes "p" ∷ more

-- frames as pictures
pub render_ppm : command_of (level_words (codes "render") (codes "--format" ∷ codes "ppm" ∷ [])) ≡ Some (level_job (Render Ppm) (record { map_name = 69 ∷ 49 ∷ 77 ∷ 49 ∷ 0 ∷ 0 ∷ 0 ∷ 0 ∷ []; files = record { tables = codes "t"; things = codes "o"; path = codes "p"; weapon = None }; settings = record { zone = 6291456; skill = 3; size = 11; planes = 128; openings = 20480; spans = Full } }) (codes "a" ∷ []))
unfolding words_unfolded
render_ppm = refl

-- the limits of a level
pub limits_plain : command_of (level_words (codes "limits") []) ≡ Some (level_job Limits (record { map_name = 69 ∷ 49 ∷ 77 ∷ 49 ∷ 0 ∷ 0 ∷ 0 ∷ 0 ∷ []; files = record { tables = codes "t"; things = codes "o"; path = codes "p"; weapon = None }; settings = record { zone = 6291456; skill = 3; size = 11; planes = 128; openings = 20480; spans = Full } }) (codes "a" ∷ []))
unfolding words_unfolded
limits_plain = refl

-- the trimmed file of a level, which has no format
pub trim_plain : command_of (level_words (codes "trim") []) ≡ Some (level_job Trim (record { map_name = 69 ∷ 49 ∷ 77 ∷ 49 ∷ 0 ∷ 0 ∷ 0 ∷ 0 ∷ []; files = record { tables = codes "t"; things = codes "o"; path = codes "p"; weapon = None }; settings = record { zone = 6291456; skill = 3; size = 11; planes = 128; openings = 20480; spans = Full } }) (codes "a" ∷ []))
unfolding words_unfolded
trim_plain = refl

pub trim_format : command_of (level_words (codes "trim") (codes "--format" ∷ codes "ppm" ∷ [])) ≡ None
unfolding words_unfolded
trim_format = refl

-- one made file in the least zone
pub exercise_least : command_of (codes "exercise" ∷ codes "1" ∷ codes "--zone" ∷ codes "64" ∷ []) ≡ Some (exercise 1 64 Index)
unfolding words_unfolded
exercise_least = refl

-- packed spans are for what draws
pub trace_packed : command_of (level_words (codes "trace") (codes "--spans" ∷ codes "packed" ∷ [])) ≡ Some (level_job Trace (record { map_name = 69 ∷ 49 ∷ 77 ∷ 49 ∷ 0 ∷ 0 ∷ 0 ∷ 0 ∷ []; files = record { tables = codes "t"; things = codes "o"; path = codes "p"; weapon = None }; settings = record { zone = 6291456; skill = 3; size = 11; planes = 128; openings = 20480; spans = Packed } }) (codes "a" ∷ []))
unfolding words_unfolded
trace_packed = refl

pub limits_packed : command_of (level_words (codes "limits") (codes "--spans" ∷ codes "packed" ∷ [])) ≡ None
unfolding words_unfolded
limits_packed = refl
