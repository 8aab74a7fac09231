-- The made files of a number, rendered and counted.
use Rattle.std.specs.Prelude.{ℕ, ◌++◌, ◌∷◌, ◌*◌, ◌%◌, ◌^◌, List, [], length, sum, codes, Option, Some, None}
use Rattle.doom_run.specs.Rules.{File, Format, Full, Index, LevelJobValue, Path, Ppm, Tables, Things, Wad}
use Rattle.command_line.specs.declared.choices.TheConstants.{DEFAULT_OPENINGS, DEFAULT_PLANES, DEFAULT_SIZE, DEFAULT_SKILL}
use Rattle.frame_writer.specs.declared.TheConstants.{FRAME_BYTES, PPM_BYTES}
use Rattle.refusals.specs.Lines.{labelled}
use Rattle.job_files.specs.Made.{made_file}
use Rattle.doom_run.specs.declared.form.ViewForm.TheVariants.{Frame}
use Rattle.doom_run.specs.declared.summary.Summary.{Summary}
use Rattle.doom_run.specs.Views.{ViewsValue, due_views, first_over, rendered_bytes}

-- the made files of a number, by name
unfoldable pub made_files : ℕ → List File
made_files n =
    record { name = codes "wad"; bytes = made_file (Wad n) }
    ∷ record { name = codes "tables"; bytes = made_file Tables }
    ∷ record { name = codes "things"; bytes = made_file Things }
    ∷ record { name = codes "path"; bytes = made_file (Path n) } ∷ []

abbrev pub made_wads : List (List ℕ)
made_wads = codes "wad" ∷ []

-- the job over the made level in a zone of that size, with each other setting as it is where no option is given
abbrev pub made_level : ℕ → LevelJobValue
made_level zone = record {
  map_name = 77 ∷ 65 ∷ 80 ∷ 48 ∷ 49 ∷ 0 ∷ 0 ∷ 0 ∷ [];
  files = record { tables = codes "tables"; things = codes "things"; path = codes "path"; weapon = None };
  settings = record { zone = zone; skill = DEFAULT_SKILL; size = DEFAULT_SIZE; planes = DEFAULT_PLANES; openings = DEFAULT_OPENINGS; spans = Full };
}

-- the line of an exercise: sectors, views, frames, and the number and the sum of the frames' bytes
unfoldable pub exercise_line : ℕ → ℕ → List ℕ → List ℕ
exercise_line n frames bytes =
    labelled (codes "sectors ") (4 * n * n)
    ++ (labelled (codes " views ") (3 * n)
    ++ (labelled (codes " frames ") frames
    ++ (labelled (codes " bytes ") (length bytes)
    ++ (labelled (codes " sum ") (sum bytes % 2 ^ 64) ++ codes "\n"))))

-- the line of what was counted
abbrev pub summary_line : Summary → List ℕ
summary_line s =
    labelled (codes "sectors ") s.sectors
    ++ (labelled (codes " views ") s.views
    ++ (labelled (codes " frames ") s.frames
    ++ (labelled (codes " bytes ") s.bytes
    ++ (labelled (codes " sum ") s.sum ++ codes "\n"))))

-- nothing is written where a made view is over a limit
abbrev pub line_unless : ℕ → Format → ViewsValue → Option ℕ → List ℕ
line_unless n format r None = exercise_line n (length (due_views r)) (rendered_bytes (Frame format) r)
line_unless n format r (Some view) = []

abbrev pub exercised_bytes : ℕ → Format → ViewsValue → List ℕ
exercised_bytes n format r = line_unless n format r (first_over r)

-- the bytes of a frame as it is written
abbrev pub frame_size : Format → ℕ
frame_size Index = FRAME_BYTES
frame_size Ppm = PPM_BYTES
