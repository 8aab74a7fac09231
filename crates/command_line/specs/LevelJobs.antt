-- The jobs over a level: the level's name, the files, the numbers and the WADs.
use Rattle.std.specs.Prelude.{Bool, cond, nat_lt, nat_le, ◌&&◌, List, length, Option, Some, None, option_and_then, codes, bytes_eq}
use Rattle.clap.specs.Words.{Row, Text, first_of}
use Rattle.command_line.specs.Rules.{Audit, FileNames, LevelJobValue, LevelTask, Limits, MAX_WADS, Render, Trace, Trim, name_of_text}
use Rattle.job_rules.specs.declared.command.LevelTask.TheVariants.{List as Lists}
use Rattle.command_line.specs.Choices.{format_in, settings_in}

-- the job over a level of that name; `render` may have a format
unfoldable pub level_task_in : List Row → Text → Option LevelTask
level_task_in rows job =
    cond (bytes_eq job (codes "render")) (option_and_then (λ format. Some (Render format)) (format_in rows))
    (cond (bytes_eq job (codes "trace")) (Some Trace)
    (cond (bytes_eq job (codes "list")) (Some Lists)
    (cond (bytes_eq job (codes "audit")) (Some Audit)
    (cond (bytes_eq job (codes "limits")) (Some Limits)
    (cond (bytes_eq job (codes "trim")) (Some Trim) None)))))

-- three files must be given, and one may be
unfoldable pub file_names_in : List Row → Option FileNames
file_names_in rows =
    option_and_then (λ tables.
    option_and_then (λ things.
    option_and_then (λ path.
    Some (record { tables = tables; things = things; path = path; weapon = first_of (codes "weapon") rows }))
    (first_of (codes "path") rows))
    (first_of (codes "things") rows))
    (first_of (codes "tables") rows)

unfoldable pub level_job_of : List Row → Text → Option LevelJobValue
level_job_of rows text =
    option_and_then (λ name.
    option_and_then (λ files.
    option_and_then (λ settings.
    Some (record { map_name = name; files = files; settings = settings }))
    (settings_in rows))
    (file_names_in rows))
    (name_of_text text)

-- 1 to 16 WADs
unfoldable pub are_wads : List Text → Bool
are_wads wads = nat_lt 0 (length wads) && nat_le (length wads) MAX_WADS
