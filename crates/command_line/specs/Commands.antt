-- Which words are a command, and which command they are.
use Rattle.std.specs.Prelude.{◌≡◌, ℕ, cond, ◌==◌, List, [], ◌∷◌, length, Option, Some, None, option_and_then, option_map, codes, bytes_eq, Result, Err, IfOk, IfErr}
use Rattle.clap.specs.Words.{Row, Text, all_of, fault_of, first_of, matches_of}
use Rattle.command_line.specs.Rules.{Command, CommandValue, Format, IsCounted, LevelTask, MAX_COUNT, MIN_COUNT, MakeJob, Path, Tables, Things, Wad, command_value, exercise, flat, level_job, make, name_of_text}
use Rattle.command_line.specs.declared.fault.CommandFault.{CommandFault}
use Rattle.command_line.specs.{declared.fault.CommandFault.TheVariants.Usage, Simple.simple_command}
use Rattle.command_line.specs.Choices.{format_in, number_within, takes_given, zone_in}
use Rattle.command_line.specs.LevelJobs.{are_wads, level_task_in, level_job_of}

-- a call gives the command of a rule: `Usage` only where there is none
pub record IsCommandOf (rule : Option CommandValue) (result : Result Command CommandFault) : Type 0 where
  pub ok : IfOk result (λ command. rule ≡ Some (command_value command))
  pub counted : IfOk result (λ command. IsCounted (command_value command))
  pub usage : result ≡ Err Usage → rule ≡ None

-- the same of a call that takes no memory
pub record IsDecidedBy (rule : Option CommandValue) (result : Result Command CommandFault) : Type 0 where
  pub ok : IfOk result (λ command. rule ≡ Some (command_value command))
  pub counted : IfOk result (λ command. IsCounted (command_value command))
  pub usage : IfErr result (λ _. rule ≡ None)

-- flat NAME FILE
unfoldable pub flat_command : List Text → Option CommandValue
flat_command [] = None
flat_command (name ∷ []) = None
flat_command (name ∷ file ∷ []) = option_map (λ n. flat n file) (name_of_text name)
flat_command (name ∷ file ∷ more ∷ rest) = None

-- the number of made files
unfoldable pub count_of : Text → Option ℕ
count_of text = number_within MIN_COUNT MAX_COUNT text

-- make tables and make things
unfoldable pub plain_make : Text → Option MakeJob
plain_make what = cond (bytes_eq what (codes "tables")) (Some Tables) (cond (bytes_eq what (codes "things")) (Some Things) None)

-- make wad N and make path N
unfoldable pub numbered_make : Text → Text → Option MakeJob
numbered_make what text =
    option_and_then (λ count. cond (bytes_eq what (codes "wad")) (Some (Wad count)) (cond (bytes_eq what (codes "path")) (Some (Path count)) None))
    (count_of text)

unfoldable pub make_job_of : List Text → Option MakeJob
make_job_of [] = None
make_job_of (what ∷ []) = plain_make what
make_job_of (what ∷ count ∷ []) = numbered_make what count
make_job_of (what ∷ count ∷ more ∷ rest) = None

unfoldable pub make_command : List Text → Option CommandValue
make_command rest = option_map make (make_job_of rest)

unfoldable pub exercise_numbers : List Row → Text → Option (ℕ × ℕ × Format)
exercise_numbers rows text =
    option_and_then (λ count. option_and_then (λ zone. option_and_then (λ format. Some (count, zone, format)) (format_in rows)) (zone_in rows))
    (count_of text)

-- exercise N
unfoldable pub exercise_command : List Row → List Text → Option CommandValue
exercise_command rows [] = None
exercise_command rows (count ∷ []) = option_map (λ n. exercise n.0 n.1 n.2) (exercise_numbers rows count)
exercise_command rows (count ∷ more ∷ rest) = None

-- a job over a level in 1 to 16 WADs
unfoldable pub level_with : List Row → LevelTask → Text → List Text → Option CommandValue
level_with rows task map_name wads = cond (are_wads wads) (option_map (λ level. level_job task level wads) (level_job_of rows map_name)) None

unfoldable pub level_command : List Row → Text → List Text → Option CommandValue
level_command rows job [] = None
level_command rows job (level ∷ wads) = option_and_then (λ task. level_with rows task level wads) (level_task_in rows job)

unfoldable pub job_named : List Row → Text → List Text → Option CommandValue
job_named rows job rest =
    cond (bytes_eq job (codes "flat")) (flat_command rest)
    (cond (bytes_eq job (codes "make")) (make_command rest)
    (cond (bytes_eq job (codes "exercise")) (exercise_command rows rest)
    (level_command rows job rest)))

-- a job that takes each option that is given
unfoldable pub job_taken : List Row → Text → List Text → Option CommandValue
job_taken rows job rest = cond (takes_given rows job) (job_named rows job rest) None

-- the command of what clap found: a job, and words after it
unfoldable pub command_in : List Row → Option CommandValue
command_in rows = option_and_then (λ job. option_and_then (λ rest. job_taken rows job rest) (all_of (codes "rest") rows)) (first_of (codes "job") rows)

-- the words are a command where clap finds no fault in them, and the table takes what it finds
unfoldable pub command_of : List Text → Option CommandValue
command_of words = cond (length (fault_of simple_command words) == 0) (command_in (matches_of simple_command words)) None
