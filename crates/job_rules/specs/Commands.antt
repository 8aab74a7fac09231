-- A command, as text and numbers.
use Rattle.std.specs.Prelude.{ℕ, ◌≤◌, List, map}
use Rattle.job_rules.specs.{declared.command.Command.Command, declared.command.Format.Format}
use Rattle.job_rules.specs.declared.command.Command.TheVariants as command
use Rattle.job_rules.specs.{declared.command.LevelTask.LevelTask, declared.command.MakeJob.MakeJob}
use Rattle.job_rules.specs.declared.command.MakeJob.TheVariants.{Wad, Path, Tables, Things}
use Rattle.job_rules.specs.declared.ranges.TheConstants.{MAX_COUNT, MIN_COUNT}
use Rattle.job_rules.specs.Ranges.{IsZone}
use Rattle.job_rules.specs.LevelJobs.{IsLevelJob, LevelJobValue, level_job_value}

pub data CommandValue : Type 0 where
  flat : List ℕ → List ℕ → CommandValue
  level_job : LevelTask → LevelJobValue → List (List ℕ) → CommandValue
  make : MakeJob → CommandValue
  exercise : ℕ → ℕ → Format → CommandValue

abbrev pub command_value : Command → CommandValue
command_value (command.Flat name file) = flat name file.now
command_value (command.Level task level wads) = level_job task (level_job_value level) (map (λ w. w.now) wads.items)
command_value (command.Make job) = make job
command_value (command.Exercise count zone format) = exercise count zone format

-- a number of made files
pub record IsCount (n : ℕ) : Type 0 where
  pub least : MIN_COUNT ≤ n
  pub most : n ≤ MAX_COUNT

abbrev pub IsCountedMake : MakeJob → Type 0
IsCountedMake (Wad n) = IsCount n
IsCountedMake (Path n) = IsCount n
IsCountedMake Tables = Unit {0}
IsCountedMake Things = Unit {0}

-- a number of made files, and a size that their zone can have
pub record IsExercise (files size : ℕ) : Type 0 where
  pub count : IsCount files
  pub zone : IsZone size

-- the number of made files with the size of their zone, or the numbers of a job over a level, are in their ranges
abbrev pub IsCounted : CommandValue → Type 0
IsCounted (flat name file) = Unit {0}
IsCounted (level_job task level wads) = IsLevelJob level wads
IsCounted (make job) = IsCountedMake job
IsCounted (exercise count zone format) = IsExercise count zone
