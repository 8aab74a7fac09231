-- A job over a level, as text and numbers.
use Rattle.std.specs.Prelude.{ℕ, List, length, Option, option_map}
use Rattle.job_rules.specs.{declared.command.Files.Files, declared.command.LevelJob.LevelJob}
use Rattle.job_rules.specs.declared.command.Settings.{Settings}
use Rattle.job_rules.specs.declared.ranges.TheConstants.{MAX_WADS}
use Rattle.job_rules.specs.Ranges.{AreSettings, IsWithin}

-- the names of files, as text
pub record FileNames : Type 0 where
  pub tables : List ℕ
  pub things : List ℕ
  pub path : List ℕ
  pub weapon : Option (List ℕ)

abbrev pub file_names : Files → FileNames
file_names files = record { tables = files.tables.now; things = files.things.now; path = files.path.now; weapon = option_map (λ w. w.now) files.weapon }

-- a level and how it is looked at, as text and numbers
pub record LevelJobValue : Type 0 where
  pub map_name : List ℕ
  pub files : FileNames
  pub settings : Settings

abbrev pub level_job_value : LevelJob → LevelJobValue
level_job_value level = record { map_name = level.map; files = file_names level.files; settings = level.settings }

-- the numbers of a job over a level and the number of its WADs are in their ranges
pub record IsLevelJob (level : LevelJobValue) (wads : List (List ℕ)) : Type 0 where
  pub settings : AreSettings level.settings
  pub count : IsWithin 1 MAX_WADS (length wads)
