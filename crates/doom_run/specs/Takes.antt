-- How many bytes of files a job reads at most, one over a level where its zone has room for all that the level
-- needs: each needed lump counts once.
use Rattle.std.specs.Prelude.{◌≡◌, ◌≤◌, ◌+◌, ℕ, List, Ok, ⊤}
use Rattle.doom_run.specs.Rules.{CommandValue, File, LevelJobValue}
use Rattle.level_audit.specs.scene_load.Loads.{LoadedValue, load_in, loaded_sizes}
use Rattle.job_files.specs.{Sizes.files_size, declared.status.Status.Status}
use Rattle.level_audit.specs.scene_load.Orders.{lumps_size}
use Rattle.doom_run.specs.Jobs.{Task, job_of, over, plain}
use Rattle.job_files.specs.declared.status.Status.TheVariants.{Done, Usage, Refused, ReadFault, WriteFault, Limit, ZoneFull, OutOfMemory}

-- Where the files are in order and the zone is roomy, no more came on between these counts of bytes that were
-- read than the files, the headers and directories of the WADs, and each needed lump once.
abbrev pub TakesOnce : LevelJobValue → List (List ℕ) → List File → ℕ → ℕ → Type 0
TakesOnce level wads files before after =
    (loaded : LoadedValue) → load_in level wads files ≡ Ok loaded → (loaded_sizes loaded).roomy ≤ level.settings.zone →
    after ≤ before + (files_size level.files wads files + lumps_size loaded)

-- the same of a task; one without a level reads no more than its parts, each once
abbrev pub TaskTakes : Task → List File → ℕ → ℕ → Type 0
TaskTakes (plain writes reads) files before after = after ≤ before + reads files
TaskTakes (over work) files before after = TakesOnce work.level work.wads (work.files files) before after

-- the same of a command
abbrev pub CommandTakes : CommandValue → List File → ℕ → ℕ → Type 0
CommandTakes command files before after = TaskTakes (job_of command).task files before after

-- what is said of a zone in order once a status ended the frames: it was not full, and where a read failed
-- nothing is said
abbrev pub InOrderAfter : Status → Type 0 → Type 0
InOrderAfter Done P = P
InOrderAfter Usage P = P
InOrderAfter (Refused refusal) P = P
InOrderAfter ReadFault P = ⊤
InOrderAfter WriteFault P = P
InOrderAfter (Limit view kind count) P = P
InOrderAfter (ZoneFull wanted widest) P = ⊥
InOrderAfter OutOfMemory P = P
