-- How the program ends.
use Rattle.std.specs.Prelude.{◌≡◌, ◌≤◌, ℕ, List, Option}
use Rattle.doom_run.specs.Rules.{CommandValue, FaultsRose, Grew, GrewByPrefix, ShelfView}
use Rattle.job_files.specs.{Lines.line_of, Statuses.code_of, declared.status.Status.Status}
use Rattle.doom_run.specs.Performs.{RunsAs}

-- The number is that of the status of a run of the command: by the views of the shelf, what was written to both outputs,
-- and how often writing had failed, before and after.
pub record ExitsAs (command : Option CommandValue) (before after : ShelfView) (old new : List ℕ → Type 0) (faults later : ℕ)
    (notes noted : List ℕ → Type 0) (note_faults note_later : ℕ) (number : ℕ) : Type 0 where
  pub status : Status
  pub runs : RunsAs command before after old new faults later status
  pub part : GrewByPrefix notes noted (line_of status)
  pub line : (FaultsRose note_faults note_later → ⊥) → Grew notes noted (line_of status)
  -- the notes' count of faults never falls
  pub notes_later : note_faults ≤ note_later
  pub is : number ≡ code_of status
