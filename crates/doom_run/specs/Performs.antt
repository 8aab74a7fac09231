-- What a run of a job says: by its status, by what was written, and by what was read.
use Rattle.std.specs.Prelude.{◌≡◌, ◌≤◌, ◌+◌, ◌⊎◌, ℕ, Bool, false, IsTrue, List, [], Option, None, Some, Ok}
use Rattle.std.specs.Option.{option_map_or}
use Rattle.doom_run.specs.Rules.{CommandValue, FaultsRose, File, Grew, Holds, IsInOrder, LevelJobValue, ShelfView, from_below, live_sum, lump_size}
use Rattle.job_files.specs.{Files.files_named, declared.status.Status.Status}
use Rattle.job_files.specs.declared.status.Status.TheVariants.{Usage, ReadFault, WriteFault, ZoneFull, OutOfMemory}
use Rattle.level_audit.specs.scene_load.Calls.{HoldsLoaded}
use Rattle.level_audit.specs.scene_load.Loads.{load_in, loaded_value, wad_bytes}
use Rattle.level_audit.specs.scene_load.Orders.{loaded_items, lumps_size}
use Rattle.level_audit.specs.declared.scene_load.load.LoadedScene.{LoadedScene}
use Rattle.doom_run.specs.Ends.{EndsAt, IsEnd, IsReadOrFull, IsUnwritten}
use Rattle.doom_run.specs.{Fulls.IsFullDraw, Fulls.IsFullTask, Jobs.Delivery, Jobs.Job, Jobs.job_of}
use Rattle.doom_run.specs.{Leasts.delivery_least, Leasts.task_least, Leasts.zone_of, Steps.at_step}
use Rattle.doom_run.specs.{Takes.TaskTakes, Verdict.delivered, Verdict.job_verdict, Words.has_zone}

-- What a status says whatever the files are: of a job that reads on while it writes, or does not; by the views
-- of the shelf before and after, what was written before and after, and how often writing had failed then.
pub record Behaves (reads_on : Bool) (before after : ShelfView) (old new : List ℕ → Type 0) (faults later : ℕ) (status : Status) : Type 0 where
  pub unwritten : IsUnwritten status → Grew old new []
  pub unread : reads_on ≡ false → IsReadOrFull status → Grew old new []
  pub not_usage : status ≡ Usage → ⊥
  -- a fault comes only from the object that counted it
  pub read_fault : status ≡ ReadFault → FaultsRose before.faults after.faults
  pub write_fault : status ≡ WriteFault → FaultsRose faults later
  -- and after any other status its count is as it was: no fault is passed over
  pub read_settled : (status ≡ ReadFault → ⊥) → after.faults ≡ before.faults
  pub write_settled : (status ≡ WriteFault → ⊥) → later ≡ faults

-- What a status says of a job where these files are held.
pub record Tells (job : Job) (files : List File) (before after : ShelfView) (old new : List ℕ → Type 0) (status : Status) : Type 0 where
  pub ends : EndsAt before.steady (job_verdict job files) old new status
  pub zone_full : (wanted widest : ℕ) → status ≡ ZoneFull wanted widest → IsFullTask job.task files wanted widest
  pub least : IsEnd status → task_least job.task files ≤ zone_of job.task
  pub reads : (status ≡ ReadFault → ⊥) → TaskTakes job.task files before.taken after.taken

-- A run of a job.
pub record Performs (job : Job) (before after : ShelfView) (old new : List ℕ → Type 0) (faults later : ℕ) (status : Status) : Type 0 where
  pub behaves : Behaves job.reads_on before after old new faults later status
  -- only a job that asks for files meets a read fault, and only one with a zone a full one
  pub asked : status ≡ ReadFault → IsTrue job.asks
  pub zoned : (wanted widest : ℕ) → status ≡ ZoneFull wanted widest → IsTrue (has_zone job.task)
  pub tells : (files : List File) → (IsTrue job.asks → Holds before files) → Tells job files before after old new status

-- What was loaded is what these files give, over a shelf that holds their WADs.
pub record IsLoadOf (level : LevelJobValue) (wads : List (List ℕ)) (files : List File) (view : ShelfView) (loaded : LoadedScene) : Type 0 where
  pub is : load_in level wads files ≡ Ok (loaded_value loaded)
  pub holds : (contents : List (List ℕ)) → files_named wads files ≡ Some contents → HoldsLoaded view contents loaded

-- What a status says of what was done with a level that these files give. Of the lumps that it needs no more is
-- read than those that are not live yet.
pub record TellsOver (level : LevelJobValue) (wads : List (List ℕ)) (files : List File) (delivery : Delivery) (before after : ShelfView) (loaded : LoadedScene) (old new : List ℕ → Type 0) (status : Status) : Type 0 where
  pub ends : EndsAt before.steady (from_below at_step (delivered delivery (wad_bytes wads files loaded.files.dir.lumps) (loaded_value loaded))) old new status
  pub zone_full : (wanted widest : ℕ) → status ≡ ZoneFull wanted widest → IsTrue delivery.reads × IsFullDraw level wads files wanted widest
  pub least : IsEnd status → delivery_least level delivery (wad_bytes wads files loaded.files.dir.lumps) (loaded_value loaded) ≤ level.settings.zone
  pub reads : (status ≡ ReadFault → ⊥) → IsInOrder (loaded_items (loaded_value loaded)) loaded.cache →
      after.taken + live_sum lump_size (loaded_items (loaded_value loaded)) loaded.cache.blocks ≤ before.taken + lumps_size (loaded_value loaded)

-- What is done with a level that is loaded.
pub record Delivers (level : LevelJobValue) (delivery : Delivery) (before after : ShelfView) (loaded : LoadedScene) (old new : List ℕ → Type 0) (faults later : ℕ) (status : Status) : Type 0 where
  pub behaves : Behaves delivery.reads before after old new faults later status
  pub tells : (wads : List (List ℕ)) (files : List File) → IsLoadOf level wads files before loaded →
      TellsOver level wads files delivery before after loaded old new status

-- A run of words, which are a command or not.
abbrev pub RunsBy : Option CommandValue → ShelfView → ShelfView → (List ℕ → Type 0) → (List ℕ → Type 0) → ℕ → ℕ → Status → Type 0
RunsBy None before after old new faults later status = ((status ≡ Usage) ⊎ (status ≡ OutOfMemory)) × Grew old new [] × (later ≡ faults)
RunsBy (Some command) before after old new faults later status = Performs (job_of command) before after old new faults later status

pub record RunsAs (command : Option CommandValue) (before after : ShelfView) (old new : List ℕ → Type 0) (faults later : ℕ) (status : Status) : Type 0 where
  -- it is one of the command; or where there is none the status says so, unless memory ran out, and nothing is written
  pub runs : RunsBy command before after old new faults later status
  -- only a command that asks for files touches the shelf
  pub untouched : option_map_or (λ c. (job_of c).asks) command false ≡ false → after ≡ before
