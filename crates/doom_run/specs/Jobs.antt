-- What each command determines: whether it asks the shelf for files, and what it makes of them. Nothing else
-- in this crate has a case a job.
use Rattle.std.specs.Prelude.{ℕ, Bool, true, false, List, [], Result, Ok, codes}
use Rattle.doom_run.specs.Rules.{CommandValue, File, Format, LevelJobValue, LevelTask, Stop, ZoneSizes, and_then, exercise, flat, level_job, make, trimmed_file}
use Rattle.frame_writer.specs.Ppm.{ppm}
use Rattle.job_rules.specs.declared.command.LevelTask.TheVariants as task
use Rattle.refusals.specs.declared.refusal.Refusal.{Refusal}
use Rattle.job_files.specs.{Flats.flat_verdict, Lines.pair_line, Made.made_file, Sizes.flat_reads}
use Rattle.job_files.specs.{declared.status.Status.Status, declared.status.Status.TheVariants.Done}
use Rattle.level_audit.specs.scene_load.Loads.{LoadedValue, loaded_sizes}
use Rattle.doom_run.specs.{declared.form.ViewForm.ViewForm, Layers.SeenView, Lists.listed_bytes}
use Rattle.doom_run.specs.declared.form.ViewForm.TheVariants.{Frame, Trace}
use Rattle.doom_run.specs.Exercises.{exercised_bytes, made_files, made_level, made_wads}
use Rattle.doom_run.specs.Trims.{plan_in}
use Rattle.doom_run.specs.Views.{ViewsValue, counted_bytes, due_views, rendered_bytes, rendered_end, views_of}

-- all that is written, and the status with which a run then ends
pub record Written : Type 0 where
  pub output : List ℕ
  pub end : Status

abbrev pub done : List ℕ → Written
done bytes = record { output = bytes; end = Done }

-- the line of an audit: how large a zone has to be for a level
abbrev pub audited : ZoneSizes → Written
audited sizes = done (pair_line (codes "accepted enough ") sizes.enough (codes " roomy ") sizes.roomy)

-- the frames or the traces of the views of a path
abbrev pub rendered : ViewForm → ViewsValue → Written
rendered form views = record { output = rendered_bytes form views; end = rendered_end views }

-- the counts of these views
abbrev pub counted_views : ViewsValue → Written
counted_views views = done (counted_bytes views)

-- what these views are made of, item by item
abbrev pub listed_views : ViewsValue → Written
listed_views views = done (listed_bytes views)

-- the line of made files, rendered in memory and counted
abbrev pub exercised : ℕ → Format → ViewsValue → Written
exercised n format views = record { output = exercised_bytes n format views; end = rendered_end views }

-- What a job does with a level that is loaded.
pub record Delivery : Type 0 where
  -- it reads lumps then: it draws, or it copies
  pub reads : Bool
  -- the views that it draws
  pub drawn : ViewsValue → List SeenView
  -- what it writes, where the lumps have these bytes, or why it refuses
  pub makes : (ℕ → List ℕ) → LoadedValue → Result Written Refusal

-- one that reads no more, and writes this
abbrev pub telling : ((ℕ → List ℕ) → LoadedValue → Written) → Delivery
telling tells = record { reads = false; drawn = λ views. []; makes = λ bytes loaded. Ok (tells bytes loaded) }

-- one that draws the views of the path, up to the first that is over a limit
abbrev pub drawing : LevelJobValue → (ViewsValue → Written) → Delivery
drawing level writes = record { reads = true; drawn = due_views; makes = λ bytes loaded. Ok (writes (views_of bytes level.settings loaded)) }

-- one that copies the needed lumps into one file
abbrev pub trimming : LevelJobValue → Delivery
trimming level = record {
  reads = true;
  drawn = λ views. [];
  makes = λ bytes loaded. and_then (plan_in level loaded) (λ parts. Ok (done (trimmed_file bytes loaded.files.lumps parts)));
}

abbrev pub delivery_of : LevelTask → LevelJobValue → Delivery
delivery_of (task.Render format) level = drawing level (rendered (Frame format))
delivery_of task.Audit level = telling (λ bytes loaded. audited (loaded_sizes loaded))
delivery_of task.Limits level = telling (λ bytes loaded. counted_views (views_of bytes level.settings loaded))
delivery_of task.List level = telling (λ bytes loaded. listed_views (views_of bytes level.settings loaded))
delivery_of task.Trim level = trimming level
delivery_of task.Trace level = drawing level (rendered Trace)

-- a level, the WADs that it is in, the files that are read, by those that are held, and what is done with it
pub record Work : Type 0 where
  pub level : LevelJobValue
  pub wads : List (List ℕ)
  pub files : List File → List File
  pub delivery : Delivery

-- a job over a level, of the files that are held
abbrev pub level_work : LevelJobValue → List (List ℕ) → Delivery → Work
level_work level wads delivery = record { level = level; wads = wads; files = λ files. files; delivery = delivery }

-- the made level of the made files
abbrev pub made_work : ℕ → ℕ → Format → Work
made_work n zone format = record {
  level = made_level zone;
  wads = made_wads;
  files = λ files. made_files n;
  delivery = drawing (made_level zone) (exercised n format);
}

pub data Task : Type 0 where
  -- without a level: what is written, and how many bytes are read at most, by the files that are held
  plain : (List File → Result Written (Stop Refusal)) → (List File → ℕ) → Task
  over : Work → Task

pub record Job : Type 0 where
  -- it asks the shelf for files
  pub asks : Bool
  -- it reads on while it writes: frames and traces as they are drawn, a trimmed file lump by lump
  pub reads_on : Bool
  pub task : Task

abbrev pub job_over : LevelJobValue → List (List ℕ) → Delivery → Job
job_over level wads delivery = record { asks = true; reads_on = delivery.reads; task = over (level_work level wads delivery) }

-- the table
abbrev pub job_of : CommandValue → Job
job_of (flat name file) = record { asks = true; reads_on = false; task = plain (λ files. and_then (flat_verdict name file files) (λ picture. Ok (done (ppm picture.frame picture.palette)))) (flat_reads name file) }
job_of (level_job task level wads) = job_over level wads (delivery_of task level)
job_of (make job) = record { asks = false; reads_on = false; task = plain (λ files. Ok (done (made_file job))) (λ files. 0) }
job_of (exercise n zone format) = record { asks = false; reads_on = false; task = over (made_work n zone format) }
