-- What a run comes to for its words and the files that are held.
use Rattle.std.specs.Prelude.{ℕ, zero, List, Result, Ok}
use Rattle.doom_run.specs.Rules.{File, Stop, and_then, from_below, no_file}
use Rattle.command_line.specs.Commands.{command_of}
use Rattle.refusals.specs.declared.refusal.Refusal.{Refusal}
use Rattle.job_files.specs.declared.status.Status.{Status}
use Rattle.level_audit.specs.scene_load.Loads.{LoadedValue, load_in, loaded_sizes, wad_bytes}
use Rattle.doom_run.specs.Jobs.{Delivery, Job, Task, Work, Written, job_of, over, plain}
use Rattle.doom_run.specs.Steps.{RunStop, at_step, else_usage}

-- all that an accepted run writes, the status with which it ends where nothing fails, and how many bytes a
-- zone needs that is never full, 0 where the job has none
pub record Accepted : Type 0 where
  pub output : List ℕ
  pub end : Status
  pub enough : ℕ

abbrev pub accepted_in : ℕ → Written → Accepted
accepted_in enough written = record { output = written.output; end = written.end; enough = enough }

-- what is accepted of a level that is loaded, whose lumps have these bytes
abbrev pub delivered : Delivery → (ℕ → List ℕ) → LoadedValue → Result Accepted (Stop Refusal)
delivered delivery bytes loaded = and_then (no_file (delivery.makes bytes loaded)) (λ written. Ok (accepted_in (loaded_sizes loaded).enough written))

-- loading comes first
abbrev pub work_verdict : Work → List File → Result Accepted (Stop Refusal)
work_verdict work files =
    and_then (load_in work.level work.wads (work.files files)) (λ loaded.
    delivered work.delivery (wad_bytes work.wads (work.files files) loaded.files.lumps) loaded)

abbrev pub task_verdict : Task → List File → Result Accepted (Stop Refusal)
task_verdict (plain writes reads) files = and_then (writes files) (λ written. Ok (accepted_in zero written))
task_verdict (over work) files = work_verdict work files

-- what a job determines
abbrev pub job_verdict : Job → List File → Result Accepted RunStop
job_verdict job files = from_below at_step (task_verdict job.task files)

-- the first stop, or what is accepted
abbrev pub verdict : List (List ℕ) → List File → Result Accepted RunStop
verdict words files = and_then (else_usage (command_of words)) (λ command. job_verdict (job_of command) files)
