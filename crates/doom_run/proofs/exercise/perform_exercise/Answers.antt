use Rattle.doom_run.specs.{Rules.exercise, Jobs.job_of}
use Rattle.doom_run.proofs.PerformLemmas.{memory_performs}
use Rattle.doom_run.proofs.exercise.perform_exercise.Goals as goal

pub returns-in-Ok : goal.returns-in-Ok
returns-in-Ok g c view = c.exercise_files.ensures view

pub returns-in-Err : goal.returns-in-Err
returns-in-Err g c view = memory_performs (job_of (exercise c.args.count c.args.zone c.args.format)) view _ _
