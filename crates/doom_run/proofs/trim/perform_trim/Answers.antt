use Rattle.job_rules.specs.LevelJobs.{level_job_value}
use Rattle.doom_run.proofs.DeliverLemmas.{plan_stops, trimming_delivers}
use Rattle.doom_run.proofs.trim.perform_trim.Goals as goal

pub returns-in-Ok : goal.returns-in-Ok
returns-in-Ok g c =
    rw c.status_of_written.ensures (trimming_delivers (level_job_value c.args.level.now) c.args.loaded (g.S.Shelf.view c.args.shelf.now) c.requires c.in-Ok.plan _ _ _ _ _ _ c.write.result c.in-Ok.ensures.plan c.in-Ok.ensures.there c.write.ensures)

pub returns : goal.returns
returns g c =
    rw c.of.ensures (plan_stops (level_job_value c.args.level.now) c.args.loaded (g.S.Shelf.view c.args.shelf.now) c.requires _ _ c.in-Err.fault c.in-Err.ensures.fault)
