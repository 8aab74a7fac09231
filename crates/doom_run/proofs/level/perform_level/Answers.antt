use Rattle.std.proofs.Common.{map}
use Rattle.job_rules.specs.LevelJobs.{level_job_value}
use Rattle.job_rules.specs.declared.command.LevelTask.TheVariants.{List as Lists}
use Rattle.doom_run.specs.Jobs.{delivery_of}
use Rattle.doom_run.proofs.DeliverLemmas.{memory_delivers}
use Rattle.doom_run.proofs.PerformLemmas.{loads_performs, stops_performs}
use Rattle.doom_run.proofs.level.perform_level.Goals as goal

pub returns-in-Render : goal.returns-in-Render
returns-in-Render g c =
    rw c.in-Render.is (loads_performs (level_job_value c.args.level.now) (map (λ wad. wad.now) c.args.wads.now) _ _ c.in-Ok.loaded c.in-Ok.ensures c.perform_views.ensures)

pub returns-in-Trace : goal.returns-in-Trace
returns-in-Trace g c =
    rw c.in-Trace.is (loads_performs (level_job_value c.args.level.now) (map (λ wad. wad.now) c.args.wads.now) _ _ c.in-Ok.loaded c.in-Ok.ensures c.perform_views-in-Trace.ensures)

pub returns-in-Audit : goal.returns-in-Audit
returns-in-Audit g c =
    rw c.in-Audit.is (loads_performs (level_job_value c.args.level.now) (map (λ wad. wad.now) c.args.wads.now) _ _ c.in-Ok.loaded c.in-Ok.ensures (c.perform_audit.ensures _ _ c.in-Ok.ensures.loaded))

pub returns-in-Limits : goal.returns-in-Limits
returns-in-Limits g c =
    rw c.in-Limits.is (loads_performs (level_job_value c.args.level.now) (map (λ wad. wad.now) c.args.wads.now) _ _ c.in-Ok.loaded c.in-Ok.ensures (c.perform_lines.ensures _))

pub returns-in-Ok-new : goal.returns-in-Ok-new
returns-in-Ok-new g c =
    rw c.in-List.is (loads_performs (level_job_value c.args.level.now) (map (λ wad. wad.now) c.args.wads.now) _ _ c.in-Ok.loaded c.in-Ok.ensures (c.perform_lines-in-Ok-new.ensures _))

pub returns-in-Err-new : goal.returns-in-Err-new
returns-in-Err-new g c =
    let level = level_job_value c.args.level.now in
    rw c.in-List.is (loads_performs level (map (λ wad. wad.now) c.args.wads.now) _ _ c.in-Ok.loaded c.in-Ok.ensures (memory_delivers level (delivery_of Lists level) _ c.in-Ok.loaded _ _))

pub returns-in-Trim : goal.returns-in-Trim
returns-in-Trim g c =
    rw c.in-Trim.is (loads_performs (level_job_value c.args.level.now) (map (λ wad. wad.now) c.args.wads.now) _ _ c.in-Ok.loaded c.in-Ok.ensures c.perform_trim.ensures)

pub returns-in-Err : goal.returns-in-Err
returns-in-Err g c =
    rw c.of.ensures (stops_performs (level_job_value c.args.level.now) (map (λ wad. wad.now) c.args.wads.now) (delivery_of c.args.task (level_job_value c.args.level.now)) _ _ _ _ c.in-Err.fault c.in-Err.ensures)
