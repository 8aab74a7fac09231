use Rattle.job_rules.specs.LevelJobs.{level_job_value}
use Rattle.doom_run.specs.{Jobs.done, Jobs.telling, Views.view_lines, Views.views_of}
use Rattle.doom_run.proofs.CountLemmas.{can_count}
use Rattle.doom_run.proofs.DrawingLemmas.{ready_drawable, views_delivers}
use Rattle.doom_run.proofs.DeliverLemmas.{memory_delivers}
use Rattle.doom_run.proofs.lines.perform_lines.Goals as goal

pub put_views-requires : goal.put_views-requires
put_views-requires g c = can_count _ _ _ (ready_drawable (level_job_value c.args.level.now) c.args.loaded c.in-Ok.ready c.in-Ok.ensures.loaded c.requires.loaded).0

pub returns-in-Ok : goal.returns-in-Ok
returns-in-Ok g c view =
    views_delivers (level_job_value c.args.level.now) view c.args.loaded c.in-Ok.ready (λ r. done (view_lines g.L.ViewLines.lines r)) _ _ _ _ c.put_views.result c.in-Ok.ensures.loaded c.in-Ok.ensures.limits c.requires.loaded c.put_views.ensures

pub returns-in-Err : goal.returns-in-Err
returns-in-Err g c view =
    let level = level_job_value c.args.level.now in
    memory_delivers level (telling (λ bytes loaded. done (view_lines g.L.ViewLines.lines (views_of bytes level.settings loaded)))) view c.args.loaded _ _
