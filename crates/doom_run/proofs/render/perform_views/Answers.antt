use Rattle.std.proofs.Common.{subst, sym}
use Rattle.job_rules.specs.LevelJobs.{level_job_value}
use Rattle.level_audit.specs.declared.scene_load.load.LoadedScene.{LoadedScene}
use Rattle.level_audit.specs.scene_load.Calls.{IsLoadedScene}
use Rattle.doom_run.specs.{Jobs.drawing, Jobs.rendered, Performs.Delivers, Renders.IsReady}
use Rattle.doom_run.proofs.DrawingLemmas.{drawing_delivers, ready_drawable}
use Rattle.doom_run.proofs.DeliverLemmas.{memory_delivers}
use Rattle.doom_run.proofs.render.perform_views.Goals as goal

pub deliver_render-requires : goal.deliver_render-requires
deliver_render-requires g c = ready_drawable (level_job_value c.args.level.now) c.args.loaded c.in-Ok.ready c.in-Ok.ensures.loaded c.requires.loaded

pub returns-in-Ok-new : goal.returns-in-Ok-new
returns-in-Ok-new g c =
    let level = level_job_value c.args.level.now in
    let ready = c.in-Ok.ready in
    let ready_stands : IsReady level ready = record { loaded = subst (IsLoadedScene level) (sym c.in-Ok.ensures.loaded) c.requires.loaded; limits = c.in-Ok.ensures.limits } in
    let render_delivers = c.deliver_render.ensures in
    let status = c.deliver_render.result in
    subst (λ (l : LoadedScene). Delivers level (drawing level (rendered c.args.form)) (g.S.Shelf.view c.args.shelf.now) (g.S.Shelf.view c.deliver_render.new.shelf) l (g.K.Sink.written c.args.out.now) (g.K.Sink.written c.deliver_render.new.out) (g.K.Sink.faults c.args.out.now) (g.K.Sink.faults c.deliver_render.new.out) status) c.in-Ok.ensures.loaded
    (drawing_delivers level c.args.form ready c.deliver_render.new.ready _ _ _ _ _ _ status ready_stands
    (λ contents count holds. rw c.in-Ok-new.ensures at (render_delivers.ends contents count holds)) render_delivers.fits render_delivers.renders)

pub returns-in-Ok : goal.returns-in-Ok
returns-in-Ok g c = memory_delivers (level_job_value c.args.level.now) (drawing (level_job_value c.args.level.now) (rendered c.args.form)) _ c.args.loaded _ _

pub returns : goal.returns
returns g c = memory_delivers (level_job_value c.args.level.now) (drawing (level_job_value c.args.level.now) (rendered c.args.form)) _ c.args.loaded _ _
