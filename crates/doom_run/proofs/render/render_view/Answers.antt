-- A view that is drawn is written, or a fault ends it.
use Rattle.std.proofs.Common.{sym, ◌∙◌}
use Rattle.doom_run.specs.Frames.{form_of}
use Rattle.doom_run.proofs.FrameLemmas.{view_fails, view_written}
use Rattle.doom_run.proofs.RendersLemmas.{fault_not_done, renders_failed, renders_fault, renders_put}
use Rattle.doom_run.proofs.render.render_view.Goals as goal

pub returns-in-Err-clause-ends : goal.returns-in-Err-clause-ends
returns-in-Err-clause-ends g c contents count holds =
    view_fails c.draw_at.ensures.draws holds (form_of c.args.canvas.now) _ c.in-Err.fault c.status_of_view.result c.in-Err.is c.status_of_view.ensures

pub returns-in-Ok-put-clause-ends : goal.returns-in-Ok-put-clause-ends
returns-in-Ok-put-clause-ends g c contents count holds =
    let view_writes = view_written c.draw_at.ensures.draws holds (form_of c.args.canvas.now) _ c.put.result c.in-Ok.field-0 c.in-Ok.is c.draw_at.ensures.form c.palette.ensures.value c.put.ensures in
    (view_writes.0, rw c.in-Ok-put.is at view_writes.1.ok)

pub returns-in-Err-put-clause-ends : goal.returns-in-Err-put-clause-ends
returns-in-Err-put-clause-ends g c contents count holds =
    let view_writes = view_written c.draw_at.ensures.draws holds (form_of c.args.canvas.now) _ c.put.result c.in-Ok.field-0 c.in-Ok.is c.draw_at.ensures.form c.palette.ensures.value c.put.ensures in
    (view_writes.0, rw c.in-Err-put.is at view_writes.1.err)

pub returns-in-Err-clause-fits : goal.returns-in-Err-clause-fits
returns-in-Err-clause-fits g c contents count holds is = absurd (fault_not_done c.args.number c.in-Err.fault (sym c.status_of_view.ensures ∙ is))

pub returns-in-Ok-put-clause-fits : goal.returns-in-Ok-put-clause-fits
returns-in-Ok-put-clause-fits g c contents count holds is = rw c.in-Ok.is at (c.draw_at.ensures.draws.fits contents count holds)

pub returns-in-Err-clause-renders : goal.returns-in-Err-clause-renders
returns-in-Err-clause-renders g c = renders_fault c.draw_at.ensures.draws c.in-Err.fault c.status_of_view.result _ c.in-Err.is c.status_of_view.ensures

pub returns-in-Ok-put-clause-renders : goal.returns-in-Ok-put-clause-renders
returns-in-Ok-put-clause-renders g c = renders_put c.draw_at.ensures.draws c.in-Ok.field-0 c.in-Ok.is c.put.ensures.later (rw c.in-Ok-put.is at c.put.ensures.settled)

pub returns-in-Err-put-clause-renders : goal.returns-in-Err-put-clause-renders
returns-in-Err-put-clause-renders g c = renders_failed c.draw_at.ensures.draws c.in-Ok.field-0 c.in-Ok.is c.put.ensures.later (rw c.in-Err-put.is at c.put.ensures.failed)
