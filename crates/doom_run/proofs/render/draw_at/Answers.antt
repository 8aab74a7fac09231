-- A canvas that is cleared and given a view has it.
use Rattle.std.proofs.Common.{ap}
use Rattle.pixel_strips.specs.Canvases.{CanvasView}
use Rattle.doom_run.proofs.CanvasLemmas.{draws_at, index_drawn, ppm_drawn, trace_drawn}
use Rattle.doom_run.proofs.render.draw_at.Goals as goal

pub returns-in-Index-clause-draws : goal.returns-in-Index-clause-draws
returns-in-Index-clause-draws g c =
    let draws_layered = c.draw_layered.ensures in
    draws_at c.args.number _ c.args.ready.now _ _ c.eye_at-eye.ensures draws_layered.within draws_layered.over draws_layered.paints draws_layered.limits (λ r has. index_drawn (ap (λ (v : CanvasView). v.cells) c.clear.ensures) has)

pub returns-in-Ppm-clause-draws : goal.returns-in-Ppm-clause-draws
returns-in-Ppm-clause-draws g c =
    let draws_layered = c.draw_layered-in-Ppm.ensures in
    draws_at c.args.number _ c.args.ready.now _ _ c.eye_at-eye.ensures draws_layered.within draws_layered.over draws_layered.paints draws_layered.limits (λ r has. ppm_drawn (ap (λ (v : CanvasView). v.cells) c.clear-in-Ppm.ensures) has)

pub returns-in-Trace-clause-draws : goal.returns-in-Trace-clause-draws
returns-in-Trace-clause-draws g c =
    let draws_layered = c.draw_layered-in-Trace.ensures in
    draws_at c.args.number _ c.args.ready.now _ _ c.eye_at-eye.ensures draws_layered.within draws_layered.over draws_layered.paints draws_layered.limits (λ r has. trace_drawn (ap (λ (v : CanvasView). v.cells) c.clear-in-Trace.ensures) has)
