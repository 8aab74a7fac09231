-- The view, and then its layers.
use Rattle.doom_run.proofs.OverlayLemmas.{layered-fail, layered-then}
use Rattle.doom_run.proofs.layers.draw_layered.Goals as goal

pub returns-in_err-draw_layers-clause-paints : goal.returns-in_err-draw_layers-clause-paints
returns-in_err-draw_layers-clause-paints g c =
    let view = c.in_ok-draw_view_on.ensures in
    layered-fail c.args.number c.args.eye c.args.loaded.now c.draw_layers.new.loaded c.draw_view_on.new.cache c.from_residual-in_err-draw_layers.ensures.1 view.paints view.window c.in_err-draw_layers.ensures.paints

pub returns-clause-paints : goal.returns-clause-paints
returns-clause-paints g c =
    let view = c.in_ok-draw_view_on.ensures in
    layered-then c.args.number c.args.eye c.args.loaded.now c.draw_layers.new.loaded c.draw_view_on.new.cache view.paints view.in_view view.window c.in_ok-draw_layers.ensures.paints
