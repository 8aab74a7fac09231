-- The planes, and then the masked pass.
use Rattle.picture_rules.proofs.Common.{Err, ap, err_from_is_err_and, refl, ◌∙◌}
use Rattle.receiver_rules.proofs.ReceiverLemmas.{receives-stop, receives-then}
use Rattle.masked_draw.specs.Strips.{masked_strips}
use Rattle.masked_draw.proofs.SceneLemmas.{masked-later}
use Rattle.picture_rules.specs.Words.{draw_order}
use Rattle.frame_core.specs.ViewStrips.{scene_entries, scene_noted}
use Rattle.frame_core.proofs.parts.paint_rest.Goals as goal

pub paint_floors-requires-clause-takes : goal.paint_floors-requires-clause-takes
paint_floors-requires-clause-takes g c = c.requires.takes.planes c.args.bench.now c.requires.walked

pub paint_masks-requires-clause-takes : goal.paint_masks-requires-clause-takes
paint_masks-requires-clause-takes g c = masked-later c.in_ok-paint_floors.ensures.takes_on (c.requires.takes.masked c.args.bench.now c.requires.walked)

pub returns-in_err-paint_floors-clause-asks : goal.returns-in_err-paint_floors-clause-asks
returns-in_err-paint_floors-clause-asks g c =
    let view_now = c.args.view.now in
    let scene_now = c.args.scene.now.scene in
    let failure_is = err_from_is_err_and c.from_residual.result c.from_residual.ensures.1 in
    receives-stop c.from_residual.result (masked_strips view_now (scene_noted view_now scene_now) (draw_order (scene_entries view_now scene_now))) _ c.paint_floors.ensures _ c.in_err-paint_floors.was (failure_is.1 ∙ ap Err failure_is.2) refl

pub returns-clause-asks : goal.returns-clause-asks
returns-clause-asks g c = receives-then _ c.paint_floors.ensures _ c.in_ok-paint_floors.was c.paint_masks.ensures.asks refl
