-- The sprites, and then the columns that are left.
use Rattle.picture_rules.proofs.Common.{Err, ap, err_from_is_err_and, refl, ◌∙◌}
use Rattle.receiver_rules.proofs.ReceiverLemmas.{receives-stop, receives-then}
use Rattle.masked_draw.specs.Rules.{draw_order}
use Rattle.masked_draw.specs.Scenes.{scene_drawsegs}
use Rattle.masked_draw.specs.Strips.{masked_strips, middles_strips}
use Rattle.masked_draw.proofs.SceneLemmas.{fragments-later}
use Rattle.masked_draw.proofs.pass.paint_masked.Goals as goal

pub returns-in_err-draw_sprites-clause-asks : goal.returns-in_err-draw_sprites-clause-asks
unfolding masked_strips
returns-in_err-draw_sprites-clause-asks g c =
    let scene = c.args.scene.now in
    let failure_is = err_from_is_err_and c.from_residual.result c.from_residual.ensures.1 in
    receives-stop c.from_residual.result (middles_strips scene.view.now (scene_drawsegs scene c.args.notes.now) (draw_order c.args.sprites.now) _) _ c.draw_sprites.ensures.asks _ c.in_err-draw_sprites.was (failure_is.1 ∙ ap Err failure_is.2) refl

pub draw_middles-requires-clause-takes : goal.draw_middles-requires-clause-takes
draw_middles-requires-clause-takes g c = fragments-later c.in_ok-draw_sprites.ensures.asks.takes_on c.requires.takes.fragments

pub returns-clause-asks : goal.returns-clause-asks
unfolding masked_strips
returns-clause-asks g c =
    receives-then _ c.draw_sprites.ensures.asks _ c.in_ok-draw_sprites.was (c.draw_middles.ensures.asks (draw_order c.args.sprites.now) c.in_ok-draw_sprites.ensures.marked) refl
