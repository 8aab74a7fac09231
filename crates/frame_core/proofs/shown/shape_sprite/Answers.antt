use Rattle.std.proofs.Common.{◌≤◌, subst, arith}
use Rattle.picture_rules.specs.Words.{FRAME_WIDTH, ViewShape}
use Rattle.frame_core.proofs.ShownLemmas.{entry-first, entry-last, shape_listed, shape_unlisted}
use Rattle.frame_core.proofs.shown.shape_sprite.Goals as goal

pub listed_sprite-requires-clause-first : goal.listed_sprite-requires-clause-first
listed_sprite-requires-clause-first c =
    let frame = c.shape-width.ensures.frame.width in let width_below_frame : c.args.view.now.shape.width ≤ FRAME_WIDTH =
    subst (λ (s : ViewShape). s.width ≤ FRAME_WIDTH) c.shape-width.ensures.value (omega (arith, frame)) in
    entry-first c.args.view.now 0 _ c.args.seen c.args.shape _ width_below_frame c.in-Some.ensures

pub listed_sprite-requires-clause-last : goal.listed_sprite-requires-clause-last
listed_sprite-requires-clause-last c =
    let frame = c.shape-width.ensures.frame.width in let width_below_frame : c.args.view.now.shape.width ≤ FRAME_WIDTH =
    subst (λ (s : ViewShape). s.width ≤ FRAME_WIDTH) c.shape-width.ensures.value (omega (arith, frame)) in
    entry-last c.args.view.now 0 _ c.args.seen c.args.shape _ width_below_frame c.in-Some.ensures

pub returns-in-Some : goal.returns-in-Some
returns-in-Some c = shape_listed c.args.view.now c.args.thing.now _ c.args.seen c.args.shape _ _ c.in-Some.ensures c.listed_sprite.ensures

pub returns-in-None : goal.returns-in-None
returns-in-None c = shape_unlisted c.args.view.now c.args.thing.now _ c.args.seen c.args.shape c.in-None.ensures
