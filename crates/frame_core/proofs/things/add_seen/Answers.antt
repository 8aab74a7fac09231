use Rattle.std.proofs.Common.{List, ap, ◌∙◌}
use Rattle.frame_core.specs.Rules.{Frame, picked}
use Rattle.frame_core.proofs.ThingLemmas.{drawn_below, seen_with, seen_without}
use Rattle.frame_core.proofs.things.add_seen.Goals as goal

pub returns-in-Some-clause-sprites : goal.returns-in-Some-clause-sprites
returns-in-Some-clause-sprites c = λ bytes.
    let shape_is_picked = c.in-Some.ensures ∙ ap (λ (book : List Frame). picked book c.args.thing.now.sprite c.args.thing.now.frame c.args.seen.rotation) c.sprites.ensures in
    seen_with bytes _ c.args.scene.now.scene _ _ c.args.thing.now _ c.args.seen c.in-Some.shape c.drawn_shape.result shape_is_picked c.drawn_shape.ensures c.add.ensures.value

pub returns-in-None-clause-sprites : goal.returns-in-None-clause-sprites
returns-in-None-clause-sprites c = λ bytes.
    let no_shape_picked = c.in-None.ensures ∙ ap (λ (book : List Frame). picked book c.args.thing.now.sprite c.args.thing.now.frame c.args.seen.rotation) c.sprites.ensures in
    seen_without bytes _ c.args.scene.now.scene _ c.args.thing.now _ c.args.seen no_shape_picked

pub returns-in-Some-clause-lumps : goal.returns-in-Some-clause-lumps
returns-in-Some-clause-lumps c = λ n below passes.
    let shape_is_picked = c.in-Some.ensures ∙ ap (λ (book : List Frame). picked book c.args.thing.now.sprite c.args.thing.now.frame c.args.seen.rotation) c.sprites.ensures in
    c.add.ensures.lumps n (drawn_below n _ _ _ _ c.in-Some.shape c.drawn_shape.result shape_is_picked c.drawn_shape.ensures below) passes
