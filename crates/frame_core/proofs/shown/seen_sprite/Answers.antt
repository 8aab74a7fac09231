use Rattle.std.proofs.Common.{List, ap, ◌∙◌}
use Rattle.frame_core.specs.Rules.{Frame, picked}
use Rattle.frame_core.proofs.ShownLemmas.{seen_listed, seen_unlisted}
use Rattle.frame_core.proofs.shown.seen_sprite.Goals as goal

pub returns-in-Some : goal.returns-in-Some
returns-in-Some c = λ bytes.
    let shape_is_picked = c.in-Some.ensures ∙ ap (λ (book : List Frame). picked book c.args.thing.now.sprite c.args.thing.now.frame c.args.seen.rotation) c.sprites.ensures in
    seen_listed bytes _ c.args.scene.now.scene c.args.thing.now _ c.args.seen c.in-Some.shape c.drawn_shape.result _ shape_is_picked c.drawn_shape.ensures c.shape_sprite.ensures

pub returns-in-None : goal.returns-in-None
returns-in-None c = λ bytes.
    let no_shape_picked = c.in-None.ensures ∙ ap (λ (book : List Frame). picked book c.args.thing.now.sprite c.args.thing.now.frame c.args.seen.rotation) c.sprites.ensures in
    seen_unlisted bytes _ c.args.scene.now.scene c.args.thing.now _ c.args.seen no_shape_picked
