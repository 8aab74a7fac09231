-- What the masked pass asks is there, and its strips are the view's.
use Rattle.std.proofs.Common.{◌≤◌, List, arith, refl, subst, sym}
use Rattle.frame_core.specs.Rules.{Drawseg, FRAME_HEIGHT, FRAME_WIDTH, SpriteEntry, ViewShape}
use Rattle.brush.specs.Strips.{Strip}
use Rattle.masked_draw.specs.Takes.{TakesMasked}
use Rattle.receiver_rules.specs.Receivers.{Receives}
use Rattle.frame_core.proofs.MaskLemmas.{entries-same, masks-noted, masks-same, parts-in, parts-noted, parts-same, sprites-within, walls-built}
use Rattle.frame_core.specs.ViewStrips.{scene_noted}
use Rattle.frame_core.proofs.masks.paint_masks.Goals as goal

pub paint_masked-requires-clause-ready : goal.paint_masked-requires-clause-ready
paint_masked-requires-clause-ready g c =
    let view_now = c.args.view.now in
    let scene_now = c.args.scene.now.scene in
    let bench_now = c.args.bench.now in
    let same = parts-same scene_now bench_now c.level-level.ensures c.textures.ensures refl c.segs.ensures.value c.sides.ensures.value c.sectors.ensures.value c.middles.ensures
    c.openings-openings.ensures.value c.notes.ensures.value in
    let frame = c.shape-shape.ensures.frame in
    let shape = c.shape-shape.ensures.value in
    let width : view_now.shape.width ≤ FRAME_WIDTH = subst (λ (h : ViewShape). h.width ≤ FRAME_WIDTH) shape (let columns = frame.width in omega arith) in
    let height : view_now.shape.height ≤ FRAME_HEIGHT = subst (λ (h : ViewShape). h.height ≤ FRAME_HEIGHT) shape (let rows = frame.height in omega arith) in
    record {
      width = width;
      noted = parts-noted view_now scene_now bench_now same (c.notes.ensures.noted view_now _ _ width height (walls-built view_now scene_now bench_now c.requires.walked));
      listed = parts-in view_now scene_now bench_now same c.requires.walked c.requires.listed;
      room = omega arith;
    }

pub paint_masked-requires-clause-columns : goal.paint_masked-requires-clause-columns
paint_masked-requires-clause-columns g c = sprites-within c.args.view.now c.args.scene.now.scene c.args.bench.now c.requires.walked

pub paint_masked-requires-clause-takes : goal.paint_masked-requires-clause-takes
paint_masked-requires-clause-takes g c =
    let view_now = c.args.view.now in
    let scene_now = c.args.scene.now.scene in
    let bench_now = c.args.bench.now in
    let same = parts-same scene_now bench_now c.level-level.ensures c.textures.ensures refl c.segs.ensures.value c.sides.ensures.value c.sectors.ensures.value c.middles.ensures
    c.openings-openings.ensures.value c.notes.ensures.value in
    subst (λ (ds : List Drawseg). TakesMasked g.B.Brush.takes c.args.brush.now view_now ds bench_now.sprites) (sym (masks-noted view_now scene_now bench_now same c.requires.walked))
    (subst (λ (es : List SpriteEntry). TakesMasked g.B.Brush.takes c.args.brush.now view_now (scene_noted view_now scene_now) es) (sym (entries-same view_now scene_now bench_now c.requires.walked)) c.requires.takes)

pub returns-clause-asks : goal.returns-clause-asks
returns-clause-asks g c =
    let view_now = c.args.view.now in
    let scene_now = c.args.scene.now.scene in
    let bench_now = c.args.bench.now in
    let same = parts-same scene_now bench_now c.level-level.ensures c.textures.ensures refl c.segs.ensures.value c.sides.ensures.value c.sectors.ensures.value c.middles.ensures
    c.openings-openings.ensures.value c.notes.ensures.value in
    subst (λ (strips : List Strip). Receives g.B.Brush.takes g.B.Brush.stands g.B.Brush.stopped c.args.brush.now c.paint_masked.new.brush strips c.paint_masked.result)
    (masks-same view_now scene_now bench_now same c.requires.walked) c.paint_masked.ensures.asks
