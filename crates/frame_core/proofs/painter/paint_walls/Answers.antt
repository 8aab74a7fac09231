-- The whole walk, of a painter that no event was given, and what came back of what it was lent.
use Rattle.std.proofs.Common.{ap, refl, rules, sym}
use Rattle.frame_core.specs.Painters.{PainterNames, painter_now}
use Rattle.receiver_rules.proofs.ReceiverLemmas.{receives-value}
use Rattle.frame_core.proofs.PainterLemmas.{bench-walked, painter-viewed, stop-over}
use Rattle.frame_core.proofs.painter.paint_walls.Goals as goal

pub returns : goal.returns
returns g c =
    let asked = painter-viewed _ _ _ c.walk_view.result refl c.requires.walked (receives-value painter_now _ _ c.walk_view.result c.walk_view.ensures) in
    let bench_same = sym (ap (λ (n : PainterNames). n.bench) asked.names) in
    let brush_same = sym (ap (λ (n : PainterNames). n.brush) asked.names) in
    let limits = asked.limits in
    record {
      walked = bench-walked _ _ _ _ c.walk_view.new.visitor.bench.now c.walk_view.result (search rules) asked.limits asked.walked;
      over = stop-over _ _ _ c.walk_view.result asked.over;
      limits = search rules;
      asks = search rules;
    }
