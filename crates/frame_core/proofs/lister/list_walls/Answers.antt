-- The whole walk, of a lister that no event was given, and what came back of its bench and its list.
use Rattle.std.proofs.Common.{ap, refl, rules, sym}
use Rattle.receiver_rules.proofs.ReceiverLemmas.{receives-value}
use Rattle.frame_core.specs.{Listers.lister_now, Painters.PainterNames}
use Rattle.frame_core.proofs.ListerLemmas.{lister-walked, listed-back}
use Rattle.frame_core.proofs.PainterLemmas.{bench-walked, ok-part, some-told, stop-over}
use Rattle.frame_core.proofs.lister.list_walls.Goals as goal

pub returns-in-Ok : goal.returns-in-Ok
returns-in-Ok c =
    let told = lister-walked _ _ _ c.walk_view.result refl c.requires.walked c.requires.empty (receives-value lister_now _ _ c.walk_view.result c.walk_view.ensures) in
    let bench_same = sym (ap (λ (n : PainterNames). n.bench) told.asked.names) in
    let list_same = sym told.name in
    let limits = told.asked.limits in
    record {
      counted = record { walked = ok-part c.walk_view.result _ c.in-Ok.is (bench-walked _ _ _ _ c.walk_view.new.visitor.painter.bench.now c.walk_view.result (search rules) limits told.asked.walked); over = λ bytes. tt; limits = search rules };
      listed = ok-part c.walk_view.result _ c.in-Ok.is (listed-back _ _ _ c.walk_view.new.visitor.list.now c.walk_view.result (search rules) told.listed);
    }

pub returns-in-Err : goal.returns-in-Err
returns-in-Err c =
    let told = lister-walked _ _ _ c.walk_view.result refl c.requires.walked c.requires.empty (receives-value lister_now _ _ c.walk_view.result c.walk_view.ensures) in
    let bench_same = sym (ap (λ (n : PainterNames). n.bench) told.asked.names) in
    let limits = told.asked.limits in
    record {
      counted = record { walked = tt; over = λ bytes. some-told _ _ c.over_limit.ensures (rw c.in-Err.is at (stop-over _ _ _ c.walk_view.result told.asked.over bytes)); limits = search rules };
      listed = tt;
    }
