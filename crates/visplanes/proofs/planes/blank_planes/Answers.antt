use Rattle.picture_rules.proofs.Common.{ap, length, length_push, List, subst, sym, ℕ, ◌+◌, ◌∙◌}
use Rattle.picture_rules.specs.Words.{AreWide, Plane}
use Rattle.visplanes.proofs.ListLemmas.{wide-push, length-empty_plane}
use Rattle.visplanes.proofs.planes.blank_planes.Goals as goal

pub loop-preserved : goal.loop-preserved
loop-preserved c =
    let pushed = c.in_ok-push.ensures.items in
    record {
      size = ap (λ (ps : List Plane). length ps) pushed ∙ length_push c.loop.planes.items c.new.result ∙ ap (λ (n : ℕ). n + 1) c.loop.invariant.size;
      wide = subst (λ (ps : List Plane). AreWide ps) (sym pushed) (wide-push c.loop.planes.items c.new.result (ap (λ (p : Plane). length p.runs) c.new.ensures ∙ length-empty_plane _) c.loop.invariant.wide);
    }
