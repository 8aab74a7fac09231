use Rattle.std.proofs.Common.{refl}
use Rattle.wad_trim.proofs.PartLemmas.{behind-more}
use Rattle.wad_trim.proofs.parts.add_map.Goals as goal

pub loop-i-preserved : goal.loop-i-preserved
loop-i-preserved c =
    behind-more _ _ _ c.in-Some.label.0 c.loop-i.i _ refl c.loop-i.invariant c.in_ok-push-2.ensures.items
