-- A fragment that was asked for, and a limit or a Stop at it.
use Rattle.receiver_rules.proofs.ReceiverLemmas.{receives-by}
use Rattle.frame_core.specs.Painters.{painter_now}
use Rattle.frame_core.proofs.PainterLemmas.{fragment-visits}
use Rattle.frame_core.proofs.painter.ViewPainterVisitor.fragment.Goals as goal

pub returns : goal.returns
returns g c =
    let asked = c.paint_fragment.ensures in
    receives-by painter_now _ _ c.paint_fragment.result
    (fragment-visits _ _ _ c.args.seg c.args.first c.args.last c.paint_fragment.result c.requires.there asked.walked asked.over asked.asks asked.still asked.takes asked.limits)
