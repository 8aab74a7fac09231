-- A leaf that was listed, and one at which a limit was passed.
use Rattle.picture_rules.specs.Words.{LeafEvent}
use Rattle.std.proofs.Common.{Err, Ok}
use Rattle.receiver_rules.proofs.ReceiverLemmas.{receives-by, receives-value}
use Rattle.frame_core.specs.{Listers.lister_now, Painters.painter_now}
use Rattle.frame_core.proofs.ListerLemmas.{lists-passed, lists-stopped}
use Rattle.frame_core.proofs.ViewListLemmas.{leaf-listed}
use Rattle.frame_core.proofs.lister.ViewListerVisitor.leaf.Goals as goal

pub returns-in_err-leaf : goal.returns-in_err-leaf
returns-in_err-leaf c = receives-by lister_now _ _ c.from_residual.result
    (lists-stopped _ _ (LeafEvent c.args.leaf) c.in_err-leaf.field-0.0 c.from_residual.result c.from_residual.ensures.1 (receives-value painter_now _ _ (Err c.in_err-leaf.field-0.0) c.in_err-leaf.ensures))

pub returns : goal.returns
returns c =
    receives-by lister_now _ _ (Ok tt) (lists-passed _ _ _ (LeafEvent c.args.leaf) (receives-value painter_now _ _ (Ok tt) c.in_ok-leaf.ensures)
    (λ bytes limits events before after listed.
    leaf-listed _ bytes _ limits events c.args.leaf _ _ _ _ _ _ _ _ c.sector_of-sector.ensures.value c.sector_of-sector.ensures.there c.has_entered-is_known.ensures c.planes-planes.ensures.value
    c.add_makers.ensures (c.list_entered.ensures bytes) before after listed))
