-- A fragment that was listed, and one at which a limit was passed.
use Rattle.picture_rules.specs.Words.{FragmentEvent}
use Rattle.std.proofs.Common.{Err, Ok}
use Rattle.receiver_rules.proofs.ReceiverLemmas.{receives-by, receives-value}
use Rattle.frame_core.specs.{Listers.lister_now, Painters.painter_now}
use Rattle.frame_core.proofs.ListerLemmas.{lists-passed, lists-stopped}
use Rattle.frame_core.proofs.ViewListLemmas.{fragment-listed}
use Rattle.frame_core.proofs.lister.ViewListerVisitor.fragment.Goals as goal

pub returns-in_err-fragment : goal.returns-in_err-fragment
returns-in_err-fragment c =
    receives-by lister_now _ _ c.from_residual.result
    (lists-stopped _ _ (FragmentEvent c.args.seg c.args.first c.args.last) c.in_err-fragment.field-0.0 c.from_residual.result c.from_residual.ensures.1 (receives-value painter_now _ _ (Err c.in_err-fragment.field-0.0) c.in_err-fragment.ensures))

pub returns : goal.returns
returns c =
    receives-by lister_now _ _ (Ok tt) (lists-passed _ _ _ (FragmentEvent c.args.seg c.args.first c.args.last) (receives-value painter_now _ _ (Ok tt) c.in_ok-fragment.ensures)
    (λ bytes limits events before after listed.
    fragment-listed _ bytes _ limits events c.args.seg c.args.first c.args.last _ _ _ _ c.planes-planes.ensures.value c.add_fragment.ensures after listed))
