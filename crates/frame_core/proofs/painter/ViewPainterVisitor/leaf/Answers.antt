-- A leaf that was entered, and one at which a limit was passed.
use Rattle.receiver_rules.proofs.ReceiverLemmas.{receives-by}
use Rattle.picture_rules.proofs.Common.{Err, Ok, ap, err_from_is_err_and, refl, ◌∙◌}
use Rattle.frame_core.specs.Painters.{painter_now}
use Rattle.frame_core.proofs.PainterLemmas.{leaf-visits}
use Rattle.frame_core.proofs.painter.ViewPainterVisitor.leaf.Goals as goal

pub returns-in_err-enter_leaf : goal.returns-in_err-enter_leaf
returns-in_err-enter_leaf g c =
    let passed = c.in_err-enter_leaf.ensures in
    let told = err_from_is_err_and c.from_residual.result c.from_residual.ensures.1 in
    receives-by painter_now _ _ c.from_residual.result
    (leaf-visits _ _ c.args.leaf (Err c.in_err-enter_leaf.field-0.0) c.from_residual.result c.requires.there (told.1 ∙ ap Err told.2) passed.walked passed.over passed.takes passed.limits)

pub returns : goal.returns
returns g c =
    let entered = c.in_ok-enter_leaf.ensures in
    receives-by painter_now _ _ (Ok tt) (leaf-visits _ _ c.args.leaf (Ok tt) (Ok tt) c.requires.there refl entered.walked entered.over entered.takes entered.limits)
