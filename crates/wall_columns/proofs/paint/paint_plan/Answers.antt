-- No strip has rows, or the first is asked for, and the lower wall below an upper one.
use Rattle.std.proofs.Common.{◌∙◌, ◌∷◌, [], Err, List, ap, cond, refl, subst, sym}
use Rattle.picture_rules.proofs.Common.{err_from_is_err_and}
use Rattle.wall_columns.specs.Rules.{WallStrip, joined_lists}
use Rattle.receiver_rules.specs.Receivers.{TakesEach}
use Rattle.receiver_rules.proofs.ReceiverLemmas.{receives-after, receives-none, receives-same, receives-stop, takes_each-first, takes_each-later, takes_each-rest}
use Rattle.brush.specs.Strips.{Strip}
use Rattle.wall_columns.specs.declared.paint.ColumnLook.{ColumnLook}
use Rattle.wall_columns.specs.Plans.{IsInRows, bottom_strip, has_second}
use Rattle.wall_columns.specs.Strips.{part_strips, plan_strips, strip_with}
use Rattle.wall_columns.proofs.{FirstLemmas.first-in, StripLemmas.plan-nothing, StripLemmas.plan-one, StripLemmas.plan-rows, StripLemmas.plan-split, StripLemmas.plan-two}
use Rattle.wall_columns.proofs.paint.paint_plan.Goals as goal

pub returns-then-not-paints : goal.returns-then-not-paints
returns-then-not-paints g c = receives-same _ (plan-nothing c.args.view.now.shape _ c.args.numbers.now c.args.plan.now (c.paints.ensures c.if-not-paints.true)) (receives-none _)

pub paint_part-requires-clause-rows : goal.paint_part-requires-clause-rows
paint_part-requires-clause-rows g c =
    subst (IsInRows c.args.view.now.shape.height) (sym c.first_strip.ensures)
    (first-in (IsInRows c.args.view.now.shape.height) c.args.numbers.now c.args.plan.now
    (plan-rows c.args.view.now.shape.height c.args.numbers.now c.args.plan.now c.requires.within))

pub paint_part-requires-clause-takes : goal.paint_part-requires-clause-takes
paint_part-requires-clause-takes g c =
    let shape = c.args.view.now.shape in
    let numbers = c.args.numbers.now in
    let plan = c.args.plan.now in
    let look : ColumnLook = c.new-look.result in
    let part : WallStrip = strip_with c.first_strip.result.0 c.first_strip.result.1 in
    let split = plan-split shape look numbers plan part (has_second numbers plan) c.first_strip.ensures c.requires.rows refl
    ∙ ap (λ (l : ColumnLook). plan_strips shape l numbers plan) c.new-look.ensures in
    takes_each-first (part_strips shape look part) (joined_lists (part_strips shape look) (cond (has_second numbers plan) (bottom_strip numbers plan ∷ []) []))
    (subst (λ (strips : List Strip). TakesEach g.B.Brush.takes c.args.brush.now strips) (sym split) c.requires.takes)

pub returns-in_err-paint_part : goal.returns-in_err-paint_part
returns-in_err-paint_part g c =
    let shape = c.args.view.now.shape in
    let numbers = c.args.numbers.now in
    let plan = c.args.plan.now in
    let look : ColumnLook = c.new-look.result in
    let part : WallStrip = strip_with c.first_strip.result.0 c.first_strip.result.1 in
    let failure_is = err_from_is_err_and c.from_residual.result c.from_residual.ensures.1 in
    receives-stop c.from_residual.result (joined_lists (part_strips shape look) (cond (has_second numbers plan) (bottom_strip numbers plan ∷ []) [])) _
    c.paint_part.ensures _ c.in_err-paint_part.was (failure_is.1 ∙ ap Err failure_is.2)
    (plan-split shape look numbers plan part (has_second numbers plan) c.first_strip.ensures c.requires.rows refl
    ∙ ap (λ (l : ColumnLook). plan_strips shape l numbers plan) c.new-look.ensures)

pub returns-then-not-has_second : goal.returns-then-not-has_second
returns-then-not-has_second g c =
    let shape = c.args.view.now.shape in
    let numbers = c.args.numbers.now in
    let plan = c.args.plan.now in
    receives-same _
    (plan-one shape c.new-look.result numbers plan (strip_with c.first_strip.result.0 c.first_strip.result.1) c.first_strip.ensures c.requires.rows (sym c.has_second.ensures ∙ c.if-not-has_second.true)
    ∙ ap (λ (l : ColumnLook). plan_strips shape l numbers plan) c.new-look.ensures) c.in_ok-paint_part.ensures

pub paint_second-requires-clause-rows : goal.paint_second-requires-clause-rows
paint_second-requires-clause-rows g c = (plan-rows c.args.view.now.shape.height c.args.numbers.now c.args.plan.now c.requires.within).1.1.0

pub paint_second-requires-clause-takes : goal.paint_second-requires-clause-takes
paint_second-requires-clause-takes g c =
    let shape = c.args.view.now.shape in
    let numbers = c.args.numbers.now in
    let plan = c.args.plan.now in
    let look : ColumnLook = c.new-look.result in
    let part : WallStrip = strip_with c.first_strip.result.0 c.first_strip.result.1 in
    let split = plan-two shape look numbers plan part c.first_strip.ensures c.requires.rows (sym c.has_second.ensures ∙ c.if-not-has_second.false)
    ∙ ap (λ (l : ColumnLook). plan_strips shape l numbers plan) c.new-look.ensures in
    takes_each-later c.in_ok-paint_part.ensures.takes_on (takes_each-rest (part_strips shape look part) (part_strips shape look (bottom_strip numbers plan))
    (subst (λ (strips : List Strip). TakesEach g.B.Brush.takes c.args.brush.now strips) (sym split) c.requires.takes))

pub returns : goal.returns
returns g c =
    let shape = c.args.view.now.shape in
    let numbers = c.args.numbers.now in
    let plan = c.args.plan.now in
    let look : ColumnLook = c.new-look.result in
    let part : WallStrip = strip_with c.first_strip.result.0 c.first_strip.result.1 in
    receives-after _ c.in_ok-paint_part.ensures c.paint_second.ensures
    (plan-two shape look numbers plan part c.first_strip.ensures c.requires.rows (sym c.has_second.ensures ∙ c.if-not-has_second.false)
    ∙ ap (λ (l : ColumnLook). plan_strips shape l numbers plan) c.new-look.ensures)
