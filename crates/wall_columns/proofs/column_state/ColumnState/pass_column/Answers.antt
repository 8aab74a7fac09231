-- The rows that are marked are rows of a frame, and the window stays in its ranges.
use Rattle.std.proofs.Common.{ap, ◌∙◌}
use Rattle.wall_columns.specs.Rules.{ColumnClip, ceiling_rows, floor_rows}
use Rattle.wall_columns.specs.{declared.clips.ColumnPlan.ColumnPlan, Plans.plan_of}
use Rattle.wall_columns.proofs.{MarkLemmas.marked-planes, PlanLemmas.plan-in}
use Rattle.wall_columns.proofs.column_state.ColumnState.pass_column.Goals as goal

pub mark_rows-requires-clause-rows : goal.mark_rows-requires-clause-rows
mark_rows-requires-clause-rows c = (plan-in c.args.numbers.now c.clip-clip.result c.args.edges.now c.column_plan-plan.ensures c.height.ensures.value c.height.ensures.most c.clip-clip.ensures.rows c.requires.edges).0

pub mark_rows-requires-2-clause-rows : goal.mark_rows-requires-2-clause-rows
mark_rows-requires-2-clause-rows c = (plan-in c.args.numbers.now c.clip-clip.result c.args.edges.now c.column_plan-plan.ensures c.height.ensures.value c.height.ensures.most c.clip-clip.ensures.rows c.requires.edges).1.0

pub narrow-requires-clause-rows : goal.narrow-requires-clause-rows
narrow-requires-clause-rows c = (plan-in c.args.numbers.now c.clip-clip.result c.args.edges.now c.column_plan-plan.ensures c.height.ensures.value c.height.ensures.most c.clip-clip.ensures.rows c.requires.edges).1.1

pub returns-clause-planes : goal.returns-clause-planes
unfolding plan_of
returns-clause-planes c =
    let plan_is = c.column_plan-plan.ensures in
    let window = c.clip-clip.ensures.value in
    marked-planes c.args.numbers.now c.args.self.now.ceiling c.args.self.now.floor c.args.marked c.args.x _ _ _ _ _ _ _ c.requires.marked
    (ap (λ (plan : ColumnPlan). plan.ceiling) plan_is ∙ ap (λ (clip : ColumnClip). ceiling_rows clip c.args.edges.now) window)
    (ap (λ (plan : ColumnPlan). plan.floor) plan_is ∙ ap (λ (clip : ColumnClip). floor_rows clip c.args.edges.now) window)
    c.mark_rows.ensures.run c.mark_rows-2.ensures.run
