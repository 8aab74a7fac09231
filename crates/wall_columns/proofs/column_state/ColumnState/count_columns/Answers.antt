-- A column more is marked.
use Rattle.std.proofs.Common.{◌-◌, refl, ◌∙◌}
use Rattle.wall_edges.specs.{Fragments.FragmentValue, declared.stepper.Stepper.Stepper}
use Rattle.wall_columns.proofs.MarkLemmas.{HasPassed, passed_columns, passed-none, passed-more, passed-all, passes-column}
use Rattle.wall_columns.proofs.column_state.ColumnState.count_columns.Goals as goal

pub loop-edges-init : goal.loop-edges-init
loop-edges-init c =
    let columns_passed = passed-none c.args.fragment.now c.new-stepper.result c.args.self.now c.args.planes.now c.new-stepper.ensures in
    record { at = columns_passed.at; marked = columns_passed.marked; openings = refl }

pub loop-edges-preserved : goal.loop-edges-preserved
loop-edges-preserved c =
    let invariant = c.loop-edges.invariant in let fragment : FragmentValue = c.args.fragment.now in
    let stepper_before : Stepper = c.loop-edges.stepper in
    let stepper_after : Stepper = c.next.new.self in
    let now = c.loop-edges.self in
    let next = c.pass_column.new.self in
    let plan = c.pass_column.result in
    let marks = c.pass_column.ensures in
    let so_far : HasPassed fragment stepper_before c.args.self.now now c.args.planes.now c.loop-edges.planes =
    record { at = invariant.at; marked = invariant.marked } in let columns_passed =
    passed-more fragment c.args.numbers.now stepper_before stepper_after c.in-Some.edges c.args.self.now now next c.args.planes.now c.loop-edges.planes
    c.pass_column.new.planes plan.after so_far c.requires.numbers (c.in-Some.ensures.column fragment (passed_columns fragment stepper_before) invariant.at)
    (passes-column c.args.numbers.now (stepper_after.x - 1) c.in-Some.edges now next c.loop-edges.planes c.pass_column.new.planes plan
    marks.plan marks.windows marks.own marks.other marks.planes marks.count marks.same_floor marks.same_ceiling) in
    record { at = columns_passed.at; marked = columns_passed.marked; openings = marks.openings ∙ invariant.openings }

pub returns-clause-marked : goal.returns-clause-marked
returns-clause-marked c =
    let fragment : FragmentValue = c.args.fragment.now in
    let invariant = c.loop-edges.invariant in
    passed-all c.loop-edges.stepper (c.in_default.ensures.end fragment (passed_columns fragment c.loop-edges.stepper) invariant.at) invariant.marked
