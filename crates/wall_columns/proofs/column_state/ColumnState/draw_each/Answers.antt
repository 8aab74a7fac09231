-- A column more is marked, and its strips are asked for.
use Rattle.std.proofs.Common.{◌≡◌, ◌<◌, ◌+◌, ◌-◌, ◌++◌, ℕ, Err, List, ap, refl, subst, sym, ◌∙◌, arith}
use Rattle.picture_rules.proofs.Common.{Contains, err_from_is_err_and}
use Rattle.receiver_rules.proofs.FirstLemmas.{first-in, first-left, first-more, first-none, first_lists}
use Rattle.receiver_rules.proofs.ReceiverLemmas.{receives-after, receives-none, receives-same, receives-stopped}
use Rattle.wall_columns.specs.Rules.{ColumnClip, Edges, FRAME_WIDTH}
use Rattle.wall_edges.specs.Fragments.{FragmentValue}
use Rattle.brush.specs.Strips.{Strip}
use Rattle.wall_columns.specs.declared.column_state.ColumnState.{ColumnState}
use Rattle.wall_columns.specs.{Columns.columns_of, Plans.AreEdgeWords, Windows.window_at}
use Rattle.wall_columns.specs.Strips.{column_strips}
use Rattle.wall_columns.proofs.{ClipLemmas.edges_at-words, FirstLemmas.rows-of}
use Rattle.wall_columns.proofs.MarkLemmas.{HasPassed, edges_are, height_of, passed-all, passed-more, passed-none, passed_columns, passes-column, window_is}
use Rattle.wall_columns.proofs.StripLemmas.{column-by, strips-all, strips-in, strips_along}
use Rattle.wall_columns.proofs.column_state.ColumnState.draw_each.Goals as goal

pub loop-edges-init : goal.loop-edges-init
loop-edges-init g c =
    let fragment : FragmentValue = c.args.fragment.now in
    let columns : ℕ → List Strip = strips_along c.args.view.now c.args.number fragment (window_at c.args.self.now.windows) in
    let columns_passed = passed-none fragment c.new-stepper.result c.args.self.now c.args.planes.now c.new-stepper.ensures in
    let first_is = c.new-stepper.ensures.x in
    let none_passed : 0 ≡ passed_columns fragment c.new-stepper.result = omega arith in
    record {
      at = columns_passed.at;
      marked = columns_passed.marked;
      openings = refl;
      asks = receives-same _ (sym (first-none columns) ∙ ap (first_lists columns) none_passed) (receives-none _);
    }

pub paint_plan-requires-clause-rows : goal.paint_plan-requires-clause-rows
paint_plan-requires-clause-rows g c =
    rows-of c.loop-edges.self.windows.height c.args.numbers.now (window_at c.loop-edges.self.windows (c.next.new.self.x - 1)) c.in-Some.edges
    c.pass_column-plan.result c.pass_column-plan.ensures.plan

pub paint_plan-requires-clause-within : goal.paint_plan-requires-clause-within
paint_plan-requires-clause-within g c =
    let invariant = c.loop-edges.invariant in
    let fragment : FragmentValue = c.args.fragment.now in
    let step = c.in-Some.ensures.column fragment (passed_columns fragment c.loop-edges.stepper) invariant.at in
    strips-in c.args.view.now.shape.height c.loop-edges.self.windows.height c.args.numbers.now (window_at c.loop-edges.self.windows (c.next.new.self.x - 1)) c.in-Some.edges c.pass_column-plan.result
    c.pass_column-plan.ensures.plan (invariant.marked.height ∙ c.requires.height) c.pass_column-plan.ensures.most c.pass_column-plan.ensures.rows
    (subst (λ (e : Edges). AreEdgeWords e) (sym step.0) (edges_at-words fragment.shape fragment.numbers (passed_columns fragment c.loop-edges.stepper)))

pub paint_plan-requires-clause-takes : goal.paint_plan-requires-clause-takes
paint_plan-requires-clause-takes g c =
    let invariant = c.loop-edges.invariant in
    let view = c.args.view.now in
    let fragment : FragmentValue = c.args.fragment.now in
    let count : ℕ = passed_columns fragment c.loop-edges.stepper in
    let column_no : ℕ = c.next.new.self.x - 1 in
    let state : ColumnState = c.loop-edges.self in
    let window : ℕ → ColumnClip = window_at c.args.self.now.windows in
    let columns : ℕ → List Strip = strips_along view c.args.number fragment window in
    let step = c.in-Some.ensures.column fragment count invariant.at in
    let next_column_is = step.1.x in
    let columns_left = step.1.left in
    let last_in_frame = step.1.within in
    let column_is : column_no ≡ fragment.first + count = omega arith in
    let column_in_frame : column_no < FRAME_WIDTH = omega arith in
    let strips_here = column-by view c.args.number fragment window column_no state.windows.height c.args.numbers.now (window_at state.windows column_no) c.in-Some.edges
    c.pass_column-plan.result c.pass_column-plan.ensures.plan c.requires.numbers
    (window_is fragment count column_no c.args.self.now state c.args.planes.now c.loop-edges.planes invariant.marked column_is column_in_frame)
    (step.0 ∙ edges_are fragment count column_no column_is) ∙ ap (column_strips view c.args.number fragment window) column_is in
    record {
      each = λ strip h. invariant.asks.takes_on.each strip (c.requires.takes.each strip
          (subst (λ (strips : List Strip). Contains strips strip) (strips-all view c.args.number fragment window)
          (first-in columns count (columns_of fragment) strip (omega arith) (subst (λ (strips : List Strip). Contains strips strip) strips_here h))));
    }

pub returns-in_err-paint_plan-clause-asks : goal.returns-in_err-paint_plan-clause-asks
returns-in_err-paint_plan-clause-asks g c =
    let invariant = c.loop-edges.invariant in
    let view = c.args.view.now in
    let fragment : FragmentValue = c.args.fragment.now in
    let count : ℕ = passed_columns fragment c.loop-edges.stepper in
    let column_no : ℕ = c.next.new.self.x - 1 in
    let state : ColumnState = c.loop-edges.self in
    let window : ℕ → ColumnClip = window_at c.args.self.now.windows in
    let columns : ℕ → List Strip = strips_along view c.args.number fragment window in
    let step = c.in-Some.ensures.column fragment count invariant.at in
    let next_column_is = step.1.x in
    let columns_left = step.1.left in
    let last_in_frame = step.1.within in
    let column_is : column_no ≡ fragment.first + count = omega arith in
    let column_in_frame : column_no < FRAME_WIDTH = omega arith in
    let strips_here = column-by view c.args.number fragment window column_no state.windows.height c.args.numbers.now (window_at state.windows column_no) c.in-Some.edges
    c.pass_column-plan.result c.pass_column-plan.ensures.plan c.requires.numbers
    (window_is fragment count column_no c.args.self.now state c.args.planes.now c.loop-edges.planes invariant.marked column_is column_in_frame)
    (step.0 ∙ edges_are fragment count column_no column_is) ∙ ap (column_strips view c.args.number fragment window) column_is in
    let failure_is = err_from_is_err_and c.from_residual.result c.from_residual.ensures.1 in
    let left = first-left columns count (columns_of fragment) (omega arith) in
    receives-stopped c.from_residual.result left.0 _ invariant.asks tt refl c.paint_plan.ensures _ c.in_err-paint_plan.was (failure_is.1 ∙ ap Err failure_is.2)
    (ap (λ (strips : List Strip). first_lists columns count ++ (strips ++ left.0)) strips_here ∙ left.1 ∙ strips-all view c.args.number fragment window)

pub returns-in_err-paint_plan-clause-height : goal.returns-in_err-paint_plan-clause-height
returns-in_err-paint_plan-clause-height g c =
    height_of c.loop-edges.self.windows c.pass_column-plan.new.self.windows (c.next.new.self.x - 1) c.pass_column-plan.result.after
    c.pass_column-plan.ensures.windows ∙ c.loop-edges.invariant.marked.height

pub loop-edges-preserved : goal.loop-edges-preserved
loop-edges-preserved g c =
    let invariant = c.loop-edges.invariant in
    let view = c.args.view.now in
    let fragment : FragmentValue = c.args.fragment.now in
    let count : ℕ = passed_columns fragment c.loop-edges.stepper in
    let column_no : ℕ = c.next.new.self.x - 1 in
    let state : ColumnState = c.loop-edges.self in
    let window : ℕ → ColumnClip = window_at c.args.self.now.windows in
    let columns : ℕ → List Strip = strips_along view c.args.number fragment window in
    let step = c.in-Some.ensures.column fragment count invariant.at in
    let next_column_is = step.1.x in
    let columns_left = step.1.left in
    let last_in_frame = step.1.within in
    let column_is : column_no ≡ fragment.first + count = omega arith in
    let column_in_frame : column_no < FRAME_WIDTH = omega arith in
    let strips_here = column-by view c.args.number fragment window column_no state.windows.height c.args.numbers.now (window_at state.windows column_no) c.in-Some.edges
    c.pass_column-plan.result c.pass_column-plan.ensures.plan c.requires.numbers
    (window_is fragment count column_no c.args.self.now state c.args.planes.now c.loop-edges.planes invariant.marked column_is column_in_frame)
    (step.0 ∙ edges_are fragment count column_no column_is) ∙ ap (column_strips view c.args.number fragment window) column_is in
    let next : ColumnState = c.pass_column-plan.new.self in
    let plan = c.pass_column-plan.result in
    let marks = c.pass_column-plan.ensures in
    let one_more_passed : count + 1 ≡ passed_columns fragment c.next.new.self = omega arith in
    let so_far : HasPassed fragment c.loop-edges.stepper c.args.self.now state c.args.planes.now c.loop-edges.planes = record { at = invariant.at; marked = invariant.marked } in
    let columns_passed = passed-more fragment c.args.numbers.now c.loop-edges.stepper c.next.new.self c.in-Some.edges c.args.self.now state next c.args.planes.now
    c.loop-edges.planes c.pass_column-plan.new.planes plan.after so_far c.requires.numbers step
    (passes-column c.args.numbers.now column_no c.in-Some.edges state next c.loop-edges.planes c.pass_column-plan.new.planes plan
    marks.plan marks.windows marks.own marks.other marks.planes marks.count marks.same_floor marks.same_ceiling) in
    record {
      at = columns_passed.at;
      marked = columns_passed.marked;
      openings = marks.openings ∙ invariant.openings;
      asks = receives-after _ invariant.asks c.in_ok-paint_plan.ensures
          (ap (λ (strips : List Strip). first_lists columns count ++ strips) strips_here ∙ first-more columns count ∙ ap (first_lists columns) one_more_passed);
    }

pub returns-clause-marked : goal.returns-clause-marked
returns-clause-marked g c =
    let fragment : FragmentValue = c.args.fragment.now in
    let invariant = c.loop-edges.invariant in
    passed-all c.loop-edges.stepper (c.in_default.ensures.end fragment (passed_columns fragment c.loop-edges.stepper) invariant.at) invariant.marked

pub returns-clause-asks : goal.returns-clause-asks
returns-clause-asks g c =
    let invariant = c.loop-edges.invariant in
    let fragment : FragmentValue = c.args.fragment.now in
    let window : ℕ → ColumnClip = window_at c.args.self.now.windows in
    let end = c.in_default.ensures.end fragment (passed_columns fragment c.loop-edges.stepper) invariant.at in
    let all_passed : passed_columns fragment c.loop-edges.stepper ≡ columns_of fragment = omega arith in
    receives-same _ (ap (first_lists (strips_along c.args.view.now c.args.number fragment window)) all_passed ∙ strips-all c.args.view.now c.args.number fragment window) invariant.asks
