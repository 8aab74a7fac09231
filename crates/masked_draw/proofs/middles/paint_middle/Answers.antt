-- The loop asks for and marks the columns one by one.
use Rattle.std.proofs.Common.{◌≡◌, ℕ, ◌+◌, ◌≤◌, Bool, List, ◌++◌, Some, Err, sym, ap, ◌∙◌, refl, arith}
use Rattle.picture_rules.proofs.Common.{err_from_is_err_and}
use Rattle.receiver_rules.proofs.ReceiverLemmas.{receives-after, receives-none, receives-same, receives-stopped}
use Rattle.brush.specs.Strips.{Strip}
use Rattle.masked_draw.specs.Rules.{Drawseg, FragmentNote, ViewValue}
use Rattle.masked_draw.specs.Marks.{MarksBy, if_unmarked, is_between, mark_of, unmarked_strips}
use Rattle.masked_draw.specs.Scenes.{scene_drawseg}
use Rattle.masked_draw.specs.Strips.{masked_column_strips}
use Rattle.masked_draw.proofs.MarkLemmas.{between, marks-here, marks-more, marks-start, unmarked-left, unmarked-more, unmarked-plain, unmarked-start}
use Rattle.masked_draw.proofs.MiddleLemmas.{column-taken}
use Rattle.masked_draw.proofs.middles.paint_middle.Goals as goal

-- a column by the mark that it has now
here : (v : ViewValue) (old now : List Bool) (d : FragmentNote) (place from x k number : ℕ) (drawseg : Drawseg) → d.masked ≡ Some place → d.first ≤ from → from ≤ x → x ≤ d.last → MarksBy d (between from x) old now → number ≡ k →
    if_unmarked (mark_of now d place x) (masked_column_strips v number drawseg x) ≡ if_unmarked (mark_of old d place x) (masked_column_strips v k drawseg x)
here v old now d place from x k number drawseg e a b l h n =
    ap (λ (m : Bool). if_unmarked m (masked_column_strips v number drawseg x)) (marks-here d place from x old now e (omega arith) l h)
    ∙ ap (λ (j : ℕ). if_unmarked (mark_of old d place x) (masked_column_strips v j drawseg x)) n

pub returns-in_default-clause-asks : goal.returns-in_default-clause-asks
returns-in_default-clause-asks g c =
    let scene = c.args.scene.now in
    receives-same _ (sym (unmarked-plain scene.view.now c.args.marks.now c.args.note.now (is_between c.args.first c.args.last) c.args.number (scene_drawseg scene c.args.note.now) c.in_default.is)) (receives-none _)

pub overflow_add-x-end : goal.overflow_add-x-end
overflow_add-x-end g c =
    let inside = c.requires.whole.within in
    let width = c.requires.width in
    omega (arith, inside, width, c.requires.ends)

pub loop-x-init : goal.loop-x-init
loop-x-init g c =
    let scene = c.args.scene.now in
    record {
      room = refl;
      marked = marks-start c.args.note.now c.args.first c.args.marks.now;
      asks = receives-same _ (sym (unmarked-start scene.view.now c.args.marks.now c.args.note.now c.args.first c.args.number (scene_drawseg scene c.args.note.now))) (receives-none _);
    }

pub paint_unmarked-requires-clause-takes : goal.paint_unmarked-requires-clause-takes
paint_unmarked-requires-clause-takes g c =
    let number = c.middle_of-middle.ensures.number in
    column-taken c.args.scene.now c.args.note.now c.middle_of-middle.result.place c.middle_of-middle.result.number c.args.number c.loop-x.x c.middle_of-middle.ensures.middle.place number (omega (arith, c.requires.begins)) (omega arith) c.loop-x.invariant.asks.takes_on c.requires.takes

pub returns-in_err-paint_unmarked-clause-asks : goal.returns-in_err-paint_unmarked-clause-asks
returns-in_err-paint_unmarked-clause-asks g c =
    let scene = c.args.scene.now in
    let note = c.args.note.now in
    let middle = c.middle_of-middle.result in
    let masked = c.middle_of-middle.ensures.middle.place in
    let failure_is = err_from_is_err_and c.from_residual.result c.from_residual.ensures.1 in
    let left = unmarked-left scene.view.now c.args.marks.now note middle.place c.args.first c.loop-x.x c.args.last c.args.number (scene_drawseg scene note) masked c.requires.begins c.loop-x.auto.x (omega arith) c.requires.ends in
    receives-stopped c.from_residual.result left.0 _ c.loop-x.invariant.asks tt refl
    (receives-same _ (here scene.view.now c.args.marks.now c.loop-x.marks note middle.place c.args.first c.loop-x.x c.args.number middle.number (scene_drawseg scene note) masked c.requires.begins c.loop-x.auto.x (omega arith) c.loop-x.invariant.marked c.middle_of-middle.ensures.number) c.paint_unmarked.ensures.asks)
    _ c.in_err-paint_unmarked.was (failure_is.1 ∙ ap Err failure_is.2) left.1

pub loop-x-preserved : goal.loop-x-preserved
loop-x-preserved g c =
    let scene = c.args.scene.now in let note = c.args.note.now in
    let invariant = c.loop-x.invariant in
    let painted = c.in_ok-paint_unmarked.ensures in
    let middle = c.middle_of-middle.result in
    let masked = c.middle_of-middle.ensures.middle.place in
    record {
      room = painted.marks ∙ invariant.room;
      marked = marks-more note middle.place c.args.first c.loop-x.x _ _ _ masked c.requires.begins c.loop-x.auto.x (omega arith) invariant.marked painted.marked painted.others;
      asks = receives-after _ invariant.asks painted.asks
          (ap (λ (xs : List Strip). unmarked_strips scene.view.now c.args.marks.now note (between c.args.first c.loop-x.x) c.args.number (scene_drawseg scene note) ++ xs)
          (here scene.view.now c.args.marks.now c.loop-x.marks note middle.place c.args.first c.loop-x.x c.args.number middle.number (scene_drawseg scene note) masked c.requires.begins c.loop-x.auto.x (omega arith) invariant.marked c.middle_of-middle.ensures.number)
          ∙ sym (unmarked-more scene.view.now c.args.marks.now note middle.place c.args.first c.loop-x.x c.args.number (scene_drawseg scene note) masked c.requires.begins c.loop-x.auto.x (omega arith)));
    }

pub returns-clause-asks : goal.returns-clause-asks
returns-clause-asks g c =
    let scene = c.args.scene.now in
    let end : c.loop-x.x ≡ c.args.last + 1 = omega arith in
    receives-same _ (ap (λ (x : ℕ). unmarked_strips scene.view.now c.args.marks.now c.args.note.now (between c.args.first x) c.args.number (scene_drawseg scene c.args.note.now)) end) c.loop-x.invariant.asks
