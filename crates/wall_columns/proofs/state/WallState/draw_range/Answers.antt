-- A fragment is drawn by a brush: what is built, what is told, and which strips it is asked for.
use Rattle.std.proofs.Common.{◌≡◌, ◌≤◌, List, ap, arith, false, length, nat_lt, refl, subst, sym, ◌∙◌}
use Rattle.picture_rules.proofs.Common.{nat_tests}
use Rattle.picture_rules.specs.Words.{FRAME_WIDTH, ViewShape}
use Rattle.receiver_rules.specs.Receivers.{TakesEach}
use Rattle.receiver_rules.proofs.ReceiverLemmas.{receives-none, receives-same}
use Rattle.brush.specs.Strips.{Strip}
use Rattle.wall_columns.specs.Rules.{MAX_DRAWSEGS}
use Rattle.wall_columns.specs.Walls.{WallsView}
use Rattle.wall_columns.proofs.BuiltLemmas.{built-count, built-range}
use Rattle.wall_columns.proofs.OverLemmas.{limit-range, stopped-over}
use Rattle.wall_columns.proofs.RangeLemmas.{can_show-of, open-of, range-is, range-none, room-of}
use Rattle.wall_columns.proofs.state.WallState.draw_range.Goals as goal

pub returns-then-is_full-clause-built : goal.returns-then-is_full-clause-built
returns-then-is_full-clause-built g c = λ walls s h few.
    let notes = ap (λ (w : WallsView). length w.notes) c.self.view_is in
    absurd (omega (arith, built-count c.args.view.now walls s c.args.self.now c.args.planes.now.planes h))

pub returns-then-is_full-clause-limit : goal.returns-then-is_full-clause-limit
returns-then-is_full-clause-limit g c = λ walls s h few.
    let notes = ap (λ (w : WallsView). length w.notes) c.self.view_is in
    absurd (omega (arith, built-count c.args.view.now walls s c.args.self.now c.args.planes.now.planes h))

pub returns-then-is_full-clause-asks : goal.returns-then-is_full-clause-asks
returns-then-is_full-clause-asks g c =
    let full : MAX_DRAWSEGS ≤ length c.args.self.now.notes = c.is_full.ensures.0 c.if-is_full.true in
    let no_room : nat_lt (length c.args.self.now.notes) MAX_DRAWSEGS ≡ false = grind (arith, nat_tests) in
    receives-same _ (range-none c.args.view.now c.args.self.now c.args.facts.now c.args.first c.args.last no_room) (receives-none _)

pub returns-in_err-places-clause-limit : goal.returns-in_err-places-clause-limit
returns-in_err-places-clause-limit g c = λ walls s h few.
    stopped-over c.from_residual.result c.in_err-places.field-0.0 c.from_residual.ensures.0 c.from_residual.ensures.1
    ∙ limit-range c.args.view.now c.args.facts.now c.args.first c.args.last c.numbers-numbers.result c.new-fragment.result c.self.inside.notes.items c.self.inside.columns c.args.planes.now
    c.new-fragment.ensures c.numbers-numbers.ensures c.self.view_is c.in_err-places.ensures.limit walls s h

pub draw_columns-requires-clause-show : goal.draw_columns-requires-clause-show
draw_columns-requires-clause-show g c =
    can_show-of c.args.view.now c.args.facts.now c.args.first c.args.last c.new-fragment.result c.new-fragment.ensures c.requires.within

pub draw_columns-requires-clause-takes : goal.draw_columns-requires-clause-takes
draw_columns-requires-clause-takes g c =
    let notes = ap (λ (w : WallsView). length w.notes) c.self.view_is in
    let room = room-of (length c.args.self.now.notes) MAX_DRAWSEGS c.is_full.result c.if-is_full.false c.is_full.ensures.1 in
    subst (λ (strips : List Strip). TakesEach g.B.Brush.takes c.args.brush.now strips)
    (sym (range-is c.args.view.now c.args.facts.now c.args.first c.args.last c.len-number.result c.new-fragment.result c.self.inside.notes.items c.self.inside.columns c.begin.new.self.windows
    c.self.view_is c.in_ok-places.ensures.windows c.new-fragment.ensures (omega arith) (omega arith)))
    (c.requires.takes (open-of c.self.inside.notes.items c.self.inside.columns c.self.view_is c.height-height.ensures.clips))

pub returns-in-Err-clause-limit : goal.returns-in-Err-clause-limit
returns-in-Err-clause-limit g c = λ walls s h few.
    limit-range c.args.view.now c.args.facts.now c.args.first c.args.last c.numbers-numbers.result c.new-fragment.result c.self.inside.notes.items c.self.inside.columns c.args.planes.now
    c.new-fragment.ensures c.numbers-numbers.ensures c.self.view_is c.in_ok-places.ensures.limit walls s h

pub returns-in-Err-clause-asks : goal.returns-in-Err-clause-asks
returns-in-Err-clause-asks g c =
    let notes = ap (λ (w : WallsView). length w.notes) c.self.view_is in
    let room = room-of (length c.args.self.now.notes) MAX_DRAWSEGS c.is_full.result c.if-is_full.false c.is_full.ensures.1 in
    receives-same _ (range-is c.args.view.now c.args.facts.now c.args.first c.args.last c.len-number.result c.new-fragment.result c.self.inside.notes.items c.self.inside.columns c.begin.new.self.windows
    c.self.view_is c.in_ok-places.ensures.windows c.new-fragment.ensures (omega arith) (omega arith)) c.in-Err.ensures.asks

pub returns-clause-limit : goal.returns-clause-limit
returns-clause-limit g c = λ walls s h few.
    limit-range c.args.view.now c.args.facts.now c.args.first c.args.last c.numbers-numbers.result c.new-fragment.result c.self.inside.notes.items c.self.inside.columns c.args.planes.now
    c.new-fragment.ensures c.numbers-numbers.ensures c.self.view_is c.in_ok-places.ensures.limit walls s h

pub returns-clause-asks : goal.returns-clause-asks
returns-clause-asks g c =
    let notes = ap (λ (w : WallsView). length w.notes) c.self.view_is in
    let room = room-of (length c.args.self.now.notes) MAX_DRAWSEGS c.is_full.result c.if-is_full.false c.is_full.ensures.1 in
    receives-same _ (range-is c.args.view.now c.args.facts.now c.args.first c.args.last c.len-number.result c.new-fragment.result c.self.inside.notes.items c.self.inside.columns c.begin.new.self.windows
    c.self.view_is c.in_ok-places.ensures.windows c.new-fragment.ensures (omega arith) (omega arith)) c.in_default.ensures.asks

pub returns-clause-built : goal.returns-clause-built
returns-clause-built g c = λ walls s h few.
    let view = c.args.view.now in
    let facts = c.args.facts.now in
    let width_is = ap (λ (s : ViewShape). s.width) c.shape-shape.ensures.value in
    let width_in_frame = c.shape-shape.ensures.frame.width in
    let frame : view.shape.width ≤ FRAME_WIDTH = omega arith in
    built-range view facts c.args.first c.args.last c.numbers-numbers.result c.new-fragment.result c.self.inside.notes.items
    c.self.inside.columns c.begin.new.self c.draw_columns.new.self c.save_columns.new.self c.args.planes.now c.begin.new.planes c.draw_columns.new.planes
    c.in_ok-places.places c.note_of-note.result c.new-fragment.ensures c.numbers-numbers.ensures c.requires.ordered c.requires.within frame
    c.self.view_is c.in_ok-places.ensures.windows c.in_ok-places.ensures.ok c.in_ok-places.ensures.taken
    c.in_default.ensures.marked c.in_default.ensures.openings c.save_columns.ensures.saved
    (λ place are. c.note_of-note.ensures view facts place c.new-fragment.ensures refl (ap (λ (s : ViewShape). s.height) c.shape-shape.ensures.value) are)
    c.push_reserved.ensures.items walls s h
