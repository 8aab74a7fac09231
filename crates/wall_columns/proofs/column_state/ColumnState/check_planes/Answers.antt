-- The two planes are checked one after the other, and the first count past the room is told.
use Rattle.std.proofs.Common.{◌<◌, length, sym, refl, arith}
use Rattle.picture_rules.specs.Words.{checked_plane}
use Rattle.visplanes.specs.Planes.{with_planes}
use Rattle.wall_columns.specs.{Columns.plane_number, Leaves.planes_checked}
use Rattle.wall_columns.proofs.LeafLemmas.{limit-told, checks_over-counts, check-ceiling, check-floor}
use Rattle.wall_columns.proofs.column_state.ColumnState.check_planes.Goals as goal

pub returns-in_err-self-clause-limit : goal.returns-in_err-self-clause-limit
returns-in_err-self-clause-limit c = λ s e.
    let planes = c.args.planes.now in
    let numbers = c.args.numbers.now in
    let ceiling = plane_number c.args.self.now.ceiling in
    let counts = checks_over-counts planes.room s planes numbers c.args.first c.args.last (plane_number c.args.self.now.floor) ceiling e
    (with_planes (planes_checked planes.planes (checked_plane numbers.ceiling_mark planes.planes ceiling c.args.first c.args.last)) planes) refl in
    limit-told c.from_residual.result _ c.from_residual.ensures.0 c.from_residual.ensures.1 c.in_err-self.ensures.over (counts.first (c.in_err-self.ensures.full.0 refl))

pub returns-in_err-self-2-clause-limit : goal.returns-in_err-self-2-clause-limit
returns-in_err-self-2-clause-limit c = λ s e.
    let planes = c.args.planes.now in
    let numbers = c.args.numbers.now in
    let floor = plane_number c.args.self.now.floor in
    let counts = checks_over-counts planes.room s planes numbers c.args.first c.args.last floor (plane_number c.args.self.now.ceiling) e
    c.check_plane.new.planes c.in_ok-self.ensures.ok in
    let room_same = c.in_ok-self.ensures.room in
    let room_below_length : c.check_plane.new.planes.room < length (planes_checked c.check_plane.new.planes.planes (checked_plane numbers.floor_mark c.check_plane.new.planes.planes floor c.args.first c.args.last)) =
    c.in_err-self-2.ensures.full.0 refl in
    limit-told c.from_residual-in_err-self-2.result _ c.from_residual-in_err-self-2.ensures.0 c.from_residual-in_err-self-2.ensures.1 c.in_err-self-2.ensures.over
    (counts.second c.in_ok-self.ensures.full.1 (omega arith))

pub returns-clause-ok : goal.returns-clause-ok
returns-clause-ok c = λ s e.
    let numbers = c.args.numbers.now in
    let ceiling_checked = check-ceiling s c.args.planes.now c.check_plane.new.planes numbers c.args.first c.args.last (plane_number c.args.self.now.floor) (plane_number c.args.self.now.ceiling)
    (plane_number c.in_ok-self.field-0) e c.in_ok-self.ensures.ok c.in_ok-self.ensures.number in
    sym (check-floor _ c.check_plane.new.planes c.check_plane-2.new.planes numbers c.args.first c.args.last (plane_number c.args.self.now.floor) (plane_number c.in_ok-self.field-0)
    (plane_number c.in_ok-self-2.field-0) ceiling_checked c.in_ok-self-2.ensures.ok c.in_ok-self-2.ensures.number)

pub returns-clause-limit : goal.returns-clause-limit
returns-clause-limit c = λ s e.
    let planes = c.args.planes.now in
    let numbers = c.args.numbers.now in
    let counts = checks_over-counts planes.room s planes numbers c.args.first c.args.last (plane_number c.args.self.now.floor) (plane_number c.args.self.now.ceiling) e
    c.check_plane.new.planes c.in_ok-self.ensures.ok in
    let room_same = c.in_ok-self.ensures.room in
    sym (counts.none c.in_ok-self.ensures.full.1 (λ l. c.in_ok-self-2.ensures.full.1 (omega arith)))
