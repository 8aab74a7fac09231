-- The two planes are found one after the other, and the first count past the room is told.
use Rattle.std.proofs.Common.{◌<◌, length, ap, sym, refl, arith}
use Rattle.visplanes.specs.Planes.{PlanesView, with_planes}
use Rattle.wall_columns.specs.{Columns.plane_number, Leaves.planes_found}
use Rattle.wall_columns.proofs.LeafLemmas.{limit-told, leaf_over-counts, planes-told, enter-floor, enter-ceiling, among-longer, longer_found}
use Rattle.wall_columns.proofs.column_state.ColumnState.enter.Goals as goal

pub returns-in_err-self-clause-limit : goal.returns-in_err-self-clause-limit
returns-in_err-self-clause-limit c = λ s e.
    let planes = c.args.planes.now in
    let counts = leaf_over-counts planes.room s planes c.args.leaf.floor c.args.leaf.ceiling (plane_number c.args.self.now.floor) (plane_number c.args.self.now.ceiling) e
    (with_planes (planes_found planes.planes c.args.leaf.floor) planes) refl in
    limit-told c.from_residual.result _ c.from_residual.ensures.0 c.from_residual.ensures.1 c.in_err-self.ensures.over (counts.first (c.in_err-self.ensures.full.0 refl))

pub returns-in_err-self-2-clause-limit : goal.returns-in_err-self-2-clause-limit
returns-in_err-self-2-clause-limit c = λ s e.
    let planes = c.args.planes.now in
    let counts = leaf_over-counts planes.room s planes c.args.leaf.floor c.args.leaf.ceiling (plane_number c.args.self.now.floor) (plane_number c.args.self.now.ceiling) e
    c.find_plane.new.planes c.in_ok-self.ensures.ok in
    let room_same = c.in_ok-self.ensures.room in let room_below_length :
    c.find_plane.new.planes.room < length (planes_found c.find_plane.new.planes.planes c.args.leaf.ceiling) = c.in_err-self-2.ensures.full.0 refl in
    limit-told c.from_residual-in_err-self-2.result _ c.from_residual-in_err-self-2.ensures.0 c.from_residual-in_err-self-2.ensures.1 c.in_err-self-2.ensures.over
    (counts.second c.in_ok-self.ensures.full.1 (omega arith))

pub returns-clause-ok : goal.returns-clause-ok
returns-clause-ok c = λ s e.
    let floor_entered = enter-floor s c.args.planes.now c.find_plane.new.planes c.args.leaf.floor (plane_number c.args.self.now.floor) (plane_number c.args.self.now.ceiling)
    (plane_number c.in_ok-self.field-0) e c.in_ok-self.ensures.ok c.in_ok-self.ensures.number in
    sym (enter-ceiling _ c.find_plane.new.planes c.find_plane-2.new.planes c.args.leaf.ceiling (plane_number c.in_ok-self.field-0) (plane_number c.args.self.now.ceiling)
    (plane_number c.in_ok-self-2.field-0) floor_entered c.in_ok-self-2.ensures.ok c.in_ok-self-2.ensures.number)

pub returns-clause-limit : goal.returns-clause-limit
returns-clause-limit c = λ s e.
    let planes = c.args.planes.now in
    let counts = leaf_over-counts planes.room s planes c.args.leaf.floor c.args.leaf.ceiling (plane_number c.args.self.now.floor) (plane_number c.args.self.now.ceiling) e
    c.find_plane.new.planes c.in_ok-self.ensures.ok in
    let room_same = c.in_ok-self.ensures.room in
    sym (counts.none c.in_ok-self.ensures.full.1 (λ l. c.in_ok-self-2.ensures.full.1 (omega arith)))

pub returns-clause-leaf : goal.returns-clause-leaf
returns-clause-leaf c =
    let planes_longer = longer_found c.find_plane.new.planes.planes c.args.leaf.ceiling in
    let length_is = ap (λ (ps : PlanesView). length ps.planes) c.in_ok-self-2.ensures.ok in
    (among-longer (plane_number c.in_ok-self.field-0) c.find_plane.new.planes.planes c.find_plane-2.new.planes.planes c.in_ok-self.ensures.among (omega arith), c.in_ok-self-2.ensures.among)

pub returns-in_err-self-clause-kind : goal.returns-in_err-self-clause-kind
returns-in_err-self-clause-kind c = planes-told c.from_residual.result _ _ c.from_residual.ensures.1 c.in_err-self.ensures.over

pub returns-in_err-self-2-clause-kind : goal.returns-in_err-self-2-clause-kind
returns-in_err-self-2-clause-kind c = planes-told c.from_residual-in_err-self-2.result _ _ c.from_residual-in_err-self-2.ensures.1 c.in_err-self-2.ensures.over
