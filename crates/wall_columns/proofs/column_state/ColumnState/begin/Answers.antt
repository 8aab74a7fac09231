-- The openings are taken, and then the planes are checked: the first count past its room is told.
use Rattle.std.proofs.Common.{ℕ, ◌+◌, ◌-◌, length, subst, sym, ◌∙◌}
use Rattle.wall_columns.specs.{Columns.HasTaken, Leaves.checks_over, Places.places_of}
use Rattle.wall_columns.specs.Saved.{OpeningsView}
use Rattle.wall_columns.proofs.LeafLemmas.{limit-passed_on}
use Rattle.wall_columns.proofs.OverLemmas.{openings_over-stop, openings_over-next, same_now}
use Rattle.wall_columns.proofs.column_state.ColumnState.begin.Goals as goal

pub returns-in_err-places-clause-limit : goal.returns-in_err-places-clause-limit
returns-in_err-places-clause-limit c = λ s e.
    let end : ℕ = (places_of c.args.numbers.now (length c.args.self.now.openings.saved) (c.args.last + 1 - c.args.first)).end in
    limit-passed_on c.from_residual.result c.in_err-places.field-0.0 c.from_residual.ensures.0 c.from_residual.ensures.1
    ∙ openings_over-stop c.in_err-places.field-0.0 c.args.self.now.openings.room end (checks_over c.args.planes.now.room c.args.numbers.now c.args.first c.args.last s)
    c.in_err-places.ensures.limit

pub returns-in_err-check_planes-clause-limit : goal.returns-in_err-check_planes-clause-limit
returns-in_err-check_planes-clause-limit c = λ s e.
    let end : ℕ = (places_of c.args.numbers.now (length c.args.self.now.openings.saved) (c.args.last + 1 - c.args.first)).end in
    limit-passed_on c.from_residual-in_err-check_planes.result c.in_err-check_planes.field-0.0 c.from_residual-in_err-check_planes.ensures.0 c.from_residual-in_err-check_planes.ensures.1
    ∙ c.in_err-check_planes.ensures.limit s (e ∙ same_now c.args.self.now c.take_openings.new.self c.args.planes.now c.in_ok-places.ensures.floor c.in_ok-places.ensures.ceiling)
    ∙ openings_over-next c.args.self.now.openings.room end (checks_over c.args.planes.now.room c.args.numbers.now c.args.first c.args.last s) c.in_ok-places.ensures.limit

pub returns-clause-ok : goal.returns-clause-ok
returns-clause-ok c = λ s e.
    c.in_ok-check_planes.ensures.ok s (e ∙ same_now c.args.self.now c.take_openings.new.self c.args.planes.now c.in_ok-places.ensures.floor c.in_ok-places.ensures.ceiling)

pub returns-clause-limit : goal.returns-clause-limit
returns-clause-limit c = λ s e.
    let end : ℕ = (places_of c.args.numbers.now (length c.args.self.now.openings.saved) (c.args.last + 1 - c.args.first)).end in
    c.in_ok-check_planes.ensures.limit s (e ∙ same_now c.args.self.now c.take_openings.new.self c.args.planes.now c.in_ok-places.ensures.floor c.in_ok-places.ensures.ceiling)
    ∙ openings_over-next c.args.self.now.openings.room end (checks_over c.args.planes.now.room c.args.numbers.now c.args.first c.args.last s) c.in_ok-places.ensures.limit

pub returns-clause-taken : goal.returns-clause-taken
returns-clause-taken c =
    subst (λ (openings : OpeningsView). HasTaken c.args.numbers.now (c.args.last + 1 - c.args.first) c.args.self.now.openings openings c.in_ok-places.places)
    (sym c.in_ok-check_planes.ensures.openings) c.in_ok-places.ensures.taken
