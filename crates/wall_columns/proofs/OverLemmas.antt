-- Laws of the first count of a step that passes its limit.
use Rattle.picture_rules.proofs.Common.{ap, arith, Bool, cond, Err, false, IsErr, IsErrAnd, length, List, nat_lt, None, Ok, OnOk, Option, refl, Result, Some, sym, true, ℕ, ◌+◌, ◌-◌, ◌∙◌, ◌≡◌}
use Rattle.wall_columns.specs.Rules.{FragmentNote, FragmentNumbers, OverLimit, PlaneKey, PlanesNow, ViewValue, Wall, WallFacts, ceiling_checked, floor_checked, fragment_numbers, limit_of, openings_count, openings_counts, openings_of, passes_limit, plane_counts, plane_wall, planes_count, room_if, wall_of, wall_step}
use Rattle.picture_rules.proofs.wall.NoteLemmas.{length-saved_by, length-saved_openings}
use Rattle.visplanes.specs.{Planes.PlanesView, declared.planes.PlaneNo.PlaneNo}
use Rattle.picture_rules.specs.declared.LimitKind.{LimitKind}
use Rattle.picture_rules.specs.declared.LimitKind.TheVariants.{Openings, Planes}
use Rattle.wall_columns.specs.declared.fault.{DrawFault.DrawFault, WallStop.WallStop}
use Rattle.wall_columns.specs.declared.fault.WallStop.TheVariants.{Brush, Over}
use Rattle.wall_columns.specs.{Places.places_of, Walls.WallsView}
use Rattle.wall_columns.specs.Faults.{from_cache_fault, from_over, from_stop, limit_of_fault, limit_of_result, over_in, over_of_stop}
use Rattle.texture_build.specs.CacheFault.{CacheFault}
use Rattle.texture_build.specs.CacheFault.TheVariants as cache
use Rattle.wall_columns.specs.{declared.column_state.ColumnState.ColumnState, States.walls_view}
use Rattle.wall_edges.specs.Fragments.{FragmentValue, fragment_of}
use Rattle.wall_columns.specs.Columns.{plane_number}
use Rattle.wall_columns.specs.Leaves.{now_of, ceiling_check, floor_check, over_room, openings_over, leaf_over, checks_over}
use Rattle.wall_columns.specs.Built.{IsBuilt, limits_of, step_over, step_of_leaf, step_of_wall}
use Rattle.wall_columns.proofs.BuiltLemmas.{built-inside, built-now}

-- what holds where a call is done
pub on_ok : {A E : Type 0} {P Q : Type 0} (r : Result A E) → (P → Q) → OnOk r P → OnOk r Q
on_ok (Ok value) f h = f h
on_ok (Err fault) f h = tt

-- a leaf's counts
pub step_over-leaf : (state : WallsView) (planes : PlanesView) (s : PlanesNow) (n : ℕ) (floor ceiling : Option PlaneKey) →
    leaf_over planes.room s floor ceiling ≡ step_over (limits_of state planes) s n (step_of_leaf floor ceiling)
unfolding leaf_over over_room passes_limit limit_of openings_counts plane_counts planes_count
step_over-leaf state planes s n floor ceiling = refl

-- a fragment's counts
ends_at : (v : ViewValue) (walls : List Wall) (k : ℕ) (facts : WallFacts) (first last place : ℕ) →
    (places_of (fragment_numbers v facts first last) place (last + 1 - first)).end ≡ place + openings_of (wall_of v facts first last)
unfolding places_of room_if wall_of
ends_at v walls k facts first last place =
    let saved_by_rooms = length-saved_by v walls k (wall_of v facts first last) in
    let saved_by_openings = length-saved_openings v walls k (wall_of v facts first last) in omega arith

wall_over : (v : ViewValue) (walls : List Wall) (facts : WallFacts) (first last : ℕ) (state : WallsView) (planes : PlanesView) (s : PlanesNow) (place : ℕ) →
    openings_over state.room (place + openings_of (wall_of v facts first last)) (checks_over planes.room (fragment_numbers v facts first last) first last s)
    ≡ step_over (limits_of state planes) s place (step_of_wall v walls (wall_of v facts first last))
unfolding over_room checks_over passes_limit limit_of openings_counts plane_counts planes_count openings_count ceiling_checked floor_checked ceiling_check floor_check wall_step plane_wall wall_of
wall_over v walls facts first last state planes s place = refl

step_over_wall : (v : ViewValue) (walls : List Wall) (facts : WallFacts) (first last : ℕ) (state : WallsView) (planes : PlanesView) (s : PlanesNow) (place : ℕ) →
    openings_over state.room (places_of (fragment_numbers v facts first last) place (last + 1 - first)).end (checks_over planes.room (fragment_numbers v facts first last) first last s)
    ≡ step_over (limits_of state planes) s place (step_of_wall v walls (wall_of v facts first last))
step_over_wall v walls facts first last state planes s place =
    ap (λ (m : ℕ). openings_over state.room m (checks_over planes.room (fragment_numbers v facts first last) first last s)) (ends_at v walls 0 facts first last place)
    ∙ wall_over v walls facts first last state planes s place

-- openings that pass the room are what is told, whatever follows
some_over : (t : Bool) (o : OverLimit) (count : ℕ) (next : Option OverLimit) → Some o ≡ cond t (Some (openings_count count)) None → Some o ≡ cond t (Some (openings_count count)) next
some_over true o count next e = e
some_over false o count next e = cc

pub openings_over-stop : (over : OverLimit) (room count : ℕ) (next : Option OverLimit) → Some over ≡ openings_over room count None → Some over ≡ openings_over room count next
unfolding over_room
openings_over-stop over room count next e = some_over (nat_lt room count) over count next e

none_over : (t : Bool) (count : ℕ) (next : Option OverLimit) → None ≡ cond t (Some (openings_count count)) None → next ≡ cond t (Some (openings_count count)) next
none_over true count next e = cc
none_over false count next e = refl

pub openings_over-next : (room count : ℕ) (next : Option OverLimit) → None ≡ openings_over room count None → next ≡ openings_over room count next
unfolding over_room
openings_over-next room count next e = none_over (nat_lt room count) count next e

-- a state with the same current planes
pub same_now : (old new : ColumnState) (planes : PlanesView) → new.floor ≡ old.floor → new.ceiling ≡ old.ceiling → now_of old planes ≡ now_of new planes
same_now old new planes e f = ap (λ (o : Option PlaneNo).
    let planes_now : PlanesNow = record { planes = planes.planes; floor = plane_number o; ceiling = plane_number old.ceiling } in planes_now) (sym e)
    ∙ ap (λ (o : Option PlaneNo).
    let planes_now : PlanesNow = record { planes = planes.planes; floor = plane_number new.floor; ceiling = plane_number o } in planes_now) (sym f)

-- what is told of a fragment, by its value, its numbers and the parts of a state
pub limit-range : (v : ViewValue) (facts : WallFacts) (first last : ℕ) (n : FragmentNumbers) (f : FragmentValue) (notes : List FragmentNote) (columns : ColumnState) {state : WallsView} (planes : PlanesView) {told : Option OverLimit} →
    f ≡ fragment_of v facts first last → n ≡ f.numbers → walls_view notes columns ≡ state →
    ((s : PlanesNow) → s ≡ now_of columns planes → told ≡ openings_over columns.openings.room (places_of n (length columns.openings.saved) (last + 1 - first)).end (checks_over planes.room n first last s)) →
    (walls : List Wall) (s : PlanesNow) → IsBuilt v walls s state planes.planes →
    told ≡ step_over (limits_of state planes) s (length state.openings) (step_of_wall v walls (wall_of v facts first last))
limit-range v facts first last n f notes columns planes e g view is walls s h =
    let numbers : n ≡ fragment_numbers v facts first last = g ∙ ap (λ (f : FragmentValue). f.numbers) e in
    is s (built-now v walls s notes columns planes (built-inside v walls s notes columns planes view h))
    ∙ ap (λ (n : FragmentNumbers). openings_over columns.openings.room (places_of n (length columns.openings.saved) (last + 1 - first)).end (checks_over planes.room n first last s)) numbers
    ∙ step_over_wall v walls facts first last (walls_view notes columns) planes s (length columns.openings.saved)
    ∙ ap (λ (w : WallsView). step_over (limits_of w planes) s (length w.openings) (step_of_wall v walls (wall_of v facts first last))) view

-- the fault of a count tells the count
kind_told : (kind : LimitKind) (count : ℕ) → limit_of_fault (from_over (record { kind = kind; count = count })) ≡ Some (record { kind = kind; count = count })
unfolding planes_count openings_count
kind_told Planes count = refl
kind_told Openings count = refl

pub over-told : (over : OverLimit) → limit_of_fault (from_over over) ≡ Some over
over-told over = kind_told over.kind over.count

-- so does a call that passes it on
pub over-passed_on : {A : Type 0} (r : Result A DrawFault) (over : OverLimit) → IsErr r → IsErrAnd r (λ e. e ≡ from_over over) → limit_of_result r ≡ Some over
over-passed_on (Ok value) over failed is = absurd (let false_is_true : false ≡ true = failed in cc)
over-passed_on (Err fault) over failed is = ap limit_of_fault is ∙ over-told over

-- and a stop tells the count that it has, if any
cache_told : (fault : CacheFault) → limit_of_fault (from_cache_fault fault) ≡ None
cache_told (cache.ZoneFull wanted widest) = refl
cache_told cache.ReadFault = refl

stop_told : (stop : WallStop CacheFault) → limit_of_fault (from_stop stop) ≡ over_in stop
stop_told (Over over) = over-told over
stop_told (Brush fault) = cache_told fault

pub stop-passed_on : {A : Type 0} (r : Result A DrawFault) (stop : WallStop CacheFault) → IsErr r → IsErrAnd r (λ e. e ≡ from_stop stop) →
    limit_of_result r ≡ over_in stop
stop-passed_on (Ok value) stop failed is = absurd (let false_is_true : false ≡ true = failed in cc)
stop-passed_on (Err fault) stop failed is = ap limit_of_fault is ∙ stop_told stop

-- a Stop of a count tells it
pub over-in : {E : Type 0} (stop : WallStop E) (over : OverLimit) → stop ≡ Over over → over_in stop ≡ Some over
over-in stop over is = ap over_in is

pub stopped-over : {A E : Type 0} (result : Result A (WallStop E)) (over : OverLimit) → IsErr result → IsErrAnd result (λ e. e ≡ Over over) → over_of_stop result ≡ Some over
stopped-over (Ok value) over failed is = absurd (let false_is_true : false ≡ true = failed in cc)
stopped-over (Err stop) over failed is = ap over_in is
