-- The places end where the openings end, and their count is told where it passes the room.
use Rattle.std.proofs.Common.{◌≡◌, ◌<◌, ◌+◌, ◌-◌, ℕ, Some, None, length, arith, refl, ap, sym, ◌∙◌}
use Rattle.picture_rules.specs.{Words.openings_count, declared.OverLimit.OverLimit}
use Rattle.wall_columns.specs.declared.notes.SavePlaces.{SavePlaces}
use Rattle.wall_columns.specs.Places.{places_of}
use Rattle.wall_columns.proofs.LeafLemmas.{limit-passed_on, over_room-passed, over_room-within}
use Rattle.wall_columns.proofs.NoteLemmas.{places_of-end, places_of-within}
use Rattle.wall_columns.proofs.column_state.ColumnState.take_openings.Goals as goal

pub extend-requires : goal.extend-requires
extend-requires c =
    let end_is = ap (λ (p : SavePlaces). p.end) c.save_places-places.ensures in
    let end_bounded = (places_of-end c.args.numbers.now c.count.result (c.args.last + 1 - c.args.first)).0 in omega arith

pub returns-in_err-extend-clause-limit : goal.returns-in_err-extend-clause-limit
returns-in_err-extend-clause-limit c =
    let room : ℕ = c.args.self.now.openings.room in
    let end_is : c.save_places-places.result.end ≡ (places_of c.args.numbers.now (length c.args.self.now.openings.saved) (c.args.last + 1 - c.args.first)).end =
    ap (λ (p : SavePlaces). p.end) c.save_places-places.ensures ∙ ap (λ (n : ℕ). (places_of c.args.numbers.now n (c.args.last + 1 - c.args.first)).end) c.count.ensures.value in
    limit-passed_on c.from_residual.result c.in_err-extend.field-0.0 c.from_residual.ensures.0 c.from_residual.ensures.1
    ∙ ap (λ (o : OverLimit). Some o) c.in_err-extend.ensures.over
    ∙ ap (λ (n : ℕ). Some (openings_count n)) end_is ∙ sym (over_room-passed openings_count room _ None
    (let end_past_room : room < c.save_places-places.result.end = c.in_err-extend.ensures.full.0 refl in omega arith))

pub returns-clause-taken : goal.returns-clause-taken
returns-clause-taken c = record {
  are = c.save_places-places.ensures ∙ ap (λ (used : ℕ). places_of c.args.numbers.now used (c.args.last + 1 - c.args.first)) c.count.ensures.value;
  within = places_of-within c.args.numbers.now c.count.result (c.args.last + 1 - c.args.first) (length c.extend.new.self.saved) c.save_places-places.result
      c.save_places-places.ensures (let saved_length : length c.extend.new.self.saved ≡ c.save_places-places.result.end =
      c.in_ok-extend.ensures.length in omega arith);
  count = c.in_ok-extend.ensures.length;
  front = c.in_ok-extend.ensures.front;
}

pub returns-clause-limit : goal.returns-clause-limit
returns-clause-limit c =
    let room : ℕ = c.args.self.now.openings.room in
    let end_is : c.save_places-places.result.end ≡ (places_of c.args.numbers.now (length c.args.self.now.openings.saved) (c.args.last + 1 - c.args.first)).end =
    ap (λ (p : SavePlaces). p.end) c.save_places-places.ensures ∙ ap (λ (n : ℕ). (places_of c.args.numbers.now n (c.args.last + 1 - c.args.first)).end) c.count.ensures.value in
    sym (over_room-within openings_count room _ None (λ l. c.in_ok-extend.ensures.full.1 (omega arith)))
