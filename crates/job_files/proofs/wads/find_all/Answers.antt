use Rattle.picture_rules.proofs.Common.{[], ap, arith, err_from_is_err_and, length, length-append, map_more, refl, take_all, ◌∙◌, ◌∷◌}
use Rattle.art_rules.proofs.Laws.{follows_none, follows_then}
use Rattle.job_files.proofs.FoundLemmas.{none_found, found_more, lacking_stops}
use Rattle.job_files.proofs.wads.find_all.Goals as goal

pub loop-name-init : goal.loop-name-init
loop-name-init g c = record {
  count = ap length c.new-numbers.ensures.items;
  follows = follows_none (g.S.Shelf.view c.args.shelf.now);
  settled = refl;
  untaken = refl;
  found = λ files holds. none_found _ _ files c.new-numbers.ensures.items;
}

pub returns-in_err-number-clause-stops : goal.returns-in_err-number-clause-stops
returns-in_err-number-clause-stops g c files holds =
    let result_is_error = err_from_is_err_and c.from_residual.result c.from_residual.ensures.1 in
    let files_hold = c.loop-name.invariant.follows.all_files ∙ holds in
    rw (result_is_error.1, result_is_error.2)
    (λ steady. lacking_stops c.args.names.now c.loop-name.name-index _ files c.find.result _ (omega arith)
    (rw files_hold at (c.find.ensures.steady (c.loop-name.invariant.follows.steady ∙ steady))) c.in_err-number.was)

pub loop-name-preserved : goal.loop-name-preserved
loop-name-preserved g c = record {
  count = omega (arith, ap length c.in_ok-push.ensures.items, length-append c.loop-name.numbers.items (c.in_ok-number.number ∷ []));
  follows = follows_then c.loop-name.invariant.follows c.find.ensures.follows;
  settled = c.in_ok-number.ensures.settled ∙ c.loop-name.invariant.settled;
  untaken = c.find.ensures.untaken ∙ c.loop-name.invariant.untaken;
  found = λ files holds.
      let files_hold = c.loop-name.invariant.follows.all_files ∙ holds in
      let stands_for_name = rw files_hold at c.in_ok-number.ensures.found in
      found_more _ _ c.loop-name.numbers.items c.push.new.self.items c.in_ok-number.number _ _ _ files stands_for_name c.in_ok-push.ensures.items
      (map_more (λ name. name.now) c.args.names.now c.loop-name.name-index _ (omega arith)) c.find.ensures.follows (c.loop-name.invariant.found files holds);
}

pub returns-clause-found : goal.returns-clause-found
returns-clause-found g c files holds =
    let all_names = take_all c.loop-name.name-index c.args.names.now (omega arith) in
    rw all_names at (c.loop-name.invariant.found files holds)
