use Rattle.picture_rules.proofs.Common.{ap, arith, false≢true, length, subst, sym, ◌<◌}
use Rattle.picture_rules.specs.Words.{PlaneChoice}
use Rattle.visplanes.specs.{Full.ChoosesPlane, Planes.with_planes}
use Rattle.picture_rules.proofs.plane.PlaneLemmas.{find-some, find-none, find-within}
use Rattle.visplanes.proofs.planes.Planes.search_or_add.Goals as goal

pub returns-in-Some : goal.returns-in-Some
returns-in-Some c =
    let view = c.args.self.now in
    let choice_is = find-some view.planes c.args.key c.in-Some.number (sym c.in-Some.ensures.value) in
    record {
      ok = sym (ap (λ (ch : PlaneChoice). with_planes ch.planes view) choice_is);
      number = sym (ap (λ (ch : PlaneChoice). ch.number) choice_is);
      within = subst (λ (ch : PlaneChoice). ch.number < length ch.planes) choice_is (find-within view.planes c.args.key);
      full = (λ e. absurd (false≢true e), λ l. absurd (omega (arith, ap (λ (ch : PlaneChoice). length ch.planes) choice_is, c.in-Some.ensures.room)));
      refused = (tt, tt);
    }

pub returns-in-None : goal.returns-in-None
returns-in-None c =
    subst (λ (ch : PlaneChoice). ChoosesPlane ch c.args.self.now c.add.new.self c.add.result)
    (sym (find-none c.args.self.now.planes c.args.key (sym c.in-None.ensures.value))) c.add.ensures
