use Rattle.picture_rules.proofs.Common.{ap, arith, false≢true, length, subst, sym, ◌<◌}
use Rattle.picture_rules.specs.Words.{PlaneChoice}
use Rattle.picture_rules.proofs.plane.PlaneLemmas.{find-some, find-within}
use Rattle.visplanes.specs.Planes.{PlanesView, with_planes}
use Rattle.visplanes.proofs.RecentLemmas.{first-find}
use Rattle.visplanes.proofs.planes.Planes.find.Goals as goal

pub returns-in-Some-clause-ok : goal.returns-in-Some-clause-ok
returns-in-Some-clause-ok c =
    sym (ap (λ (ch : PlaneChoice). with_planes ch.planes c.args.self.now) (find-some c.args.self.now.planes c.args.key c.in-Some.number c.in-Some.ensures.value))

pub returns-in-Some-clause-number : goal.returns-in-Some-clause-number
returns-in-Some-clause-number c =
    sym (ap (λ (ch : PlaneChoice). ch.number) (find-some c.args.self.now.planes c.args.key c.in-Some.number c.in-Some.ensures.value))

pub returns-in-Some-clause-within : goal.returns-in-Some-clause-within
returns-in-Some-clause-within c =
    subst (λ (ch : PlaneChoice). ch.number < length ch.planes) (find-some c.args.self.now.planes c.args.key c.in-Some.number c.in-Some.ensures.value)
    (find-within c.args.self.now.planes c.args.key)

pub returns-in-Some-clause-full : goal.returns-in-Some-clause-full
returns-in-Some-clause-full c = (
  λ e. absurd (false≢true e),
  λ l. absurd (omega (arith, ap (λ (ch : PlaneChoice). length ch.planes) (find-some c.args.self.now.planes c.args.key c.in-Some.number c.in-Some.ensures.value), c.in-Some.ensures.room)),
)

pub remember-requires : goal.remember-requires
remember-requires c =
    let plane_found = c.in_ok-plane.ensures in
    rw (ap (λ (t : PlanesView). t.planes) plane_found.ok, plane_found.number) (first-find c.args.self.now.planes c.args.key)
