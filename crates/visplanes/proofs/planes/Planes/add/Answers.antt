use Rattle.picture_rules.proofs.Common.{ap, arith, length, length-set, ◌∙◌}
use Rattle.picture_rules.specs.Words.{Plane}
use Rattle.visplanes.proofs.ListLemmas.{wide-put, length-empty_plane}
use Rattle.visplanes.proofs.RecentLemmas.{first-put_next}
use Rattle.visplanes.proofs.planes.Planes.add.Goals as goal

pub invariant_of-self : goal.invariant_of-self
invariant_of-self c =
    let fields = c.self.inside in
    let items = fields.planes.items in (
      omega (arith, length-set {A = Plane}),
      omega (arith, length-set {A = Plane}),
      wide-put items fields.count c.reset.new.self (ap (λ (p : Plane). length p.runs) c.reset.ensures ∙ length-empty_plane c.args.key) c.self.invariant.2,
      first-put_next items fields.count fields.recent c.reset.new.self (omega arith) c.self.invariant.3,
      first-put_next items fields.count fields.older c.reset.new.self (omega arith) c.self.invariant.4,
    )
