use Rattle.std.proofs.Common.{subst}
use Rattle.visplanes.specs.Planes.{PlanesView, IsFirst}
use Rattle.visplanes.proofs.RecentLemmas.{recent-number}
use Rattle.visplanes.proofs.planes.Planes.recent_of.Goals as goal

pub returns-then-has_key-clause-value : goal.returns-then-has_key-clause-value
returns-then-has_key-clause-value c =
    let fields = c.self.inside in
    let view = c.args.self.now in
    let is_first : IsFirst view.planes fields.recent = subst (λ (t : PlanesView). IsFirst t.planes fields.recent) c.self.view_is c.self.invariant.3 in
    recent-number view.planes fields.recent c.args.key is_first (c.has_key.ensures.within c.if-has_key.true) (c.has_key.ensures.key c.if-has_key.true)

pub returns-then-has_key-2-clause-value : goal.returns-then-has_key-2-clause-value
returns-then-has_key-2-clause-value c =
    let fields = c.self.inside in
    let view = c.args.self.now in
    let is_first : IsFirst view.planes fields.older = subst (λ (t : PlanesView). IsFirst t.planes fields.older) c.self.view_is c.self.invariant.4 in
    recent-number view.planes fields.older c.args.key is_first (c.has_key-2.ensures.within c.if-has_key-2.true) (c.has_key-2.ensures.key c.if-has_key-2.true)
