use Rattle.zone_rules.proofs.Common.{◌≡◌, false, Option, subst, IfSome}
use Rattle.lump_cache.specs.{Rules.LumpNo, Rules.same_owner, Caches.lump_owner}
use Rattle.lump_cache.proofs.fetch.live_bytes.Goals as goal

-- the clause of `bytes`, for the lump that there is
pub returns-in-Some-clause-fits : goal.returns-in-Some-clause-fits
returns-in-Some-clause-fits c = λ colormap count static apart.
    c.bytes.ensures.fits colormap count static (subst (λ (lump : Option LumpNo). IfSome lump (λ l. same_owner (lump_owner colormap) (lump_owner l.0) ≡ false)) c.in-Some.is apart)
