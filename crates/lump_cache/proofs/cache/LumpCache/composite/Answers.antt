use Rattle.zone_rules.proofs.Common.{◌∙◌, ap₂, subst, refl, option_copied}
use Rattle.zone_rules.specs.Zones.{Heap, IsSound, owner_at, bytes_of}
use Rattle.lump_cache.specs.Caches.{composite_owner}
use Rattle.lump_cache.proofs.{FitLemmas.lent_fits, StaticLemmas.rest_static}
use Rattle.lump_cache.proofs.cache.LumpCache.composite.Goals as goal

pub returns-clause-fits : goal.returns-clause-fits
returns-clause-fits c = λ colormap count rest.
    lent_fits c.args.self.now (subst IsSound c.self.view_is c.self.invariant) (composite_owner c.args.number) (option_copied c.bytes.result)
    (c.bytes.ensures ∙ ap₂ (λ n (z : Heap). bytes_of (owner_at 1 n) z.blocks) c.composite_slot.ensures c.self.view_is) colormap count (rest_static rest) refl
