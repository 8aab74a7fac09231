use Rattle.zone_rules.proofs.Common.{◌∙◌, ap₂, subst, option_copied}
use Rattle.zone_rules.specs.Zones.{Heap, IsSound, owner_at, bytes_of}
use Rattle.lump_cache.specs.Caches.{lump_owner}
use Rattle.lump_cache.proofs.FitLemmas.{lent_fits}
use Rattle.lump_cache.proofs.cache.LumpCache.bytes.Goals as goal

pub returns-clause-fits : goal.returns-clause-fits
returns-clause-fits c =
    lent_fits c.args.self.now (subst IsSound c.self.view_is c.self.invariant) (lump_owner c.args.lump.0) (option_copied c.bytes.result)
    (c.bytes.ensures ∙ ap₂ (λ n (z : Heap). bytes_of (owner_at 0 n) z.blocks) c.lump_slot.ensures c.self.view_is)
