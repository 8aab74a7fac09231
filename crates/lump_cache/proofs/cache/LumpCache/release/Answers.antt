use Rattle.std.proofs.Common.{◌∙◌, ap}
use Rattle.zone_rules.specs.Zones.{owner_at}
use Rattle.lump_cache.specs.Caches.{release_heap, lump_owner}
use Rattle.lump_cache.proofs.ReleaseLemmas.{release_counts}
use Rattle.lump_cache.proofs.cache.LumpCache.release.Goals as goal

pub returns-clause-counts : goal.returns-clause-counts
returns-clause-counts c =
    release_counts (lump_owner c.args.lump.0) c.args.self.now (c.release_block.ensures.zone ∙ ap (λ n. release_heap (owner_at 0 n) c.self.inside.zone) c.lump_slot.ensures ∙ ap (release_heap (lump_owner c.args.lump.0)) c.self.view_is)
