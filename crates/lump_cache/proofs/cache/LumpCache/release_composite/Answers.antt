use Rattle.std.proofs.Common.{◌∙◌, ap}
use Rattle.zone_rules.specs.Zones.{owner_at}
use Rattle.lump_cache.specs.Caches.{release_heap, composite_owner}
use Rattle.lump_cache.proofs.ReleaseLemmas.{release_counts}
use Rattle.lump_cache.proofs.cache.LumpCache.release_composite.Goals as goal

pub returns-clause-counts : goal.returns-clause-counts
returns-clause-counts c =
    release_counts (composite_owner c.args.number) c.args.self.now (c.release_block.ensures.zone ∙ ap (λ n. release_heap (owner_at 1 n) c.self.inside.zone) c.composite_slot.ensures ∙ ap (release_heap (composite_owner c.args.number)) c.self.view_is)
