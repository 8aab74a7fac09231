use Rattle.zone_rules.specs.Zones.{owner_at}
use Rattle.lump_cache.specs.Caches.{composite_owner}
use Rattle.lump_cache.proofs.FillLemmas.{called_sound}
use Rattle.lump_cache.proofs.WriteLemmas.{write_live, write_through}
use Rattle.lump_cache.proofs.cache.LumpCache.lump_and_composite.Goals as goal

pub invariant_of-self : goal.invariant_of-self
invariant_of-self g c = let call = c.pair.ensures.called in called_sound (owner_at 1 c.composite_slot.result.number) call.w call.y c.self.inside.zone c.pair.new.self call.y_is call.len call.zone c.self.invariant

pub returns-clause-live : goal.returns-clause-live
returns-clause-live g c = write_live _ _ c.args.self.now (write_through _ _ _ _ _ _ c.pair.ensures.called.zone c.composite_slot.ensures c.self.view_is) (composite_owner c.args.number) c.requires.live
