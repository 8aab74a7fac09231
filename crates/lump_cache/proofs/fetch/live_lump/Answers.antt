use Rattle.zone_rules.proofs.Common.{◌≤◌, ◌+◌, List, ℕ, length, Option, Bor, subst, IfSome, option_copied}
use Rattle.zone_rules.specs.Zones.{block_size}
use Rattle.lump_cache.proofs.fetch.live_lump.Goals as goal

pub returns-clause-fits : goal.returns-clause-fits
returns-clause-fits c = λ colormap count static apart.
    subst (λ (r : Option (Bor (List ℕ))). IfSome (option_copied r) (λ bytes. block_size count + block_size (length bytes) ≤ c.args.cache.now.size)) c.unwrap.ensures (c.bytes.ensures.fits colormap count static apart)
