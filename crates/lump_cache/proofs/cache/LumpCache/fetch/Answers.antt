use Rattle.std.proofs.Common.{◌≡◌, subst}
use Rattle.zone_rules.specs.Zones.{Heap, IsLive}
use Rattle.lump_cache.specs.{Caches.lump_owner, Fetches.FetchesLump}
use Rattle.lump_cache.proofs.FetchLemmas.{fetch_counts, fetch_faithful, fetch_live, fetch_order, fetch_pinned, fetch_rest}
use Rattle.lump_cache.proofs.cache.LumpCache.fetch.Goals as goal

pub returns : goal.returns
returns g c =
    let fetches_lump = subst (λ (z : Heap). FetchesLump c.args.dir.now c.args.lump.0 c.args.tag (g.S.Shelf.view c.args.shelf.now) (g.S.Shelf.view c.fetch_lump.new.shelf) z c.fetch_lump.new.zone c.fetch_lump.result) c.self.view_is c.fetch_lump.ensures.fetches in
    record {
      fetches = fetches_lump;
      hit = subst (λ (z : Heap). IsLive z (lump_owner c.args.lump.0) → c.fetch_lump.new.shelf ≡ c.args.shelf.now) c.self.view_is c.fetch_lump.ensures.hit;
      untouched = c.fetch_lump.ensures.untouched;
      live = fetch_live fetches_lump;
      pinned = fetch_pinned fetches_lump;
      counts = fetch_counts fetches_lump;
      faithful = fetch_faithful fetches_lump;
      rest = fetch_rest fetches_lump;
      order = fetch_order fetches_lump;
    }
