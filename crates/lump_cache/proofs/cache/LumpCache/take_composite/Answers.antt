use Rattle.zone_rules.proofs.Common.{◌≡◌, ◌<◌, ◌∙◌, ap, subst, refl, ℕ, Result, Ok, Err, None, All, IfErr, IsErr, OnErr, OnOk}
use Rattle.lump_cache.specs.Rules.{Heap, Level, TakesBlock, block_size, gaps, owned_block, owner_at, same_owner, total, widest}
use Rattle.zone_heap.specs.declared.zone.ZoneFull.{ZoneFull}
use Rattle.lump_cache.specs.{Caches.NoRoom, Caches.composite_owner, Fetches.RequestsBlock}
use Rattle.lump_cache.proofs.TakeLemmas.{take_counts, take_live}
use Rattle.lump_cache.proofs.cache.LumpCache.take_composite.Goals as goal
use Rattle.lump_cache.proofs.cache.LumpCache.take_composite.Goals.{After-malloc}

-- what an answer that the zone is full reports
reported : (size : ℕ) (z : Heap) (r : Result (Unit {0}) ZoneFull) → (IsErr r → All (λ g. total g < block_size size) (gaps z.blocks)) → IfErr r (λ e. (e.wanted ≡ block_size size) × (e.widest ≡ widest (gaps z.blocks))) → IfErr r (λ e. NoRoom size z e.wanted e.widest)
reported size z (Ok done) full report = tt
reported size z (Err e) full report = record { wanted_is = report.0; widest_is = report.1; none = full refl }

requests : (c : After-malloc) → RequestsBlock (composite_owner c.args.number) c.args.size Level c.self.inside.zone c.malloc.new.self c.malloc.result
requests c =
    let malloc_ensures = c.malloc.ensures in
    let old_zone = c.self.inside.zone in
    let new = c.malloc.new.self in
    let slot = c.composite_slot.ensures in
    record {
      sound = c.self.invariant;
      vacant = rw c.self.view_is c.requires.empty;
      full = malloc_ensures.full;
      ok = subst (λ n. OnOk c.malloc.result (TakesBlock old_zone new (owner_at 1 n) c.args.size Level)) slot malloc_ensures.ok;
      report = reported c.args.size old_zone c.malloc.result malloc_ensures.full.0 malloc_ensures.report;
      err = malloc_ensures.err;
      empty = subst (λ n. OnErr c.malloc.result (owned_block (owner_at 1 n) new.blocks ≡ None)) slot malloc_ensures.empty;
      others = λ o apart. malloc_ensures.others o (ap (λ n. same_owner (owner_at 1 n) o) slot ∙ apart);
    }

-- the same of the cache
seen : (c : After-malloc) → RequestsBlock (composite_owner c.args.number) c.args.size Level c.args.self.now c.malloc.new.self c.malloc.result
seen c = subst (λ (z : Heap). RequestsBlock (composite_owner c.args.number) c.args.size Level z c.malloc.new.self c.malloc.result) c.self.view_is (requests c)

pub returns-clause-requests : goal.returns-clause-requests
returns-clause-requests c = seen (goal.at.returns-clause-requests c).After-malloc

pub returns-clause-live : goal.returns-clause-live
returns-clause-live c = take_live (seen (goal.at.returns-clause-live c).After-malloc)

pub returns-clause-counts : goal.returns-clause-counts
returns-clause-counts c = take_counts (seen (goal.at.returns-clause-counts c).After-malloc)
