use Rattle.std.proofs.Common.{sym, subst, refl}
use Rattle.lump_cache.specs.Caches.{composite_owner}
use Rattle.lump_cache.proofs.DropLemmas.{drop_faithful, drop_others, drop_rest_except}
use Rattle.lump_cache.proofs.ReleaseLemmas.{release_faithful, release_order, release_others, release_rest_except}
use Rattle.texture_build.specs.Builds.{EndsComposite}
use Rattle.texture_build.proofs.build.end_composite.Goals as goal

-- what was built is released
pub returns-in-Ok : goal.returns-in-Ok
returns-in-Ok c =
    let owner = composite_owner c.args.number in let old = c.args.cache.now in
    let composite_released = c.release_composite.ensures in
    subst (EndsComposite c.args.number old c.release_composite.new.self) (sym c.in-Ok.is) (record {
      released = composite_released.cache;
      empty = tt;
      others = release_others owner old composite_released.cache;
      counts = composite_released.counts;
      faithful = release_faithful owner old composite_released.cache;
      rest = release_rest_except owner old composite_released.cache;
      order = release_order owner old composite_released.cache;
    })

-- and after a fault its block is freed
pub returns-in-Err : goal.returns-in-Err
returns-in-Err c =
    let owner = composite_owner c.args.number in let old = c.args.cache.now in
    let composite_dropped = c.drop_composite.ensures in
    subst (EndsComposite c.args.number old c.drop_composite.new.self) (sym c.in-Err.is) (record {
      released = tt;
      empty = composite_dropped.empty;
      others = drop_others owner old composite_dropped.freed;
      counts = composite_dropped.counts;
      faithful = drop_faithful owner old composite_dropped.freed (λ n. refl);
      rest = drop_rest_except owner old composite_dropped.freed (λ n. refl);
      order = tt;
    })
