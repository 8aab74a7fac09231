use Rattle.std.proofs.Common.{◌∙◌, ◌+◌, [], ◌∷◌, Some, Err, refl, sym, subst, ap, inl}
use Rattle.art_rules.specs.Words.{lump_bytes}
use Rattle.lump_cache.specs.Orders.{KeepsOrder}
use Rattle.zone_rules.proofs.OrderLemmas.{order_then}
use Rattle.lump_cache.specs.Caches.{IsUnpinned, composite_owner, lump_owner}
use Rattle.lump_cache.proofs.{FaithLemmas.bytes_in, RestButLemmas.rest_but_fewer}
use Rattle.lump_cache.proofs.FetchLemmas.{fetch_gap_except, fetch_no_room, fetch_rest_except, live_faithful, order_of_answer}
use Rattle.lump_cache.proofs.ReleaseLemmas.{release_faithful, release_order, release_others, release_rest_except}
use Rattle.texture_build.specs.Builds.{PutsPatches}
use Rattle.texture_build.proofs.FillLemmas.{building_same, others_kept, others_then, filled_counts, filled_rest, filled_faithful, filled_same, filled_building, filled_order, filled_bytes}
use Rattle.texture_build.proofs.BuildLemmas.{same_error, counts_then, patch_full}
use Rattle.texture_build.proofs.build.fetch_and_put.Goals as goal

-- the lump's slot is empty, and the composite stands
pub returns-in_err-fetch : goal.returns-in_err-fetch
returns-in_err-fetch g c = λ n at.
    let owner = composite_owner c.args.number in
    let lump_fetched = c.in_err-fetch.ensures in
    let fetches = lump_fetched.fetches in
    same_error c.from_residual.result c.in_err-fetch.field-0.0 (PutsPatches c.args.number c.args.texture.now n (n + 1) (g.S.Shelf.view c.args.shelf.now) (g.S.Shelf.view c.fetch.new.shelf) c.args.dir.now c.args.cache.now c.fetch.new.self) c.from_residual.ensures.1 (record {
      keeps = record {
        follows = fetches.follows;
        counts = lump_fetched.counts;
        rest = λ colormap count k. rest_but_fewer colormap count (owner ∷ []) c.fetch.new.self (lump_owner c.args.patch.now.lump) (λ h. subst IsUnpinned (sym fetches.empty) tt) (fetch_rest_except fetches colormap count (owner ∷ []) refl k);
        faithful = lump_fetched.faithful;
        others = others_kept c.args.number c.args.cache.now c.fetch.new.self (λ m apart. fetches.others (composite_owner m) refl);
        building = λ size b. building_same size (lump_fetched.pinned owner refl b.pinned) b;
      };
      answers = fetches.answers;
      causes = fetches.causes;
      full = patch_full c.args.dir.now.lumps c.args.number c.args.texture.now c.args.patch.now c.args.cache.now (Err c.in_err-fetch.field-0.0) c.requires.among (fetch_no_room fetches) (fetch_gap_except fetches);
      order = λ items all k. order_of_answer (KeepsOrder items c.args.cache.now c.fetch.new.self (g.S.Shelf.view c.args.shelf.now).taken (g.S.Shelf.view c.fetch.new.shelf).taken) (Err c.in_err-fetch.field-0.0) (lump_fetched.order items (all _ _ (c.args.patch.now, c.requires.among, refl, refl)) k);
      put = λ contents told has. tt;
    })

-- the patch was fetched, put and released
pub returns : goal.returns
returns g c = λ n at.
    let owner = composite_owner c.args.number in let old = c.args.cache.now in
    let lump_fetched = c.in_ok-fetch.ensures in
    let fetches = lump_fetched.fetches in
    let patch_put = c.put_live.ensures in
    let lump_released = c.release.ensures in
    let lump = lump_owner c.args.patch.now.lump in
    let put = c.put_live.new.cache in
    record {
      keeps = record {
        follows = fetches.follows;
        counts = counts_then old c.fetch.new.self c.release.new.self lump_fetched.counts (counts_then c.fetch.new.self c.put_live.new.cache c.release.new.self (filled_counts patch_put) lump_released.counts);
        rest = λ colormap count k. release_rest_except lump put lump_released.cache colormap count (owner ∷ []) (filled_rest patch_put colormap count (lump ∷ owner ∷ []) (fetch_rest_except fetches colormap count (owner ∷ []) refl k));
        faithful = λ contents stand k. release_faithful lump put lump_released.cache contents c.args.dir.now.lumps (filled_faithful patch_put contents c.args.dir.now.lumps (lump_fetched.faithful contents stand k));
        others = others_then (others_kept c.args.number old c.fetch.new.self (λ m apart. fetches.others (composite_owner m) refl))
            (others_then (others_kept c.args.number c.fetch.new.self c.put_live.new.cache (λ m apart. inl (filled_same patch_put (composite_owner m) apart)))
            (others_kept c.args.number c.put_live.new.cache c.release.new.self
            (λ m apart. inl (release_others lump put lump_released.cache (composite_owner m) refl))));
        building = λ size b. building_same size (release_others lump put lump_released.cache owner refl) (filled_building patch_put size (building_same size (lump_fetched.pinned owner refl b.pinned) b));
      };
      answers = fetches.answers;
      causes = record { ok = fetches.causes.ok; err = tt };
      full = tt;
      order = λ items all k.
          let fetch_in_order = lump_fetched.order items (all _ _ (c.args.patch.now, c.requires.among, refl, refl)) k in
          let put_in_order = filled_order patch_put items _ fetch_in_order.order in
          order_then fetch_in_order (order_then put_in_order (release_order lump put lump_released.cache items _ put_in_order.order));
      put = λ contents told has.
          let bytes = lump_bytes contents c.args.dir.now.lumps in
          let live = live_faithful contents c.args.dir.now c.fetch.new.self c.args.patch.now.lump c.requires.there (lump_fetched.faithful contents told.stand told.faithful) lump_fetched.live in
          ap bytes_in (release_others lump put lump_released.cache owner refl) ∙ filled_bytes patch_put ∙ ap Some (patch_put.says.put bytes n at live (ap bytes_in (lump_fetched.pinned owner refl c.requires.building.pinned) ∙ has));
    }
