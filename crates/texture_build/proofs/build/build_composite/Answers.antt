use Rattle.art_rules.proofs.Common.{[], ap, Err, err_from_is_err_and, inl, inr, refl, subst, ℕ, ◌∙◌, ◌≡◌}
use Rattle.art_rules.proofs.Laws.{follows_none}
use Rattle.art_rules.specs.Words.{lump_bytes}
use Rattle.lump_cache.specs.{Zones.owned_block, declared.fault.CacheFault.TheVariants.ZoneFull}
use Rattle.lump_cache.specs.{Caches.composite_owner, Calls.HoldContents}
use Rattle.lump_cache.proofs.{FillLemmas.on_err, RestButLemmas.rest_of_none}
use Rattle.texture_build.specs.Asked.{size_of}
use Rattle.texture_build.specs.Builds.{StartsComposite, FailsToBegin, OthersKeep}
use Rattle.texture_build.specs.Composites.{composite_of}
use Rattle.texture_build.proofs.FillLemmas.{building_live, others_kept, others_then}
use Rattle.texture_build.proofs.BuildLemmas.{counts_then}
use Rattle.texture_build.proofs.EndLemmas.{built_none, ends_live, ends_built, ends_order, composite_full, ends_full}
use Rattle.texture_build.proofs.ReadyLemmas.{composites_built, built_here}
use Rattle.texture_build.proofs.build.build_composite.Given.{Over}
use Rattle.texture_build.proofs.build.build_composite.Goals as goal
use Rattle.texture_build.proofs.build.build_composite.Goals.{In_ok-begin_composite}

begins : (g : Over) (c : In_ok-begin_composite g) → StartsComposite c.args.number (size_of c.args.texture.now) c.args.cache.now c.begin_composite.new.cache
begins g c = subst (λ n. StartsComposite c.args.number n c.args.cache.now c.begin_composite.new.cache) c.size.ensures.value c.in_ok-begin_composite.ensures

pub returns-in_err-begin_composite : goal.returns-in_err-begin_composite
returns-in_err-begin_composite g c = λ place.
    let error_is = err_from_is_err_and c.from_residual.result c.from_residual.ensures.1 in
    let fails : FailsToBegin c.args.number (size_of c.args.texture.now) c.args.cache.now c.begin_composite.new.cache c.in_err-begin_composite.field-0.0.wanted c.in_err-begin_composite.field-0.0.widest =
    subst (λ n. FailsToBegin c.args.number n c.args.cache.now c.begin_composite.new.cache c.in_err-begin_composite.field-0.0.wanted c.in_err-begin_composite.field-0.0.widest) c.size.ensures.value c.in_err-begin_composite.ensures in
    let result_is : c.from_residual.result ≡ Err (ZoneFull c.in_err-begin_composite.field-0.0.wanted c.in_err-begin_composite.field-0.0.widest) =
    error_is.1 ∙ ap Err error_is.2 in
    record {
      answers = λ contents stand within. rw result_is (record { ok = tt; err = tt });
      live = rw result_is tt;
      follows = follows_none (g.S.Shelf.view c.args.shelf.now);
      causes = rw result_is (record { ok = tt; err = refl });
      counts = fails.counts;
      rest = fails.rest;
      faithful = λ contents stand k. fails.faithful contents c.args.dir.now.lumps k;
      composites = λ contents textures is told k.
          let bytes = lump_bytes contents c.args.dir.now.lumps in
          composites_built bytes textures c.args.cache.now c.begin_composite.new.cache c.args.number c.args.texture.now is fails.others (built_here {A = ℕ} {E = ℕ} (Err 0) (owned_block (composite_owner c.args.number) c.begin_composite.new.cache.blocks) (composite_of bytes c.args.texture.now) tt fails.empty) k;
      empty = rw result_is (λ composed. fails.empty);
      full = rw result_is (composite_full c.args.dir.now.lumps c.args.number c.args.texture.now place c.args.cache.now c.begin_composite.new.cache _ _ fails);
      order = λ items all k. absurd (fails.order items (all (composite_owner c.args.number) (size_of c.args.texture.now) (inl (refl, refl))) k);
    }

pub end_composite-requires-clause-live : goal.end_composite-requires-clause-live
end_composite-requires-clause-live g c = building_live (c.put_patches-built.ensures.keeps.building (size_of c.args.texture.now) (begins g (goal.at.end_composite-requires-clause-live g c).In_ok-begin_composite).building)

pub returns : goal.returns
returns g c = λ place.
    let owner = composite_owner c.args.number in let texture = c.args.texture.now in
    let old = c.args.cache.now in let cache_begun = c.begin_composite.new.cache in
    let put = c.put_patches-built.new.cache in let new = c.end_composite.new.cache in
    let built_result = c.put_patches-built.result in
    let taken_before = (g.S.Shelf.view c.args.shelf.now).taken in let taken_after = (g.S.Shelf.view c.put_patches-built.new.shelf).taken in
    let has_begun = begins g (goal.at.returns g c).In_ok-begin_composite in
    let patches_put = c.put_patches-built.ensures in let has_ended = c.end_composite.ensures in
    let others : OthersKeep c.args.number old new = others_then has_begun.others (others_then patches_put.keeps.others (others_kept c.args.number put new (λ n apart. inl (has_ended.others (composite_owner n) apart)))) in
    record {
      answers = patches_put.answers;
      live = ends_live c.args.number put new built_result (building_live (patches_put.keeps.building (size_of texture) has_begun.building)) has_ended.released;
      follows = patches_put.keeps.follows;
      causes = patches_put.causes;
      counts = counts_then old cache_begun new has_begun.counts (counts_then cache_begun put new patches_put.keeps.counts has_ended.counts);
      rest = λ colormap count k. rest_of_none colormap count new
          (has_ended.rest colormap count [] (patches_put.keeps.rest colormap count (has_begun.rest colormap count k)));
      faithful = λ contents stand k. has_ended.faithful contents c.args.dir.now.lumps
          (patches_put.keeps.faithful contents stand (has_begun.faithful contents c.args.dir.now.lumps k));
      composites = λ contents textures is told k.
          let bytes = lump_bytes contents c.args.dir.now.lumps in
          let contents_hold : HoldContents (g.S.Shelf.view c.args.shelf.now) c.args.dir.now cache_begun contents = record { stand = told.stand; within = told.within; faithful = has_begun.faithful contents c.args.dir.now.lumps told.faithful } in
          let whole = ends_built c.args.number put new built_result bytes texture
          (patches_put.put contents contents_hold (built_none bytes c.args.number texture cache_begun has_begun.zeros)) has_ended.released in
          composites_built bytes textures old new c.args.number texture is others (built_here built_result (owned_block owner new.blocks) (composite_of bytes texture) whole has_ended.empty) k;
      empty = on_err built_result (λ none composed. none) has_ended.empty;
      full = ends_full c.args.dir.now.lumps c.args.number texture place old cache_begun built_result has_begun patches_put.full;
      order = λ items all k.
          let order_kept = has_begun.order items taken_before (all owner (size_of texture) (inl (refl, refl))) k in
          ends_order items old cache_begun put new taken_before taken_after built_result order_kept
          (patches_put.order items (λ owner size is. all owner size (inr is)) order_kept.order) has_ended.order;
    }
