use Rattle.art_rules.proofs.Common.{[], ap, false≢true, inl, MatchResult, refl, replicate, Result, Some, ℕ, ◌∙◌, ◌∷◌}
use Rattle.lump_cache.specs.{Zones.owned_block, Caches.composite_owner}
use Rattle.zone_rules.proofs.OrderLemmas.{order_then}
use Rattle.lump_cache.proofs.RestButLemmas.{rest_but_none}
use Rattle.lump_cache.proofs.TakeLemmas.{take_block, take_faithful, take_order, take_others, take_gap, take_rest, take_rest_except}
use Rattle.texture_build.specs.Builds.{StartsComposite, FailsToBegin}
use Rattle.texture_build.proofs.FillLemmas.{building_taken, taken_length, others_kept, others_then, filled_counts, filled_rest, filled_faithful, filled_same, filled_building, filled_order, filled_bytes}
use Rattle.texture_build.proofs.BuildLemmas.{same_error, counts_then, narrow_where}
use Rattle.texture_build.proofs.build.begin_composite.Goals as goal

pub returns-in_err-take_composite : goal.returns-in_err-take_composite
returns-in_err-take_composite c =
    let old = c.args.cache.now in
    let new = c.take_composite.new.self in
    let composite_taken = c.in_err-take_composite.ensures in
    let requests = composite_taken.requests in
    same_error c.from_residual.result c.in_err-take_composite.field-0.0 (λ (answer : Result _ _). MatchResult answer (λ _. StartsComposite c.args.number c.args.size old new) (λ e. FailsToBegin c.args.number c.args.size old new e.wanted e.widest)) c.from_residual.ensures.1 (record {
      counts = composite_taken.counts;
      rest = take_rest requests (λ n. refl);
      faithful = take_faithful requests (λ n. refl);
      others = others_kept c.args.number old new (λ n apart. take_others requests (composite_owner n) apart);
      empty = requests.empty;
      wanted_is = requests.report.wanted_is;
      narrow = narrow_where c.args.size old _ _ requests.report;
      gap = take_gap requests;
      order = λ items all k. absurd (false≢true (take_order requests items 0 all k).0);
    })

pub returns : goal.returns
returns c =
    let owner = composite_owner c.args.number in let old = c.args.cache.now in
    let taken = c.take_composite.new.self in
    let new = c.clear_composite.new.cache in
    let composite_taken = c.in_ok-take_composite.ensures in
    let requests = composite_taken.requests in
    let block = take_block requests in
    let composite_cleared = c.clear_composite.ensures in
    record {
      counts = counts_then old taken new composite_taken.counts (filled_counts composite_cleared);
      rest = λ colormap count k. filled_rest composite_cleared colormap count (owner ∷ []) (take_rest_except requests (λ n. refl) refl colormap count [] (rest_but_none colormap count old k));
      faithful = λ contents lumps k. filled_faithful composite_cleared contents lumps (take_faithful requests (λ n. refl) contents lumps k);
      others = others_then (others_kept c.args.number old taken (λ n apart. take_others requests (composite_owner n) apart)) (others_kept c.args.number taken new (λ n apart. inl (filled_same composite_cleared (composite_owner n) apart)));
      building = filled_building composite_cleared c.args.size (building_taken c.args.number c.args.size taken block);
      zeros = filled_bytes composite_cleared ∙ ap Some (composite_cleared.says ∙ ap (λ (n : ℕ). replicate n 0) (composite_cleared.len ∙ taken_length c.args.size (owned_block owner taken.blocks) composite_cleared.before block composite_cleared.before_is));
      order = λ items taken' all k. let order_kept = (take_order requests items taken' all k).1 in
          order_then order_kept (filled_order composite_cleared items taken' order_kept.order);
    }
