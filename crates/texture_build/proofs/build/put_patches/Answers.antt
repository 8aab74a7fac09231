use Rattle.art_rules.proofs.Common.{ap, get_or, length, List, pos, slice_get-get_or, Some, subst, sym, ◌+◌, ◌<◌, ◌∙◌}
use Rattle.art_rules.specs.declared.PlacedPatch.{PlacedPatch}
use Rattle.texture_build.specs.{Builds.PutsPatches, Asked.size_of}
use Rattle.texture_build.proofs.BuildLemmas.{same_error, puts_then, puts_stop}
use Rattle.texture_build.proofs.build.put_patches.Given.{Over}
use Rattle.texture_build.proofs.build.put_patches.Goals as goal
use Rattle.texture_build.proofs.build.put_patches.Goals.{After-fetch_and_put}

abbrev no_patch : PlacedPatch
no_patch = record { lump = 0; x = pos 0; y = pos 0; width = 0 }

-- what was done at this patch
step : (g : Over) (c : After-fetch_and_put g) → PutsPatches c.args.number c.args.texture.now c.loop-patch.patch-index (c.loop-patch.patch-index + 1) (g.S.Shelf.view c.loop-patch.shelf) (g.S.Shelf.view c.fetch_and_put.new.shelf) c.args.dir.now c.loop-patch.cache c.fetch_and_put.new.cache c.fetch_and_put.result
step g c =
    let patch_index = c.loop-patch.patch-index in
    let items = c.patches-patch-items.ensures in
    c.fetch_and_put.ensures patch_index (slice_get-get_or c.args.texture.now.patches patch_index no_patch (subst (λ (xs : List PlacedPatch). patch_index < length xs) items c.loop-patch-test.true) ∙ ap (λ (xs : List PlacedPatch). Some (get_or xs patch_index no_patch)) (sym items))

pub fetch_and_put-requires-clause-building : goal.fetch_and_put-requires-clause-building
fetch_and_put-requires-clause-building g c = c.loop-patch.invariant.keeps.building (size_of c.args.texture.now) c.requires.building

pub returns-in_err-fetch_and_put : goal.returns-in_err-fetch_and_put
returns-in_err-fetch_and_put g c =
    let patch_count = length c.args.texture.now.patches in
    let patch_index = c.loop-patch.patch-index in
    same_error c.from_residual.result c.in_err-fetch_and_put.field-0.0 (PutsPatches c.args.number c.args.texture.now 0 patch_count (g.S.Shelf.view c.args.shelf.now) (g.S.Shelf.view c.fetch_and_put.new.shelf) c.args.dir.now c.args.cache.now c.fetch_and_put.new.cache) c.from_residual.ensures.1
    (puts_stop patch_count (puts_then c.loop-patch.invariant (subst (PutsPatches c.args.number c.args.texture.now patch_index (patch_index + 1) (g.S.Shelf.view c.loop-patch.shelf) (g.S.Shelf.view c.fetch_and_put.new.shelf) c.args.dir.now c.loop-patch.cache c.fetch_and_put.new.cache) c.in_err-fetch_and_put.was (step g (goal.at.returns-in_err-fetch_and_put g c).After-fetch_and_put))))

pub loop-patch-preserved : goal.loop-patch-preserved
loop-patch-preserved g c = puts_then c.loop-patch.invariant (subst (PutsPatches c.args.number c.args.texture.now c.loop-patch.patch-index (c.loop-patch.patch-index + 1) (g.S.Shelf.view c.loop-patch.shelf) (g.S.Shelf.view c.fetch_and_put.new.shelf) c.args.dir.now c.loop-patch.cache c.fetch_and_put.new.cache) c.in_ok-fetch_and_put.was (step g (goal.at.loop-patch-preserved g c).After-fetch_and_put))
