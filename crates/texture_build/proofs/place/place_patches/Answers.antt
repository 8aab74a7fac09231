use Rattle.art_rules.proofs.Common.{[], All, All-nil, All-push, ap, arith, Contains-get_or, get_or, length, List, Ok, option_map, pos, refl, subst, sym, take, ℕ, ◌++◌, ◌+◌, ◌<◌, ◌∙◌, ◌∷◌}
use Rattle.texture_build.specs.Rules.{ColumnLookup, OutOfMemory, PlacedPatch, TextureEntry, last_of, placed_patches}
use Rattle.lump_cache.proofs.CallLemmas.{reads_known, reads_more, reads_stop, reads_same, reads_short}
use Rattle.patch_columns.specs.Seen.{AreSeen}
use Rattle.patch_columns.proofs.AnyBytesLemmas.{seen_all}
use Rattle.texture_build.specs.Parts.{IsEntryPatch, PatchesPart, or_missing, patches_part}
use Rattle.texture_build.proofs.PlaceLemmas.{part_none, part_push, part_stop}
use Rattle.texture_build.proofs.place.place_patches.Goals as goal

abbrev no_entry : TextureEntry
no_entry = record { x = pos 0; y = pos 0; number = 0 }

abbrev part : List PlacedPatch → List ColumnLookup → PatchesPart
part patches columns = record { patches = patches; columns = columns }

pub loop-entry-init : goal.loop-entry-init
loop-entry-init g c = record {
  tells = reads_known (g.S.Shelf.view c.args.shelf.now) c.args.dir.now c.args.cache.now tt
      (λ contents told. part_none (last_of c.args.dir.now.lumps) _ c.args.lists.now.names c.args.tex.0 (length c.args.columns.now) c.args.columns.now (c.requires.empty _) ∙ ap (λ xs. Ok (part xs c.args.columns.now)) (sym c.requires.none));
  seen = subst (λ xs. AreSeen xs c.args.columns.now) (sym c.requires.none) (seen_all (λ _. []) [] c.args.columns.now (c.requires.empty (λ _. [])));
  there = subst (All (λ (patch : PlacedPatch). patch.lump < length c.args.dir.now.lumps)) (sym c.requires.none) (All-nil _);
}

pub loop-entry-preserved : goal.loop-entry-preserved
loop-entry-preserved g c =
    let entries = c.args.entries.now in
    let entry_index = c.loop-entry.entry-index in
    let index_in_entries : entry_index < length entries = omega arith in
    let so_far = c.loop-entry.invariant in
    let patches = c.loop-entry.patches.items in
    let new_patch = c.in_ok-patch.patch in
    record {
      tells = reads_more (λ bytes. or_missing c.args.tex.0 (option_map (patches_part bytes (length c.args.columns.now)) (placed_patches (last_of c.args.dir.now.lumps) bytes c.args.lists.now.names (take (entry_index + 1) entries)))) new_patch tt
          so_far.tells c.place_entry.result c.place_entry.ensures.tells c.in_ok-patch.was
          (λ lump is. record { entry = get_or entries entry_index no_entry; among = Contains-get_or entries entry_index no_entry index_in_entries; is = is })
          (λ bytes one two. part_push (last_of c.args.dir.now.lumps) bytes c.args.lists.now.names c.args.tex.0 (length c.args.columns.now) entries entry_index no_entry patches c.loop-entry.columns c.place_entry.new.columns new_patch index_in_entries one two
          ∙ ap (λ xs. Ok (part xs c.place_entry.new.columns)) (sym c.in_ok-push.ensures.items));
      seen = subst (λ xs. AreSeen xs c.place_entry.new.columns) (sym c.in_ok-push.ensures.items) (c.in_ok-patch.ensures.seen patches so_far.seen);
      there = subst (All (λ (patch : PlacedPatch). patch.lump < length c.args.dir.now.lumps)) (sym c.in_ok-push.ensures.items) (All-push (λ (patch : PlacedPatch). patch.lump < length c.args.dir.now.lumps) patches new_patch so_far.there c.in_ok-patch.ensures.there);
    }

pub returns-in_err-patch-clause-tells : goal.returns-in_err-patch-clause-tells
returns-in_err-patch-clause-tells g c =
    let entries = c.args.entries.now in
    let entry_index = c.loop-entry.entry-index in
    let index_in_entries : entry_index < length entries = omega arith in
    let expected = λ (bytes : ℕ → List ℕ). or_missing c.args.tex.0 (option_map (patches_part bytes (length c.args.columns.now)) (placed_patches (last_of c.args.dir.now.lumps) bytes c.args.lists.now.names entries)) in
    reads_same c.from_residual.result c.in_err-patch.field-0.0 expected c.from_residual.ensures.1
    (reads_stop expected c.in_err-patch.field-0.0 c.loop-entry.invariant.tells c.place_entry.result c.place_entry.ensures.tells c.in_err-patch.was
    (λ lump is. record { entry = get_or entries entry_index no_entry; among = Contains-get_or entries entry_index no_entry index_in_entries; is = is })
    (λ bytes e one two. part_stop (last_of c.args.dir.now.lumps) bytes c.args.lists.now.names c.args.tex.0 (length c.args.columns.now) entries entry_index no_entry _ c.loop-entry.columns e index_in_entries one two))

pub returns-in_err-push-clause-tells : goal.returns-in_err-push-clause-tells
returns-in_err-push-clause-tells g c =
    let entries = c.args.entries.now in let entry_index = c.loop-entry.entry-index in
    let index_in_entries : entry_index < length entries = omega arith in
    let new_patch = c.in_ok-patch.patch in
    let expected = λ (bytes : ℕ → List ℕ). or_missing c.args.tex.0 (option_map (patches_part bytes (length c.args.columns.now)) (placed_patches (last_of c.args.dir.now.lumps) bytes c.args.lists.now.names entries)) in
    let value : Unit {0} → PatchesPart = λ done. part (c.loop-entry.patches.items ++ new_patch ∷ []) c.place_entry.new.columns in
    let patch_added = reads_more {wants = IsEntryPatch c.args.dir.now.lumps c.args.lists.now.names entries} {value = value}
    (λ bytes. or_missing c.args.tex.0 (option_map (patches_part bytes (length c.args.columns.now)) (placed_patches (last_of c.args.dir.now.lumps) bytes c.args.lists.now.names (take (entry_index + 1) entries)))) new_patch tt
    c.loop-entry.invariant.tells c.place_entry.result c.place_entry.ensures.tells c.in_ok-patch.was
    (λ lump is. record { entry = get_or entries entry_index no_entry; among = Contains-get_or entries entry_index no_entry index_in_entries; is = is })
    (λ bytes one two. part_push (last_of c.args.dir.now.lumps) bytes c.args.lists.now.names c.args.tex.0 (length c.args.columns.now) entries entry_index no_entry c.loop-entry.patches.items c.loop-entry.columns c.place_entry.new.columns new_patch index_in_entries one two) in
    reads_same c.from_residual-in_err-push.result OutOfMemory expected c.from_residual-in_err-push.ensures.1
    (reads_short OutOfMemory refl (λ lump w. w) patch_added)
