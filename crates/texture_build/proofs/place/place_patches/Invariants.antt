use Rattle.texture_build.specs.Rules.{PlacedPatch, itself, last_of, placed_patches}
use Rattle.art_rules.proofs.Common.{All, length, Ok, option_map, take, ◌<◌}
use Rattle.lump_cache.specs.Calls.{ReadsLumps}
use Rattle.patch_columns.specs.Seen.{AreSeen}
use Rattle.texture_build.specs.Parts.{IsEntryPatch, PatchesPart, or_missing, patches_part}
use Rattle.texture_build.proofs.place.place_patches.Given as goal

abbrev pub invariant-loop-entry : goal.invariant-loop-entry
invariant-loop-entry g l =
    let so_far : PatchesPart = record { patches = l.patches.items; columns = l.columns } in
    record {
      tells : ReadsLumps itself (g.S.Shelf.view l.initial.shelf) (g.S.Shelf.view l.shelf) l.dir l.initial.cache l.cache (IsEntryPatch l.dir.lumps l.lists.names l.entries) (λ (_ : Unit {0}). so_far)
          (λ bytes. or_missing l.tex.0 (option_map (patches_part bytes (length l.initial.columns)) (placed_patches (last_of l.dir.lumps) bytes l.lists.names (take l.entry-index l.entries)))) (Ok tt);
      seen : AreSeen l.patches.items l.columns;
      there : All (λ (patch : PlacedPatch). patch.lump < length l.dir.lumps) l.patches.items;
    }
