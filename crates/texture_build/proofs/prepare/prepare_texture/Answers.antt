use Rattle.art_rules.proofs.Common.{ap, arith, Err, IfErr-weaker, IfOk-weaker, length, length-replicate, List, Ok, option_map, replicate, subst, sym, ℕ, ◌∙◌, ◌≡◌}
use Rattle.texture_build.specs.Rules.{Empty, TooBig, last_of, placed_patches, prepared, texture_at}
use Rattle.lump_cache.proofs.CallLemmas.{reads_stop_first}
use Rattle.patch_columns.specs.Seen.{seen_lookups}
use Rattle.texture_build.specs.Parts.{IsEntryPatch, PatchesPart, or_missing, patches_part}
use Rattle.texture_build.proofs.MarkLemmas.{same_front}
use Rattle.texture_build.proofs.PrepareLemmas.{empty_seen, tells_bound, texture_is, texture_missing, texture_seen}
use Rattle.texture_build.proofs.prepare.prepare_texture.Goals as goal

pub place_patches-requires-clause-empty : goal.place_patches-requires-clause-empty
place_patches-requires-clause-empty g c = λ bytes.
    let width = c.width.result in
    let columns_are : c.deref_mut.result.now ≡ replicate width Empty = c.deref_mut.ensures.value ∙ c.in_ok-columns.ensures in
    columns_are ∙ empty_seen bytes width ∙ ap (seen_lookups bytes _) (sym (ap length columns_are ∙ length-replicate width Empty))

pub returns-in_err-place_patches-clause-tells : goal.returns-in_err-place_patches-clause-tells
returns-in_err-place_patches-clause-tells g c =
    let last = last_of c.args.dir.now.lumps in
    let names = c.args.lists.now.names in
    let number = c.args.tex.0 in
    let texture = texture_at c.args.lists.now.textures number in
    reads_stop_first (λ bytes. prepared last bytes names number texture) c.place_patches.result c.in_err-place_patches.field-0.0 c.from_residual-in_err-place_patches.result
    c.place_patches.ensures.tells c.in_err-place_patches.was c.from_residual-in_err-place_patches.ensures.1
    (λ lump w. subst (λ entries. IsEntryPatch c.args.dir.now.lumps names entries lump) c.entries-entries.ensures w)
    (λ bytes e stopped. texture_missing last bytes names number texture (length c.deref_mut.result.now) e
    (subst (λ entries. or_missing number (option_map (patches_part bytes (length c.deref_mut.result.now)) (placed_patches last bytes names entries)) ≡ Err e) c.entries-entries.ensures stopped))

pub returns-clause-tells : goal.returns-clause-tells
returns-clause-tells g c =
    let last = last_of c.args.dir.now.lumps in
    let names = c.args.lists.now.names in
    let number = c.args.tex.0 in let texture = texture_at c.args.lists.now.textures number in
    let patches = c.place_patches.new.patches.items in let columns = c.place_patches.new.columns in
    let width = length c.deref_mut.result.now in
    let part_placed : PatchesPart = record { patches = patches; columns = columns } in
    let part_of_entries = λ (bytes : ℕ → List ℕ) (begun : or_missing number (option_map (patches_part bytes width) (placed_patches last bytes names c.entries-entries.result.now)) ≡ Ok part_placed).
    subst (λ entries. or_missing number (option_map (patches_part bytes width) (placed_patches last bytes names entries)) ≡ Ok part_placed) c.entries-entries.ensures begun in
    let columns_same = same_front c.in_ok-columns.columns.len columns _ (omega (arith, c.place_patches.ensures.count, c.deref_mut.ensures.len)) in
    tells_bound c.place_patches.result c.in_ok-place_patches.field-0 (TooBig number) c.bind_texture.result c.place_patches.ensures.tells c.in_ok-place_patches.was
    (λ lump w. subst (λ entries. IsEntryPatch c.args.dir.now.lumps names entries lump) c.entries-entries.ensures w)
    (λ bytes begun. IfOk-weaker c.bind_texture.result _ _
    (λ got e. texture_is last bytes names number texture patches columns width (Ok got) (part_of_entries bytes begun) e)
    (c.bind_texture.ensures.ok bytes
    (texture_seen last bytes names number texture patches columns width _ columns_same c.place_patches.ensures.count (part_of_entries bytes begun))))
    (IfErr-weaker c.bind_texture.result _ _ (λ fault h. (h.0, λ bytes begun. texture_is last bytes names number texture patches columns width (Err (TooBig number)) (part_of_entries bytes begun) (h.1 bytes))) c.bind_texture.ensures.err)
