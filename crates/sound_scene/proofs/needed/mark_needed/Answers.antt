use Rattle.art_rules.proofs.Common.{Bool, list_any, subst, ℕ, ◌==◌, ◌||◌, ◌∙◌}
use Rattle.sound_scene.specs.Rules.{SceneArt, has_flat, is_list, is_map_lump, is_needed, is_patch_of_any}
use Rattle.sound_scene.specs.Views.{AddsMarks, lump_numbers}
use Rattle.sound_scene.proofs.MarkLemmas.{adds_then}
use Rattle.sound_scene.proofs.needed.mark_needed.Goals as goal

pub returns-clause-marked : goal.returns-clause-marked
unfolding is_needed
returns-clause-marked c =
    let lumps = c.args.dir.now.lumps in
    let art = c.art.inside in
    let marks_before = c.args.marks.now in
    let is_colormap : ℕ → Bool = λ n. art.colormap.0 == n in
    let is_playpal : ℕ → Bool = λ n. art.playpal.0 == n in
    let of_map = is_map_lump art.label.0 in
    let of_lists = is_list lumps in
    let is_patch = is_patch_of_any art.textures.now.prepared in
    let is_flat : ℕ → Bool = λ n. list_any (has_flat n) art.flats.now in
    let is_picture : ℕ → Bool = λ n. list_any (λ m. m == n) (lump_numbers art.pictures.now) in
    let count-2 = c.set-2.ensures.count ∙ c.set.ensures.count in let count-3 = c.mark_map.ensures.count ∙ count-2 in
    let count-4 = c.mark_lists.ensures.count ∙ count-3 in let count-5 = c.mark_patches.ensures.count ∙ count-4 in
    let count-6 = c.mark_flats.ensures.count ∙ count-5 in
    subst (λ (a : SceneArt). AddsMarks marks_before c.mark_lumps.new.marks (is_needed lumps a)) c.art.view_is
    (adds_then marks_before c.mark_flats.new.marks c.mark_lumps.new.marks
    (λ n. is_colormap n || is_playpal n || of_map n || of_lists n || is_patch n || is_flat n) is_picture count-6
    (adds_then marks_before c.mark_patches.new.marks c.mark_flats.new.marks (λ n. is_colormap n || is_playpal n || of_map n || of_lists n || is_patch n)
    is_flat count-5
    (adds_then marks_before c.mark_lists.new.marks c.mark_patches.new.marks (λ n. is_colormap n || is_playpal n || of_map n || of_lists n) is_patch count-4
    (adds_then marks_before c.mark_map.new.marks c.mark_lists.new.marks (λ n. is_colormap n || is_playpal n || of_map n) of_lists count-3
    (adds_then marks_before c.set-2.new.self c.mark_map.new.marks (λ n. is_colormap n || is_playpal n) of_map count-2
    (adds_then marks_before c.set.new.self c.set-2.new.self is_colormap is_playpal c.set.ensures.count c.set.ensures.marked c.set-2.ensures.marked)
    c.mark_map.ensures.marked) c.mark_lists.ensures.marked) c.mark_patches.ensures.marked) c.mark_flats.ensures.marked) c.mark_lumps.ensures.marked)
