use Rattle.art_rules.proofs.Common.{ap, IsStrictlyIncreasing, List, subst, sum_by, sym, ℕ, ◌∙◌}
use Rattle.scene_rules.specs.Words.{composite_block, greatest_by, lump_block, SceneArt}
use Rattle.sound_scene.specs.Views.{lump_numbers}
use Rattle.sound_scene.proofs.SizeLemmas.{enough_is, needed_increase, needed_there, roomy_is, sizes_are}
use Rattle.sound_scene.proofs.sizes.zone_sizes.Goals as goal

pub lump_blocks-lumps-requires-clause-ascending : goal.lump_blocks-lumps-requires-clause-ascending
lump_blocks-lumps-requires-clause-ascending c = subst (λ (xs : List ℕ). IsStrictlyIncreasing xs) (sym c.requires.needed) (needed_increase c.args.dir.now.lumps c.args.art.now)

pub lump_blocks-lumps-requires-clause-there : goal.lump_blocks-lumps-requires-clause-there
lump_blocks-lumps-requires-clause-there c = needed_there c.args.dir.now.lumps c.args.art.now c.args.needed.now c.requires.needed

pub returns : goal.returns
returns c =
    let lumps = c.args.dir.now.lumps in
    let art = c.args.art.now in
    let needed = lump_numbers c.args.needed.now in
    let colormap = c.lump_block-colormap.ensures.value ∙ ap (λ (a : SceneArt). lump_block lumps a.colormap) c.art.view_is in
    let greatest = c.composite_blocks-composites.ensures.greatest ∙ ap (λ (a : SceneArt). greatest_by composite_block a.prepared) c.art.view_is in
    let sum = c.composite_blocks-composites.ensures.sum ∙ ap (λ (a : SceneArt). sum_by composite_block a.prepared) c.art.view_is in
    sizes_are lumps art _ _
    (enough_is lumps art needed _ _ _ _ c.requires.needed colormap c.lump_blocks-lumps.ensures.greatest greatest c.from-fragment.ensures)
    (roomy_is lumps art needed _ _ _ c.requires.needed c.lump_blocks-lumps.ensures.sum sum c.from-fragment.ensures)
