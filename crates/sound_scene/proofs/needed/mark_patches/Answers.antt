use Rattle.art_rules.specs.Words.{MAX_LUMPS}
use Rattle.sound_scene.specs.Views.{lump_numbers}
use Rattle.sound_scene.proofs.MarkLemmas.{patches_added}
use Rattle.sound_scene.proofs.needed.mark_patches.Goals as goal

pub returns-clause-marked : goal.returns-clause-marked
returns-clause-marked c =
    patches_added c.args.marks.now c.mark_lumps.new.marks c.args.textures.now.prepared (lump_numbers c.patches.result.now) MAX_LUMPS c.requires c.patches.ensures c.mark_lumps.ensures.marked
