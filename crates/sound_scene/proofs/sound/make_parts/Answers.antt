use Rattle.std.proofs.Common.{◌∙◌}
use Rattle.sound_scene.specs.{Scenes.scene_value, Views.lump_numbers}
use Rattle.sound_scene.proofs.PictureLemmas.{needed_alone, sizes_alone}
use Rattle.sound_scene.proofs.sound.make_parts.Goals as goal

pub returns-clause-named : goal.returns-clause-named
returns-clause-named c =
    c.in_ok-find_needed.ensures.lumps ∙ needed_alone c.args.dir.now.lumps (scene_value c.args.scene.now) (lump_numbers c.pictures.result.now) c.pictures.ensures.lumps

pub returns-clause-sizes : goal.returns-clause-sizes
returns-clause-sizes c =
    c.in_ok-find_needed.ensures.sizes ∙ sizes_alone c.args.dir.now.lumps (scene_value c.args.scene.now) (lump_numbers c.pictures.result.now) c.pictures.ensures.lumps
