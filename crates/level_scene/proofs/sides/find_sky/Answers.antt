use Rattle.std.proofs.Common.{ap, sym, ◌∙◌}
use Rattle.art_rules.specs.Words.{texture_number}
use Rattle.scene_rules.proofs.SkyLemmas.{sky_is_listed}
use Rattle.level_scene.proofs.sides.find_sky.Goals as goal

pub returns-in-Some-clause-there : goal.returns-in-Some-clause-there
returns-in-Some-clause-there c =
    sky_is_listed c.args.lists.now.textures c.args.map.now c.in-Some.sky.0 (ap (texture_number c.args.lists.now.textures) (sym c.sky_name.ensures) ∙ sym c.in-Some.ensures.found)
