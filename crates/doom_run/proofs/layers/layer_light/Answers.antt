use Rattle.picture_rules.proofs.Common.{List, length, w16, w32, rules, ap, ◌∙◌, to_z-of_z}
use Rattle.picture_rules.specs.Words.{Surface}
use Rattle.doom_run.proofs.LayerLemmas.{length_surfaces, light_found}
use Rattle.doom_run.proofs.layers.layer_light.Goals as goal

pub bounds-surfaces-sector : goal.bounds-surfaces-sector
bounds-surfaces-sector c =
    let surfaces_counted = ap (λ (xs : List Surface). length xs) c.surfaces.ensures ∙ length_surfaces c.args.scene.now.scene.base.level.sectors c.args.scene.now.scene.faces.flats c.requires in
    rw surfaces_counted c.sector_at-sector.ensures.there

pub returns : goal.returns
returns c =
    to_z-of_z w16 _ (search rules)
    ∙ light_found c.args.scene.now.scene c.args.eye c.surfaces.result.now c.sector_at-sector.result _ _ c.surfaces.ensures c.sector_at-sector.ensures.value
    (to_z-of_z w32 c.args.eye.x (search rules)) (to_z-of_z w32 c.args.eye.y (search rules))
