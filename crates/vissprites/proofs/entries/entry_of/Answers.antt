use Rattle.picture_rules.proofs.Common.{rules, pos, ◌≤ℤ◌, subst, to_z-of_z}
use Rattle.picture_rules.specs.Words.{IsWithinFrame, ViewShape}
use Rattle.vissprites.proofs.EntryLemmas.{entry_of-parts, project-scale}
use Rattle.vissprites.proofs.entries.entry_of.Goals as goal

-- the parts are read back as they were written
pub returns : goal.returns
returns c =
    entry_of-parts c.args.view.now c.args.number c.args.thing.now c.args.seen c.args.shape c.args.first c.args.last _ _ _ _ _ _ _ _ _ _ _
    (search (rules, to_z-of_z)) (search (rules, to_z-of_z)) (search (rules, to_z-of_z)) (search (rules, to_z-of_z))
    (search (rules, to_z-of_z)) (search (rules, to_z-of_z)) (search (rules, to_z-of_z)) (search (rules, to_z-of_z))
    (search (rules, to_z-of_z)) (search (rules, to_z-of_z)) (search (rules, to_z-of_z))

-- what is seen has a scale that is not negative
pub sprite_map-requires-clause-scale : goal.sprite_map-requires-clause-scale
sprite_map-requires-clause-scale c =
    let is_within_frame : ViewShape → Type 0 = IsWithinFrame in
    let frame : IsWithinFrame c.args.view.now.shape = subst is_within_frame c.shape.ensures.value c.shape.ensures.frame in
    let scale : pos 0 ≤ℤ c.args.seen.scale = project-scale c.args.view.now c.args.thing.now c.args.seen frame c.requires.seen in
    search (rules, to_z-of_z)
