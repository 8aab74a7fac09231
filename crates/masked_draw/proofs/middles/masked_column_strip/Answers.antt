-- The strip is that of the drawn fragment.
use Rattle.picture_rules.proofs.Common.{◌<◌, ◌≡◌, ℕ, ◌∙◌, rules, subst, sym, to_z-of_z, w32}
use Rattle.masked_draw.specs.Rules.{LIGHT_LEVELS, scale_map}
use Rattle.masked_draw.proofs.MiddleLemmas.{drawseg-column, middle-light, strip-is}
use Rattle.masked_draw.proofs.middles.masked_column_strip.Goals as goal

pub scale_map-requires-clause-light : goal.scale_map-requires-clause-light
scale_map-requires-clause-light c =
    subst (λ (n : ℕ). n < LIGHT_LEVELS) (sym c.requires.middle.light) (middle-light c.args.scene.now c.args.note.now)

pub returns : goal.returns
returns c =
    let scene = c.args.scene.now in
    let note = c.args.note.now in
    let map : c.scale_map.result ≡ scale_map scene.view.now c.args.middle.light c.masked_column-masked.result.scale = search (rules, to_z-of_z) in
    strip-is scene note c.args.middle c.args.x _ _ _ _ c.requires.middle
    (to_z-of_z w32 c.saved_column.result (search rules) ∙ c.saved_column.ensures ∙ drawseg-column scene note c.args.middle c.args.x c.requires.middle)
    c.shape.ensures.value c.masked_column-masked.ensures.value map
