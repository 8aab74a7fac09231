use Rattle.picture_rules.proofs.Common.{option_map, w16, w32, rules, sym, ap, ◌∙◌, to_z-of_z}
use Rattle.weapon_overlay.specs.Layers.{layer_value}
use Rattle.doom_run.proofs.LayerLemmas.{layer_none, layer_some}
use Rattle.doom_run.proofs.layers.layer_of.Goals as goal

pub returns-in_err-shape : goal.returns-in_err-shape
returns-in_err-shape c = ap (option_map layer_value) c.from_residual.ensures ∙ layer_none c.args.book.now c.args.light c.args.number c.args.row.now (sym c.pick.ensures ∙ c.in_err-shape.was)

pub returns : goal.returns
returns c =
    layer_some c.args.book.now c.args.light _ c.args.number c.args.row.now c.in_ok-shape.shape _ _ (sym c.pick.ensures ∙ c.in_ok-shape.was)
    (to_z-of_z w32 c.args.row.now.sx (search rules)) (to_z-of_z w32 c.args.row.now.sy (search rules)) (to_z-of_z w16 c.args.light (search rules))
