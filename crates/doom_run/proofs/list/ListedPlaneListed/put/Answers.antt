use Rattle.picture_rules.proofs.Common.{ap, codes, of_z, rules, to_z, w16, w32, ℤ, ◌++◌, ◌∙◌, ◌≡◌, to_z-of_z}
use Rattle.refusals.specs.Lines.{labelled, labelled_signed}
use Rattle.doom_run.specs.Lists.{flat_part, item_start, maker_part}
use Rattle.doom_run.proofs.{LimitLemmas.same_bytes, ListLemmas.six_added}
use Rattle.doom_run.proofs.list.ListedPlaneListed.put.Goals as goal

pub returns : goal.returns
returns g c =
    let plane = c.args.self.now in
    let height : to_z w32 (of_z w32 plane.key.height) ≡ plane.key.height = to_z-of_z w32 plane.key.height (search rules) in
    let light_is : to_z w16 (of_z w16 plane.key.light) ≡ plane.key.light = to_z-of_z w16 plane.key.light (search rules) in
    let light : to_z w32 (of_z w32 (to_z w16 (of_z w16 plane.key.light))) ≡ plane.key.light =
    ap (λ (z : ℤ). to_z w32 (of_z w32 z)) light_is ∙ to_z-of_z w32 plane.key.light (search rules) in
    same_bytes
    (six_added (item_start (codes " plane ") c.args.view c.args.number) (labelled_signed (codes " height ") plane.key.height) (flat_part plane.key.flat)
    (labelled_signed (codes " light ") plane.key.light) (maker_part plane.maker) (labelled (codes " columns ") plane.columns) (codes "\n") _ _ _ _ _ _ _
    c.start_item-line.ensures.text
    (c.add_signed.ensures.text ∙ ap (λ (z : ℤ). c.start_item-line.result ++ labelled_signed (codes " height ") z) height)
    c.add_flat.ensures.text
    (c.add_signed-2.ensures.text ∙ ap (λ (z : ℤ). c.add_flat.new.line ++ labelled_signed (codes " light ") z) light)
    c.add_maker.ensures.text c.add_number.ensures.text c.add.ensures.text)
    c.put.ensures
