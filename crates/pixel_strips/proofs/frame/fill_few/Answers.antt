use Rattle.std.proofs.Common.{refl, rules}
use Rattle.pixel_strips.proofs.FillLemmas.{column_begun, column_reached}
use Rattle.pixel_strips.proofs.PlaceLemmas.{texel_place_word}
use Rattle.pixel_strips.proofs.frame.fill_few.Goals as goal

pub loop-k-init : goal.loop-k-init
loop-k-init c = column_begun (search rules) c.texel_place-place.ensures

pub loop-k-preserved : goal.loop-k-preserved
loop-k-preserved c =
    column_reached refl (texel_place_word c.args.cut.now.step _ (search rules) c.texel_place-step.ensures) c.loop-k.invariant c.places_after-place.ensures
    (c.fill_row.ensures c.args.cut.now.fraction c.args.start c.loop-k.k refl)
