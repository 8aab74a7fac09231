use Rattle.std.proofs.Common.{refl, rules, arith}
use Rattle.pixel_strips.proofs.FillLemmas.{span_begun, span_reached}
use Rattle.pixel_strips.proofs.PlaceLemmas.{first_place_words}
use Rattle.pixel_strips.proofs.frame.fill_few_across.Goals as goal

pub loop-k-init : goal.loop-k-init
loop-k-init c = span_begun (search rules) (search rules) c.first_place-place.ensures

pub loop-k-preserved : goal.loop-k-preserved
loop-k-preserved c =
    let cut = c.args.cut.now in
    span_reached refl (omega arith) (first_place_words cut.spans cut.x_step cut.y_step _ (search rules) (search rules) c.first_place-step.ensures)
    c.loop-k.invariant c.place_after-place.ensures (c.fill_one.ensures cut.x_fraction cut.y_fraction c.args.start c.loop-k.k (omega arith) refl)
