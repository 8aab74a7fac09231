use Rattle.word_rules.proofs.Common.{arith, refl, ◌+◌}
use Rattle.word_rules.specs.Steps.{step_at}
use Rattle.pixel_strips.proofs.{FillLemmas.fills_four, PlaceLemmas.texel_place_later}
use Rattle.pixel_strips.proofs.frame.fill_four.Goals as goal

pub returns : goal.returns
returns c = λ fraction start n e step place.
    let cut_step = c.args.cut.now.step in
    let second_place = texel_place_later fraction cut_step n 1 (n + 1) _ refl (c.places_after.ensures (step_at fraction cut_step n) cut_step place step) in
    let third_place = texel_place_later fraction cut_step n 2 (n + 2) _ refl (c.places_after-2.ensures (step_at fraction cut_step n) cut_step place step) in
    let fourth_place = texel_place_later fraction cut_step n 3 (n + 3) _ refl (c.places_after-3.ensures (step_at fraction cut_step n) cut_step place step) in
    fills_four (c.fill_row.ensures fraction start n e place) (c.fill_row-2.ensures fraction start (n + 1) (omega (arith, e)) second_place)
    (c.fill_row-3.ensures fraction start (n + 2) (omega (arith, e)) third_place) (c.fill_row-4.ensures fraction start (n + 3) (omega (arith, e)) fourth_place)
