use Rattle.std.proofs.Common.{◌+◌, arith}
use Rattle.pixel_strips.proofs.FillLemmas.{fills_four}
use Rattle.pixel_strips.proofs.frame.fill_four_across.Goals as goal

pub returns : goal.returns
returns c = λ x y start n within e step place.
    let cut = c.args.cut.now in
    let second_place = c.place_after.ensures cut.spans x y cut.x_step cut.y_step n (omega (arith, within)) place step in
    let third_place = c.place_after-2.ensures cut.spans x y cut.x_step cut.y_step n (omega (arith, within)) place step in
    let fourth_place = c.place_after-3.ensures cut.spans x y cut.x_step cut.y_step n (omega (arith, within)) place step in
    fills_four (c.fill_one.ensures x y start n (omega (arith, within)) e place) (c.fill_one-2.ensures x y start (n + 1) (omega (arith, within)) (omega (arith, e)) second_place)
    (c.fill_one-3.ensures x y start (n + 2) (omega (arith, within)) (omega (arith, e)) third_place) (c.fill_one-4.ensures x y start (n + 3) within (omega (arith, e)) fourth_place)
