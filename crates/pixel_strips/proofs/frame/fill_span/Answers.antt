use Rattle.std.proofs.Common.{ℕ, ◌+◌, ◌-◌, ◌*◌, rules, arith}
use Rattle.pixel_strips.proofs.FillLemmas.{fills_to, span_begun, span_reached}
use Rattle.pixel_strips.proofs.PlaceLemmas.{first_place_words, span_place_begun, span_place-to}
use Rattle.pixel_strips.proofs.frame.fill_span.Goals as goal

pub loop-k-init : goal.loop-k-init
loop-k-init c = span_begun (search rules) (search rules) c.first_place-first.ensures

pub loop-k-preserved : goal.loop-k-preserved
loop-k-preserved c =
    let cut = c.args.cut.now in
    let step = first_place_words cut.spans cut.x_step cut.y_step _ (search rules) (search rules) c.first_place-step.ensures in
    span_reached (omega arith) (omega arith) step c.loop-k.invariant c.place_after-place.ensures
    (c.fill_four_across.ensures cut.x_fraction cut.y_fraction c.args.start (4 * c.loop-k.k) (omega arith) (omega arith) step)

pub returns : goal.returns
returns c =
    let cut = c.args.cut.now in
    let cells_before : ℕ = c.args.count - 4 in
    let first_is = span_place_begun cut.spans cut.x_fraction cut.y_fraction cut.x_step cut.y_step _ (search rules) (search rules) c.first_place-first.ensures in
    let step = first_place_words cut.spans cut.x_step cut.y_step _ (search rules) (search rules) c.first_place-step.ensures in
    fills_to (omega arith) (omega arith) (c.fill_four_across-2.ensures cut.x_fraction cut.y_fraction c.args.start cells_before (omega arith) (omega arith) step
    (span_place-to cut.spans cut.x_fraction cut.y_fraction cut.x_step cut.y_step (0 + cells_before) cells_before _ (omega arith)
    (c.place_after-last.ensures cut.spans cut.x_fraction cut.y_fraction cut.x_step cut.y_step 0 (omega arith) first_is step))) c.loop-k.invariant.filled
