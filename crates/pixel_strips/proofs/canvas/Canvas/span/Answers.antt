use Rattle.std.proofs.Common.{ℕ, ◌-◌, arith, rules}
use Rattle.pixel_strips.specs.Strips.{cut_row_colour}
use Rattle.pixel_strips.proofs.PlaceLemmas.{first_place_words, span_place_begun}
use Rattle.pixel_strips.proofs.SoFarLemmas.{span_begun, span_dotted, span_ended}
use Rattle.pixel_strips.proofs.canvas.Canvas.span.Goals as goal

pub loop-x-init : goal.loop-x-init
loop-x-init g c =
    let cut = c.args.cut.now in
    span_begun _ _ _ cut.spans cut.x_fraction cut.y_fraction cut.x_step cut.y_step c.args.first _ _
    (span_place_begun cut.spans cut.x_fraction cut.y_fraction cut.x_step cut.y_step _ (search rules) (search rules) c.first_place-place.ensures)

pub loop-x-preserved : goal.loop-x-preserved
loop-x-preserved g c =
    let cut = c.args.cut.now in let so_far = c.loop-x.invariant in
    let offset : ℕ = c.loop-x.x - c.args.first in
    let step = first_place_words cut.spans cut.x_step cut.y_step _ (search rules) (search rules) c.first_place-step.ensures in
    span_dotted so_far c.cut_span_colour-colour.ensures
    (c.flat_place_at.ensures.place cut.spans cut.x_fraction cut.y_fraction cut.x_step cut.y_step offset (omega arith) so_far.at)
    (c.place_after-place.ensures cut.spans cut.x_fraction cut.y_fraction cut.x_step cut.y_step offset (omega arith) so_far.at step) c.dot.ensures

pub returns : goal.returns
unfolding cut_row_colour
returns g c = span_ended _ c.loop-x.invariant (omega arith)
