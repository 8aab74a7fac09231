use Rattle.std.proofs.Common.{ℕ, ◌-◌, arith, rules}
use Rattle.pixel_strips.specs.Strips.{row_colour}
use Rattle.pixel_strips.proofs.PlaceLemmas.{first_place_words, span_place_begun}
use Rattle.pixel_strips.proofs.SoFarLemmas.{span_begun, span_dotted, span_ended}
use Rattle.pixel_strips.proofs.span.paint_any_span.Goals as goal

pub loop-x-init : goal.loop-x-init
loop-x-init g c =
    let strip = c.args.strip.now in
    span_begun _ _ _ c.args.spans strip.x_fraction strip.y_fraction strip.x_step strip.y_step strip.first _ _
    (span_place_begun c.args.spans strip.x_fraction strip.y_fraction strip.x_step strip.y_step _ (search rules) (search rules) c.first_place-place.ensures)

pub loop-x-preserved : goal.loop-x-preserved
loop-x-preserved g c =
    let strip = c.args.strip.now in
    let so_far = c.loop-x.invariant in
    let offset : ℕ = c.loop-x.x - strip.first in
    let step = first_place_words c.args.spans strip.x_step strip.y_step _ (search rules) (search rules) c.first_place-step.ensures in
    span_dotted so_far c.span_colour-colour.ensures (c.flat_place_at-texel.ensures.place c.args.spans strip.x_fraction strip.y_fraction strip.x_step strip.y_step offset (omega arith) so_far.at)
    (c.place_after-place.ensures c.args.spans strip.x_fraction strip.y_fraction strip.x_step strip.y_step offset (omega arith) so_far.at step) c.dot.ensures

pub returns : goal.returns
unfolding row_colour
returns g c = span_ended _ c.loop-x.invariant (omega arith)
