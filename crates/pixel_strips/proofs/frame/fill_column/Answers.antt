use Rattle.word_rules.proofs.Common.{arith, of_z, rules, subst₂, to_z, to_z-of_z, w32, ℕ, ℤ, ◌*◌, ◌-◌}
use Rattle.pixel_strips.specs.Fills.{ColumnFilled}
use Rattle.pixel_strips.proofs.FillLemmas.{column_begun, column_reached, fills_to}
use Rattle.pixel_strips.proofs.PlaceLemmas.{texel_place_word}
use Rattle.pixel_strips.proofs.frame.fill_column.Goals as goal

pub loop-k-init : goal.loop-k-init
loop-k-init c = column_begun (search rules) c.texel_place-first.ensures

pub loop-k-preserved : goal.loop-k-preserved
loop-k-preserved c =
    let step = texel_place_word (to_z w32 (of_z w32 c.args.step)) _ (search rules) c.texel_place-step.ensures in
    column_reached (omega arith) step c.loop-k.invariant c.places_after-place.ensures
    (c.fill_four.ensures (to_z w32 (of_z w32 c.args.fraction)) c.args.start (4 * c.loop-k.k) (omega arith) step)

-- the strip that is cut out holds the two words that were given
pub returns : goal.returns
returns c =
    let rows_before : ℕ = c.args.count - 4 in
    let cut_fraction : ℤ = to_z w32 (of_z w32 c.args.fraction) in
    let cut_step : ℤ = to_z w32 (of_z w32 c.args.step) in
    let first_place = texel_place_word cut_fraction _ (search rules) c.texel_place-first.ensures in
    let step = texel_place_word cut_step _ (search rules) c.texel_place-step.ensures in
    subst₂
    (λ (fraction step : ℤ). ColumnFilled c.args.texels.now c.args.shades.now fraction step c.args.start c.args.count c.args.cells.now c.fill_four-2.new.cells)
    (to_z-of_z w32 c.args.fraction c.ranges.fraction) (to_z-of_z w32 c.args.step c.ranges.step)
    (fills_to (omega arith) (omega arith) (c.fill_four-2.ensures cut_fraction c.args.start rows_before (omega arith) step
    (c.places_after-last.ensures cut_fraction cut_step first_place step)) c.loop-k.invariant.filled)
