use Rattle.std.proofs.Common.{ℕ, ◌+◌, List, ap, ap₂, ◌∙◌, arith, slice_index, slice_set}
use Rattle.pixel_rules.specs.Strips.{span_place}
use Rattle.pixel_strips.specs.Strips.{cut_span_colour}
use Rattle.pixel_strips.proofs.FillLemmas.{fill_cells-on}
use Rattle.pixel_strips.proofs.frame.fill_one.Goals as goal

pub returns : goal.returns
unfolding cut_span_colour
returns c = λ x y start n few e p.
    let cut = c.args.cut.now in
    let cell : ℕ → ℕ = λ k. start + k in
    let value : ℕ → ℕ = λ k. cut_span_colour cut.texels.now cut.shades.now (span_place cut.spans x y cut.x_step cut.y_step k) in
    record {
      sets = λ so_far before among i. record {
        filled = ap (λ (place : ℕ). slice_set c.args.cells.now c.args.cell (slice_index cut.shades.now (slice_index cut.texels.now place)))
            (c.flat_place_at.ensures.place cut.spans x y cut.x_step cut.y_step n (omega (arith, few)) p)
            ∙ ap₂ (λ (cells : List ℕ) (k : ℕ). slice_set cells k (value n)) i.filled e
            ∙ fill_cells-on cell value before (λ a b l. omega (arith, l)) n so_far among;
      };
    }
