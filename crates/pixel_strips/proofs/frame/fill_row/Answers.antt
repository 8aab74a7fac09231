use Rattle.std.proofs.Common.{ℕ, ◌+◌, ◌*◌, List, ap, ap₂, ◌∙◌, arith, slice_index, slice_set}
use Rattle.pixel_strips.specs.{Rules.FRAME_WIDTH, Rules.step_at, Strips.cut_colour}
use Rattle.pixel_strips.proofs.FillLemmas.{fill_cells-on}
use Rattle.pixel_strips.proofs.frame.fill_row.Goals as goal

pub returns : goal.returns
unfolding cut_colour
returns c = λ fraction start n e p.
    let cut = c.args.cut.now in
    let cell : ℕ → ℕ = λ k. start + FRAME_WIDTH * k in
    let value : ℕ → ℕ = λ k. cut_colour cut.texels.now cut.shades.now (step_at fraction cut.step k) in
    record {
      sets = λ so_far before among i. record {
        filled = ap (λ (row : ℕ). slice_set c.args.cells.now c.args.cell (slice_index cut.shades.now (slice_index cut.texels.now row)))
            (c.row_at.ensures.row (step_at fraction cut.step n) p)
            ∙ ap₂ (λ (cells : List ℕ) (k : ℕ). slice_set cells k (value n)) i.filled e
            ∙ fill_cells-on cell value before (λ a b l. omega (arith, l)) n so_far among;
      };
    }
