use Rattle.word_rules.proofs.Common.{ap, arith, List, with_items_is, ℕ, ◌∙◌}
use Rattle.pixel_strips.specs.Rules.{put_dots, span_dots}
use Rattle.pixel_strips.specs.Canvases.{CanvasView, with_dots, marked_by_colour}
use Rattle.pixel_strips.specs.Strips.{cut_row_colour}
use Rattle.pixel_strips.proofs.{CanvasLemmas.view_with, CutLemmas.cut_row_from}
use Rattle.pixel_strips.proofs.FillLemmas.{fill_cells-span}
use Rattle.pixel_strips.proofs.frame.FrameCanvas.span.Goals as goal

pub returns : goal.returns
returns c =
    let cut = c.args.cut.now in
    let inside = c.self.inside in
    let first_column = c.args.first in
    let colour_of : ℕ → ℕ = cut_row_colour cut.spans cut.texels.now cut.shades.now cut.x_fraction cut.y_fraction cut.x_step cut.y_step first_column in
    let put : List ℕ → List ℕ = put_dots marked_by_colour inside.left inside.top (span_dots inside.painter c.args.y colour_of first_column c.args.last) in
    ap (view_with inside.painter inside.left inside.top) (with_items_is inside.cells c.fill_span.new.cells (omega arith) ∙ c.fill_span.ensures.filled
    ∙ fill_cells-span inside.painter inside.left inside.top c.args.y colour_of first_column c.args.last _ _ _ _ (omega arith) (omega arith)
    (cut_row_from cut.spans cut.texels.now cut.shades.now cut.x_fraction cut.y_fraction cut.x_step cut.y_step first_column)
    ∙ ap put c.deref_mut.ensures.value)
    ∙ ap (λ (v : CanvasView). with_dots marked_by_colour (span_dots v.painter c.args.y colour_of first_column c.args.last) v) c.self.view_is
