use Rattle.word_rules.proofs.Common.{ap, arith, List, rules, with_items_is, ℕ, ◌∙◌}
use Rattle.pixel_rules.specs.Dots.{put_dots}
use Rattle.pixel_strips.specs.Canvases.{CanvasView, with_dots, marked_by_colour}
use Rattle.pixel_strips.specs.Strips.{column_strip_dots, cut_strip_colour}
use Rattle.pixel_strips.proofs.{CanvasLemmas.view_with, CutLemmas.cut_strip_from_words}
use Rattle.pixel_strips.proofs.FillLemmas.{fill_cells-column}
use Rattle.pixel_strips.proofs.frame.FrameCanvas.column.Goals as goal

pub returns : goal.returns
returns c =
    let cut = c.args.cut.now in
    let inside = c.self.inside in
    let first_row = c.args.first in
    let colour_of : ℕ → ℕ = cut_strip_colour cut.texels.now cut.shades.now cut.fraction cut.step first_row in
    let put : List ℕ → List ℕ = put_dots marked_by_colour inside.left inside.top (column_strip_dots inside.painter c.args.x colour_of first_row c.args.last) in
    ap (view_with inside.painter inside.left inside.top) (with_items_is inside.cells c.fill_column.new.cells (omega arith) ∙ c.fill_column.ensures.filled
    ∙ fill_cells-column inside.painter inside.left inside.top c.args.x colour_of first_row c.args.last _ _ _ _ (omega arith) (omega arith)
    (λ k. cut_strip_from_words cut.texels.now cut.shades.now cut.fraction cut.step first_row k (search rules) (search rules))
    ∙ ap put c.deref_mut.ensures.value)
    ∙ ap (λ (v : CanvasView). with_dots marked_by_colour (column_strip_dots v.painter c.args.x colour_of first_row c.args.last) v) c.self.view_is
