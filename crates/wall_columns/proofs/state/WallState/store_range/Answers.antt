-- A fragment is drawn by a brush over what is lent: what is told, and what is painted.
use Rattle.std.proofs.Common.{ap, sym, ◌∙◌}
use Rattle.brush.specs.Works.{BrushNames}
use Rattle.wall_columns.proofs.OverLemmas.{stop-passed_on}
use Rattle.wall_columns.proofs.RangeLemmas.{names-kept, range-painted, range-stopped, range-taken}
use Rattle.wall_columns.proofs.state.WallState.store_range.Goals as goal

pub draw_range-requires-clause-takes : goal.draw_range-requires-clause-takes
draw_range-requires-clause-takes g c = λ rows_open. record {
  each = range-taken _ c.args.tools.now.view.now c.args.self.now c.args.facts.now c.args.first c.args.last (record {
    within = c.requires.within;
    height = c.requires.height;
    placed = c.requires.placed;
    slots = c.requires.slots;
    colormap = c.requires.colormap;
    textures = c.requires.textures;
  }) rows_open;
}

pub shape_of-tools : goal.shape_of-tools
shape_of-tools g c = sym (ap (λ (n : BrushNames). n.canvas) (names-kept g.S.Shelf.view g.C.Canvas.view g.C.Canvas.mark _ _ _ c.draw_range.result c.draw_range.ensures.asks))

pub shape_of-tools-2 : goal.shape_of-tools-2
shape_of-tools-2 g c = sym (ap (λ (n : BrushNames). n.shelf) (names-kept g.S.Shelf.view g.C.Canvas.view g.C.Canvas.mark _ _ _ c.draw_range.result c.draw_range.ensures.asks))

pub shape_of-tools-3 : goal.shape_of-tools-3
shape_of-tools-3 g c = sym (ap (λ (n : BrushNames). n.cache) (names-kept g.S.Shelf.view g.C.Canvas.view g.C.Canvas.mark _ _ _ c.draw_range.result c.draw_range.ensures.asks))

pub returns-in_err-draw_range-clause-limit : goal.returns-in_err-draw_range-clause-limit
returns-in_err-draw_range-clause-limit g c = λ walls s h few.
    stop-passed_on c.from_residual.result c.in_err-draw_range.field-0.0 c.from_residual.ensures.0 c.from_residual.ensures.1
    ∙ c.in_err-draw_range.ensures.limit walls s h few

pub returns-in_err-draw_range-clause-paints : goal.returns-in_err-draw_range-clause-paints
returns-in_err-draw_range-clause-paints g c =
    range-stopped g.S.Shelf.view g.C.Canvas.view g.C.Canvas.mark _ _ c.args.tools.now.view.now c.args.self.now c.args.facts.now c.args.first c.args.last c.args.tools.now.planes.now.planes
    c.in_err-draw_range.field-0.0 c.from_residual.result c.requires.within c.in_err-draw_range.ensures.asks c.from_residual.ensures.1

pub returns-clause-paints : goal.returns-clause-paints
returns-clause-paints g c =
    range-painted g.S.Shelf.view g.C.Canvas.view g.C.Canvas.mark _ _ c.args.tools.now.view.now c.args.self.now c.args.facts.now c.args.first c.args.last c.args.tools.now.planes.now.planes
    c.in_ok-draw_range.field-0 c.requires.within c.in_ok-draw_range.ensures.asks
