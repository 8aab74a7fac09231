-- The columns below x are painted.
use Rattle.std.proofs.Common.{◌≡◌}
use Rattle.pixel_strips.specs.Canvases.{with_dots}
use Rattle.brush.specs.{Pictures.read_columns, Values.picture_value}
use Rattle.brush.proofs.layers.fill_columns.Given as goal

abbrev pub invariant-loop-x : goal.invariant-loop-x
invariant-loop-x g l =
    g.C.Canvas.view l.canvas
    ≡ with_dots g.C.Canvas.mark (read_columns (picture_value l.strip) l.art.bytes.now l.art.colormap.now (g.C.Canvas.view l.initial.canvas).painter l.x) (g.C.Canvas.view l.initial.canvas)
