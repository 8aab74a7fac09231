use Rattle.std.proofs.Common.{ap}
use Rattle.pixel_rules.specs.Dots.{cell_of}
use Rattle.pixel_strips.specs.Canvases.{with_dot, marked_by_colour}
use Rattle.pixel_strips.proofs.frame.FrameCanvas.dot.Goals as goal

pub returns : goal.returns
unfolding cell_of
returns c = ap (with_dot marked_by_colour c.args.x c.args.y c.args.colour) c.self.view_is
