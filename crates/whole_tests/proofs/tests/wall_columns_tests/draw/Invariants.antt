use Rattle.std.proofs.Common.{◌≡◌, ◌+◌, ◌≤◌, length}
use Rattle.wall_columns.specs.Rules.{FRAME_HEIGHT, FRAME_WIDTH, IsAmongPlanes}
use Rattle.whole_tests.proofs.tests.wall_columns_tests.draw.Given as goal

-- the window may be drawn once more
abbrev pub invariant-loop : goal.invariant-loop
invariant-loop l = record {
  height : l.drawn.walls.now.height ≡ l.view.shape.height;
  left : l.drawn.frame.now.left + l.view.shape.width ≤ FRAME_WIDTH;
  top : l.drawn.frame.now.top + l.view.shape.height ≤ FRAME_HEIGHT;
  slots : length l.art.dir.now.lumps ≤ l.cache.lumps;
  floor : IsAmongPlanes l.drawn.planes.now.planes l.drawn.walls.now.floor;
  ceiling : IsAmongPlanes l.drawn.planes.now.planes l.drawn.walls.now.ceiling;
}
