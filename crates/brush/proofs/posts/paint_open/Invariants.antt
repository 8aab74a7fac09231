use Rattle.std.proofs.Common.{◌-◌, length}
use Rattle.brush.proofs.PostLemmas.{ArePostsLeft}
use Rattle.brush.proofs.posts.paint_open.Given as goal

-- what is left to paint on what was painted is the whole
abbrev pub invariant-loop-place : goal.invariant-loop-place
invariant-loop-place g l =
    ArePostsLeft g.C.Canvas.mark l.look.shape l.look.x l.look.column l.art.bytes.now l.art.colormap.now l.art.map
    l.fn.place l.place (g.C.Canvas.view l.fn.canvas) (g.C.Canvas.view l.canvas)

abbrev pub decreases-loop-place : goal.decreases-loop-place
decreases-loop-place g l = length l.art.bytes.now - l.place
