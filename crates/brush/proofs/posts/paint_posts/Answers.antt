use Rattle.std.proofs.Common.{arith}
use Rattle.brush.specs.Rules.{byte_at, posts, shade}
use Rattle.brush.proofs.PostLemmas.{shut-dots}
use Rattle.brush.proofs.posts.paint_posts.Goals as goal

pub returns-else-is_open : goal.returns-else-is_open
returns-else-is_open g c =
    shut-dots g.C.Canvas.mark c.args.look.now.shape c.args.look.now.x c.args.look.now.column (byte_at c.args.art.now.bytes.now)
    (shade c.args.art.now.colormap.now c.args.art.now.map) (posts c.args.art.now.bytes.now c.args.place)
    (g.C.Canvas.view c.args.canvas.now) (omega arith) c.requires.clips (c.is_open.ensures c.if-is_open.false)
