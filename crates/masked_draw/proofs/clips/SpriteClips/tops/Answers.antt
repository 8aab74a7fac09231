-- The rows are a part of all.
use Rattle.std.proofs.Common.{rules}
use Rattle.masked_draw.proofs.RowLemmas.{part-listed}
use Rattle.masked_draw.proofs.clips.SpriteClips.tops.Goals as goal

pub returns : goal.returns
returns c = part-listed c.args.self.now.tops c.args.first c.args.last (search rules)
