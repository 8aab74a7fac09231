use Rattle.picture_rules.proofs.Common.{get_or-replicate, None}
use Rattle.picture_rules.specs.Words.{FRAME_WIDTH}
use Rattle.masked_draw.proofs.clips.same_rows.Goals as goal

pub returns : goal.returns
returns c = λ x l. get_or-replicate FRAME_WIDTH x c.args.row None l
