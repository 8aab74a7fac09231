-- A copied list stands among the others.
use Rattle.std.proofs.Common.{arith}
use Rattle.wall_columns.proofs.SavedLemmas.{put_mid-list}
use Rattle.wall_columns.proofs.openings.put_list.Goals as goal

pub returns-clause-value : goal.returns-clause-value
returns-clause-value c = put_mid-list c.args.xs.now c.copy_from_slice.new.self c.args.list.now c.args.place _ c.copy_from_slice.ensures.after (omega arith)
