use Rattle.std.proofs.Common.{sym}
use Rattle.patch_columns.proofs.PutLemmas.{post_at-past}
use Rattle.patch_columns.proofs.compose.post_from.Goals as goal

pub returns-then-lump-place : goal.returns-then-lump-place
returns-then-lump-place c = sym (post_at-past c.args.lump.now c.args.place c.if-lump-place.true)
