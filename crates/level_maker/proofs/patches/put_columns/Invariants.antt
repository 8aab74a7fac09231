-- The columns so far are put.
use Rattle.std.proofs.Common.{◌≡◌, ◌++◌}
use Rattle.level_maker.specs.Rules.{column_bytes, records}
use Rattle.level_maker.proofs.patches.put_columns.Given as goal

abbrev pub invariant-loop-x : goal.invariant-loop-x
invariant-loop-x l = l.lump.items ≡ l.initial.lump.items ++ records (column_bytes l.picture.seed l.posts) l.x
