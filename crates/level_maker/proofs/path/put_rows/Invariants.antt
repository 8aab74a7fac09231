-- The rows so far are put.
use Rattle.std.proofs.Common.{◌≡◌, ◌++◌}
use Rattle.level_maker.specs.Rules.{made_path_row, records}
use Rattle.level_maker.proofs.path.put_rows.Given as goal

abbrev pub invariant-loop-k : goal.invariant-loop-k
invariant-loop-k l = l.file.items ≡ l.initial.file.items ++ records (made_path_row l.n) l.k
