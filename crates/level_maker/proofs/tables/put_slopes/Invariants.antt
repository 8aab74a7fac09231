-- The entries so far are put.
use Rattle.std.proofs.Common.{◌≡◌, ◌++◌}
use Rattle.level_maker.specs.Rules.{angle_bytes, records}
use Rattle.level_maker.proofs.tables.put_slopes.Given as goal

abbrev pub invariant-loop-i : goal.invariant-loop-i
invariant-loop-i l = l.file.items ≡ l.initial.file.items ++ records angle_bytes l.i
