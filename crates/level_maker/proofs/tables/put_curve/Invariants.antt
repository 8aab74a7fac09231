-- The entries so far are put.
use Rattle.std.proofs.Common.{◌≡◌, ◌++◌}
use Rattle.made_rules.specs.Bytes.{records}
use Rattle.level_maker.specs.Curves.{curve_bytes}
use Rattle.level_maker.proofs.tables.put_curve.Given as goal

abbrev pub invariant-loop-i : goal.invariant-loop-i
invariant-loop-i l = l.file.items ≡ l.initial.file.items ++ records (curve_bytes l.curve) l.i
