-- The numbers so far are put.
use Rattle.std.proofs.Common.{◌≡◌, ◌++◌, take}
use Rattle.made_rules.specs.Bytes.{halves}
use Rattle.level_maker.proofs.bytes.put_halves.Given as goal

abbrev pub invariant-loop-value : goal.invariant-loop-value
invariant-loop-value l = l.out.items ≡ l.initial.out.items ++ halves (take l.value-index l.values)
