-- The records so far are put.
use Rattle.std.proofs.Common.{◌≡◌}
use Rattle.made_rules.specs.Bytes.{records}
use Rattle.level_maker.specs.Squares.{record_bytes}
use Rattle.level_maker.proofs.map.made_lump.Given as goal

abbrev pub invariant-loop-k : goal.invariant-loop-k
invariant-loop-k l = l.bytes.items ≡ records (record_bytes l.lump l.side) l.k
