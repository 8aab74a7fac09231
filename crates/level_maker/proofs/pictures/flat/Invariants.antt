-- The bytes so far are put.
use Rattle.std.proofs.Common.{◌≡◌}
use Rattle.level_maker.specs.Rules.{listed, made_flat_byte}
use Rattle.level_maker.proofs.pictures.flat.Given as goal

abbrev pub invariant-loop-k : goal.invariant-loop-k
invariant-loop-k l = l.lump.items ≡ listed (made_flat_byte l.number) l.k
