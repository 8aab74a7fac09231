-- The colours so far are put.
use Rattle.std.proofs.Common.{◌≡◌}
use Rattle.level_maker.specs.Rules.{colour_bytes, records}
use Rattle.level_maker.proofs.pictures.palette.Given as goal

abbrev pub invariant-loop-i : goal.invariant-loop-i
invariant-loop-i l = l.lump.items ≡ records colour_bytes l.i
