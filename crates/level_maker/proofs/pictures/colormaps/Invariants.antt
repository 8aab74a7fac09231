-- The bytes so far are put.
use Rattle.std.proofs.Common.{◌≡◌}
use Rattle.level_maker.specs.Rules.{colormap_byte, listed}
use Rattle.level_maker.proofs.pictures.colormaps.Given as goal

abbrev pub invariant-loop-k : goal.invariant-loop-k
invariant-loop-k l = l.lump.items ≡ listed colormap_byte l.k
