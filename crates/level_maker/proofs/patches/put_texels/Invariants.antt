-- The texels so far are put.
use Rattle.std.proofs.Common.{◌≡◌, ◌++◌}
use Rattle.level_maker.specs.Rules.{listed, made_texel}
use Rattle.level_maker.proofs.patches.put_texels.Given as goal

abbrev pub invariant-loop-k : goal.invariant-loop-k
invariant-loop-k l = l.lump.items ≡ l.initial.lump.items ++ listed (made_texel l.seed l.x l.top) l.k
