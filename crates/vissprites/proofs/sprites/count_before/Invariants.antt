use Rattle.std.proofs.Common.{◌≡◌, ◌+◌, drop}
use Rattle.vissprites.specs.Kept.{count_before}
use Rattle.vissprites.proofs.sprites.count_before.Given as goal

abbrev pub invariant-loop-index : goal.invariant-loop-index
invariant-loop-index l = count_before l.entry l.kept ≡ l.index + count_before l.entry (drop l.index l.kept)
