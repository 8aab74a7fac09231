-- The tangents so far are listed.
use Rattle.std.proofs.Common.{◌≡◌}
use Rattle.level_maker.specs.Rules.{listed, upper_tangent}
use Rattle.level_maker.proofs.tables.upper_tangents.Given as goal

abbrev pub invariant-loop-j : goal.invariant-loop-j
invariant-loop-j l = l.tangents.items ≡ listed upper_tangent l.j
