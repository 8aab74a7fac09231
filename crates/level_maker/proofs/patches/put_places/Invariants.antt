-- The places so far are put.
use Rattle.std.proofs.Common.{◌≡◌, ◌++◌}
use Rattle.level_maker.specs.Rules.{made_column_place, records}
use Rattle.level_maker.proofs.patches.put_places.Given as goal

abbrev pub invariant-loop-x : goal.invariant-loop-x
invariant-loop-x l = l.lump.items ≡ l.initial.lump.items ++ records (made_column_place l.width l.size) l.x
