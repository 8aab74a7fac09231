use Rattle.std.proofs.Common.{◌≡◌, ◌+◌}
use Rattle.word_rules.specs.Listed.{listed}
use Rattle.angle_tables.proofs.lists.list_from.Given as goal

abbrev pub invariant-loop-i : goal.invariant-loop-i
invariant-loop-i g l = l.list.items ≡ listed (λ k. g.E.Entry.entry_in l.bytes (l.first + k)) l.i
