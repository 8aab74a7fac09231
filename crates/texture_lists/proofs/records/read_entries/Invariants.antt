use Rattle.std.proofs.Common.{◌≡◌, ◌+◌, ◌*◌}
use Rattle.texture_lists.specs.Rules.{ENTRY_SIZE, entry_at, listed}
use Rattle.texture_lists.proofs.records.read_entries.Given as goal

abbrev pub invariant-loop-i : goal.invariant-loop-i
invariant-loop-i l = l.entries.items ≡ listed (λ i. entry_at l.bytes (l.place + ENTRY_SIZE * i)) l.i
