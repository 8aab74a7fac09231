use Rattle.std.proofs.Common.{◌≡◌, ◌+◌, ◌*◌}
use Rattle.texture_lists.specs.Rules.{COUNT_SIZE, NAME_SIZE, listed, name_at}
use Rattle.texture_lists.proofs.names.read_names.Given as goal

abbrev pub invariant-loop-i : goal.invariant-loop-i
invariant-loop-i l = l.names.items ≡ listed (λ i. name_at l.bytes (COUNT_SIZE + NAME_SIZE * i)) l.i
