use Rattle.std.proofs.Common.{◌≡◌, ◌+◌, ◌≤◌, ◌++◌, length, ◌*◌, take}
use Rattle.std.specs.List.{flat_map}
use Rattle.refusals.specs.Lines.{spaced}
use Rattle.refusals.proofs.line.Line.add_numbers.Given as goal

abbrev pub invariant-loop-number : goal.invariant-loop-number
invariant-loop-number l =
    (l.self ≡ l.fn.self ++ flat_map spaced (take l.number-index l.numbers)) × (length l.self ≤ length l.fn.self + 21 * l.number-index)
