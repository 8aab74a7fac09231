use Rattle.word_rules.proofs.Common.{map, replicate, take, to_ascii_uppercase, ◌++◌, ◌-◌, ◌≡◌}
use Rattle.lump_rules.proofs.name.fill.Given as goal

abbrev pub invariant-loop-i : goal.invariant-loop-i
invariant-loop-i l = l.name ≡ map to_ascii_uppercase (take l.i l.text) ++ replicate (8 - l.i) 0
