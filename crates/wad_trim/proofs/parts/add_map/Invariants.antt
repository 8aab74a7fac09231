use Rattle.art_rules.proofs.Common.{map, range_with_len, suc, ◌++◌, ◌≡◌}
use Rattle.trim_rules.specs.Parts.{copy_part}
use Rattle.wad_trim.proofs.parts.add_map.Given as goal

-- the lumps behind the label so far
abbrev pub invariant-loop-i : goal.invariant-loop-i
invariant-loop-i l = l.parts.items ≡ l.initial.parts.items ++ map copy_part (range_with_len (suc l.label.0) l.i)
