use Rattle.std.proofs.Common.{◌≡◌, ◌+◌, drop}
use Rattle.lump_rules.specs.Lookups.{are_named}
use Rattle.wad_dir.proofs.map.are_named.Given as goal

abbrev pub invariant-loop-i : goal.invariant-loop-i
invariant-loop-i l = are_named l.lumps l.file l.first l.names ≡ are_named l.lumps l.file (l.first + l.i) (drop l.i l.names)
