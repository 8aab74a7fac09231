use Rattle.std.proofs.Common.{◌≡◌, ◌++◌, map, take}
use Rattle.sound_scene.specs.Views.{lump_numbers}
use Rattle.trim_rules.specs.Parts.{copy_part}
use Rattle.wad_trim.proofs.parts.add_group.Given as goal

-- the copies so far
abbrev pub invariant-loop-lump : goal.invariant-loop-lump
invariant-loop-lump l = l.parts.items ≡ l.initial.parts.items ++ map copy_part (lump_numbers (take l.lump-index l.lumps))
