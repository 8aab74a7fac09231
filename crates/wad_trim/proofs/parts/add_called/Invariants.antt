use Rattle.std.proofs.Common.{◌≡◌, ◌++◌, filter, map, not, take}
use Rattle.wad_trim.specs.Rules.{copy_part, has_name}
use Rattle.sound_scene.specs.Views.{lump_numbers}
use Rattle.wad_trim.proofs.parts.add_called.Given as goal

-- the copies so far
abbrev pub invariant-loop-lump : goal.invariant-loop-lump
invariant-loop-lump l =
    l.parts.items ≡ l.initial.parts.items ++ map copy_part (filter (λ n. not (has_name l.dir.lumps l.name n)) (lump_numbers (take l.lump-index l.called)))
