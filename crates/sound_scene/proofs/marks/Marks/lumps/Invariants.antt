use Rattle.art_rules.proofs.Common.{filter, range_with_len, ◌≡◌}
use Rattle.texture_build.specs.Views.{is_marked}
use Rattle.sound_scene.specs.Views.{lump_numbers}
use Rattle.sound_scene.proofs.marks.Marks.lumps.Given as goal

-- the lumps that are marked so far
abbrev pub invariant-loop-number : goal.invariant-loop-number
invariant-loop-number l = lump_numbers l.lumps.items ≡ filter (is_marked l.self) (range_with_len 0 l.number)
