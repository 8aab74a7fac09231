-- The patches so far are put.
use Rattle.word_rules.proofs.Common.{flat_map, take, ◌++◌, ◌≡◌}
use Rattle.made_rules.specs.Textures.{patch_place_bytes}
use Rattle.level_maker.proofs.textures.put_patches.Given as goal

abbrev pub invariant-loop-place : goal.invariant-loop-place
invariant-loop-place l = l.lump.items ≡ l.initial.lump.items ++ flat_map patch_place_bytes (take l.place-index l.patches)
