use Rattle.std.proofs.Common.{◌≡◌}
use Rattle.art_rules.specs.Words.{listed, texture_in, texture_place}
use Rattle.texture_lists.proofs.lists.read_textures.Given as goal

abbrev pub invariant-loop-i : goal.invariant-loop-i
invariant-loop-i l = l.textures.items ≡ listed (λ i. texture_in l.bytes (texture_place l.bytes i)) l.i
