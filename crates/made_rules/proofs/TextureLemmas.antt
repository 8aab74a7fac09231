-- The parts of the lump of textures.
use Rattle.word_rules.proofs.Common.{[], arith, common_steps, flat_map, flat_map-append, ◌++◌, ◌∷◌, ◌≡◌}
use Rattle.made_rules.specs.Bytes.{words}
use Rattle.made_rules.specs.Textures.{textures_row, texture_bytes, wall_textures, other_textures, made_textures}

pub made_textures-parts :
    (words (5 ∷ 24 ∷ 56 ∷ 88 ∷ 130 ∷ 162 ∷ []) ++ flat_map texture_bytes wall_textures) ++ flat_map texture_bytes other_textures ≡ made_textures
unfolding made_textures
made_textures-parts = grind (arith, common_steps, textures_row, flat_map-append texture_bytes wall_textures other_textures)

pub ruleset texture_parts = (made_textures-parts)
