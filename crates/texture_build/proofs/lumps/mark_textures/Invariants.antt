use Rattle.art_rules.proofs.Common.{false, get_or, length, list_any, take, ℕ, ◌<◌, ◌||◌, ◌≡◌}
use Rattle.art_rules.specs.Words.{is_patch_of}
use Rattle.texture_build.proofs.lumps.mark_textures.Given as goal

abbrev pub invariant-loop-texture : goal.invariant-loop-texture
invariant-loop-texture l =
    (lump : ℕ) → lump < length l.initial.marks → get_or l.marks lump false ≡ (get_or l.initial.marks lump false || list_any (is_patch_of lump) (take l.texture-index l.textures))
