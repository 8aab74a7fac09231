-- The names of patches, and the wall textures.
use Rattle.std.specs.Prelude.{◌≡◌, ℕ, ◌+◌, ◌*◌, ℤ, pos, negsuc, List, [], ◌∷◌, ◌++◌, length, codes, refl}
use Rattle.std.specs.List.{flat_map}
use Rattle.std.specs.Int.{w16, cast_unsigned}
use Rattle.made_rules.specs.declared.pictures.PatchPlace.{PatchPlace}
use Rattle.made_rules.specs.Bytes.{half, halves, word_bytes, words, padded}

-- the patches by number
unfoldable pub made_patch_names : List ℕ
made_patch_names = word_bytes 4 ++ padded (codes "WPATA") ++ padded (codes "WPATB") ++ padded (codes "GRATP") ++ padded (codes "SKYP")

-- a wall texture: its name, its size in texels, its patches in order
pub record MadeTexture : Type 0 where
  pub name : List ℕ
  pub width : ℕ
  pub height : ℕ
  pub patches : List PatchPlace

-- a texture of 128 rows
abbrev pub texture : List ℕ → ℕ → List PatchPlace → MadeTexture
texture name width patches = record { name = name; width = width; height = 128; patches = patches }

-- the patch of a number at a texel
abbrev pub patch_at : ℕ → ℤ → ℕ → PatchPlace
patch_at x y number = record { x = x; y = y; number = number }

-- the walls; the first, which is number 0 and so never seen, is the second one again
unfoldable pub wall_textures : List MadeTexture
wall_textures =
    texture (padded (codes "NOTEX")) 64 (patch_at 0 (pos 0) 0 ∷ [])
    ∷ texture (padded (codes "WALL1")) 64 (patch_at 0 (pos 0) 0 ∷ [])
    ∷ texture (padded (codes "WALL2")) 64 (patch_at 0 (pos 0) 0 ∷ patch_at 16 (negsuc 7) 1 ∷ [])
    ∷ []

-- the grate and the sky
unfoldable pub other_textures : List MadeTexture
other_textures =
    texture (padded (codes "GRATE")) 64 (patch_at 0 (pos 0) 2 ∷ [])
    ∷ texture (padded (codes "SKY1")) 256 (patch_at 0 (pos 0) 3 ∷ [])
    ∷ []

abbrev pub textures : List MadeTexture
textures = wall_textures ++ other_textures

-- a patch of a texture: where it stands, its number, and 4 bytes unread
unfoldable pub patch_place_bytes : PatchPlace → List ℕ
patch_place_bytes place = halves (place.x ∷ cast_unsigned w16 place.y ∷ place.number ∷ 0 ∷ 0 ∷ [])

-- a texture: its name, 4 bytes unread, its size, 4 bytes unread, and its patches
unfoldable pub texture_bytes : MadeTexture → List ℕ
texture_bytes texture =
    texture.name
    ++ halves (0 ∷ 0 ∷ texture.width ∷ texture.height ∷ 0 ∷ 0 ∷ length texture.patches ∷ [])
    ++ flat_map patch_place_bytes texture.patches

-- where the textures stand, from a place on without gaps
unfoldable pub texture_places : ℕ → List MadeTexture → List ℕ
texture_places place [] = []
texture_places place (texture ∷ rest) = place ∷ texture_places (place + length (texture_bytes texture)) rest

-- the lump: how many textures there are, where they stand, and they themselves
unfoldable pub made_textures : List ℕ
made_textures =
    words (length textures ∷ texture_places (4 + 4 * length textures) textures)
    ++ flat_map texture_bytes textures

-- the places, as they come out
pub textures_row : words (length textures ∷ texture_places (4 + 4 * length textures) textures) ≡ words (5 ∷ 24 ∷ 56 ∷ 88 ∷ 130 ∷ 162 ∷ [])
unfolding wall_textures other_textures texture_places texture_bytes patch_place_bytes halves half
textures_row = refl
