-- The textures of sides, and which textures a scene wants (P_LoadSideDefs, p_setup.c;
-- R_PrecacheLevel, r_data.c).
use Rattle.std.specs.Prelude.{ℕ, ◌==◌, ◌&&◌, ◌||◌, Bool, false, not, cond, List, Option, Some, None, Result, Ok, Err, option_map}
use Rattle.std.specs.List.{list_any}
use Rattle.std.specs.Option.{option_and_then, option_map_or}
use Rattle.level_rules.specs.{declared.Side.Side, declared.Sector.Sector}
use Rattle.level_rules.specs.declared.SideTextures.{SideTextures}
use Rattle.art_rules.specs.Textures.{Texture, texture_number}
use Rattle.scene_rules.specs.{declared.refusal.SceneRefusal.SceneRefusal, Numbered.each_or}
use Rattle.scene_rules.specs.declared.refusal.SceneRefusal.TheVariants.{SideTexture, SkyTexture}
use Rattle.scene_rules.specs.Skies.{sky_name, has_sky}

unfoldable pub three_textures : ℕ → ℕ → ℕ → SideTextures
three_textures top bottom middle = record { top = top; bottom = bottom; middle = middle }

-- the textures of a side, nothing where one of its names has no number
unfoldable pub textures_of : List Texture → Side → Option SideTextures
textures_of textures side =
    option_and_then (λ top.
    option_and_then (λ bottom.
    option_map (three_textures top bottom) (texture_number textures side.middle))
    (texture_number textures side.bottom))
    (texture_number textures side.top)

-- those of all sides, or the first side that lacks one
unfoldable pub side_textures : List Texture → List Side → Result (List SideTextures) SceneRefusal
side_textures textures sides = each_or (textures_of textures) SideTexture sides

-- the sky's texture, looked for where a sector has sky
unfoldable pub found_sky : Option ℕ → Result (Option ℕ) SceneRefusal
found_sky None = Err SkyTexture
found_sky (Some number) = Ok (Some number)

unfoldable pub sky_texture : List Texture → List ℕ → List Sector → Result (Option ℕ) SceneRefusal
sky_texture textures map_name sectors = cond (has_sky sectors) (found_sky (texture_number textures (sky_name map_name))) (Ok None)

-- a side has the texture of that number
unfoldable pub shows_texture : ℕ → SideTextures → Bool
shows_texture number side = (side.top == number) || (side.bottom == number) || (side.middle == number)

-- a texture is wanted where it is the sky's, or a side shows it and it is not number 0
unfoldable pub is_sky_texture : Option ℕ → ℕ → Bool
is_sky_texture sky number = option_map_or (λ n. n == number) sky false

unfoldable pub is_wanted_texture : List SideTextures → Option ℕ → ℕ → Bool
is_wanted_texture sides sky number = is_sky_texture sky number || (not (number == 0) && list_any (shows_texture number) sides)
