-- The sky of a map (G_DoLoadLevel, g_game.c; R_InitSkyMap, r_sky.c).
use Rattle.std.specs.Prelude.{◌≡◌, ℕ, ◌+◌, ◌-◌, ◌*◌, ◌==◌, ◌&&◌, ◌||◌, Bool, cond, nat_lt, nat_le, List, [], ◌∷◌, take, slice_index, refl}
use Rattle.std.specs.List.{list_any}
use Rattle.std.specs.Str.{bytes_eq}
use Rattle.level_rules.specs.declared.Sector.{Sector}
use Rattle.scene_rules.specs.declared.TheConstants.{SKY_NAME, SKY1, SKY2, SKY3, SKY4, SECOND_SKY_MAP, THIRD_SKY_MAP}

-- E, a digit from 1 to 4, M, whatever follows
unfoldable pub is_episode_map : List ℕ → Bool
is_episode_map name = (slice_index name 0 == 69) && (slice_index name 2 == 77) && nat_le 49 (slice_index name 1) && nat_le (slice_index name 1) 52

unfoldable pub episode_sky : ℕ → List ℕ
episode_sky digit = cond (digit == 49) SKY1 (cond (digit == 50) SKY2 (cond (digit == 51) SKY3 SKY4))

-- MAP and two digits, and nothing after them
unfoldable pub is_digit : ℕ → Bool
is_digit byte = nat_le 48 byte && nat_le byte 57

unfoldable pub is_numbered_map : List ℕ → Bool
is_numbered_map name =
    bytes_eq (take 3 name) (77 ∷ 65 ∷ 80 ∷ []) && is_digit (slice_index name 3) && is_digit (slice_index name 4) && (slice_index name 5 == 0)

unfoldable pub map_number : List ℕ → ℕ
map_number name = 10 * (slice_index name 3 - 48) + (slice_index name 4 - 48)

unfoldable pub numbered_sky : ℕ → List ℕ
numbered_sky number = cond (nat_lt number SECOND_SKY_MAP) SKY1 (cond (nat_lt number THIRD_SKY_MAP) SKY2 SKY3)

-- the name of the sky's texture; maps of other names have the first
unfoldable pub sky_name : List ℕ → List ℕ
sky_name name =
    cond (is_episode_map name) (episode_sky (slice_index name 1)) (cond (is_numbered_map name) (numbered_sky (map_number name)) SKY1)

-- the flat of that name is the sky, whether or not there is such a lump
unfoldable pub is_sky_name : List ℕ → Bool
is_sky_name name = bytes_eq name SKY_NAME

unfoldable pub shows_sky : Sector → Bool
shows_sky sector = is_sky_name sector.floor_name || is_sky_name sector.ceiling_name

-- a sector has sky
unfoldable pub has_sky : List Sector → Bool
has_sky sectors = list_any shows_sky sectors

-- E3M1, MAP11, MAP12 and MAP1
pub sky_episode_row : sky_name (69 ∷ 51 ∷ 77 ∷ 49 ∷ 0 ∷ 0 ∷ 0 ∷ 0 ∷ []) ≡ SKY3
unfolding sky_name is_episode_map episode_sky
sky_episode_row = refl

pub sky_first_row : sky_name (77 ∷ 65 ∷ 80 ∷ 49 ∷ 49 ∷ 0 ∷ 0 ∷ 0 ∷ []) ≡ SKY1
unfolding sky_name is_episode_map is_numbered_map is_digit map_number numbered_sky
sky_first_row = refl

pub sky_second_row : sky_name (77 ∷ 65 ∷ 80 ∷ 49 ∷ 50 ∷ 0 ∷ 0 ∷ 0 ∷ []) ≡ SKY2
unfolding sky_name is_episode_map is_numbered_map is_digit map_number numbered_sky
sky_second_row = refl

pub sky_other_row : sky_name (77 ∷ 65 ∷ 80 ∷ 49 ∷ 0 ∷ 0 ∷ 0 ∷ 0 ∷ []) ≡ SKY1
unfolding sky_name is_episode_map is_numbered_map is_digit map_number numbered_sky
sky_other_row = refl
