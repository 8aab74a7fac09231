-- Laws of `sky_name`.
use Rattle.word_rules.proofs.Common.{ap, Bool, cond, false, if◌then◌else◌, length, List, nat_lt, refl, slice_index, Some, sym, true, ℕ, ◌<◌, ◌==◌, ◌∙◌, ◌≡◌}
use Rattle.word_rules.proofs.LeastLemmas.{least-is}
use Rattle.lump_rules.specs.Names.{name_of, filled}
use Rattle.art_rules.specs.Textures.{Texture, is_named, is_no_texture, least_named, texture_number}
use Rattle.scene_rules.specs.declared.TheConstants.{SKY1, SKY2, SKY3, SKY4, SECOND_SKY_MAP, THIRD_SKY_MAP}
use Rattle.scene_rules.specs.Skies.{is_episode_map, episode_sky, is_numbered_map, map_number, numbered_sky, sky_name}

-- what holds of the four names of skies
record HoldsOfSkies (P : List ℕ → Type 0) : Type 0 where
  first : P SKY1
  second : P SKY2
  third : P SKY3
  fourth : P SKY4

one_of : (P : List ℕ → Type 0) (b : Bool) (x y : List ℕ) → P x → P y → P (cond b x y)
one_of P true x y p q = p
one_of P false x y p q = q

module _ (P : List ℕ → Type 0) (holds : HoldsOfSkies P) where
  of_episode : (digit : ℕ) → P (episode_sky digit)
  unfolding episode_sky
  of_episode digit = one_of P (digit == 49) _ _ holds.first (one_of P (digit == 50) _ _ holds.second (one_of P (digit == 51) _ _ holds.third holds.fourth))

  of_numbered : (number : ℕ) → P (numbered_sky number)
  unfolding numbered_sky
  of_numbered number = one_of P (nat_lt number SECOND_SKY_MAP) _ _ holds.first (one_of P (nat_lt number THIRD_SKY_MAP) _ _ holds.second holds.third)

  -- it holds of the sky of each map
  of_map : (name : List ℕ) → P (sky_name name)
  unfolding sky_name
  of_map name = one_of P (is_episode_map name) _ _ (of_episode (slice_index name 1)) (one_of P (is_numbered_map name) _ _ (of_numbered (map_number name)) holds.first)

-- the name of a sky is in capitals already
pub sky_is_name : (name : List ℕ) → name_of (sky_name name) ≡ sky_name name
unfolding filled
sky_is_name name = of_map (λ sky. name_of sky ≡ sky) (record { first = refl; second = refl; third = refl; fourth = refl }) name

sky_is_texture : (name : List ℕ) → is_no_texture (sky_name name) ≡ false
unfolding is_no_texture
sky_is_texture name = of_map (λ sky. is_no_texture sky ≡ false) (record { first = refl; second = refl; third = refl; fourth = refl }) name

-- the texture of a sky is one of the list, also where its number is 0
pub sky_is_listed : (textures : List Texture) (name : List ℕ) (number : ℕ) → texture_number textures (sky_name name) ≡ Some number → number < length textures
unfolding texture_number least_named
sky_is_listed textures name number found =
    (least-is (is_named textures (sky_name name)) (length textures) number (sym (ap (λ b. if b then Some 0 else least_named textures (sky_name name)) (sky_is_texture name)) ∙ found)).0
