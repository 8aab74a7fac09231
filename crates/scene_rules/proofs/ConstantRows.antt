-- The value of each constant that a clause or a definition cites, by evaluation.
use Rattle.std.specs.Prelude.{[], codes, pos, refl, ◌++◌, ◌∷◌, ◌≡◌}
use Rattle.scene_rules.specs.declared.TheConstants.{COLORMAP, COLORMAP_SIZE, EASY, EIGHTH_DEGREES, HARD, LAST_EASY, NORMAL, NORMAL_SKILL, NOT_ALONE, PALETTE_SIZE, PLAYPAL, SECOND_SKY_MAP, SKY1, SKY2, SKY3, SKY4, SKY_NAME, THIRD_SKY_MAP}

-- src/lib.rt
colormap_row : COLORMAP ≡ codes "COLORMAP"
colormap_row = refl

playpal_row : PLAYPAL ≡ codes "PLAYPAL" ++ 0 ∷ []
playpal_row = refl

colormap_size_row : COLORMAP_SIZE ≡ 8192
colormap_size_row = refl

palette_size_row : PALETTE_SIZE ≡ 768
palette_size_row = refl

sky_name_row : SKY_NAME ≡ codes "F_SKY1" ++ 0 ∷ 0 ∷ []
sky_name_row = refl

sky1_row : SKY1 ≡ codes "SKY1" ++ 0 ∷ 0 ∷ 0 ∷ 0 ∷ []
sky1_row = refl

sky2_row : SKY2 ≡ codes "SKY2" ++ 0 ∷ 0 ∷ 0 ∷ 0 ∷ []
sky2_row = refl

sky3_row : SKY3 ≡ codes "SKY3" ++ 0 ∷ 0 ∷ 0 ∷ 0 ∷ []
sky3_row = refl

sky4_row : SKY4 ≡ codes "SKY4" ++ 0 ∷ 0 ∷ 0 ∷ 0 ∷ []
sky4_row = refl

second_sky_map_row : SECOND_SKY_MAP ≡ 12
second_sky_map_row = refl

third_sky_map_row : THIRD_SKY_MAP ≡ 21
third_sky_map_row = refl

easy_row : EASY ≡ 1
easy_row = refl

normal_row : NORMAL ≡ 2
normal_row = refl

hard_row : HARD ≡ 4
hard_row = refl

not_alone_row : NOT_ALONE ≡ 16
not_alone_row = refl

last_easy_row : LAST_EASY ≡ 2
last_easy_row = refl

normal_skill_row : NORMAL_SKILL ≡ 3
normal_skill_row = refl

eighth_degrees_row : EIGHTH_DEGREES ≡ pos 45
eighth_degrees_row = refl
