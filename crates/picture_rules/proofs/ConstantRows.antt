-- The value of each constant that a clause or a definition cites, by evaluation.
use Rattle.std.specs.Prelude.{pos, refl, ◌≡◌}
use Rattle.picture_rules.specs.declared.list.TheConstants.{MOST_TOLD}
use Rattle.picture_rules.specs.declared.plane.TheConstants.{MOST_VISPLANES, SKY_MAP, SKY_MID, SKY_SHIFT}
use Rattle.picture_rules.specs.declared.sprite.TheConstants.{MAX_VISSPRITES, MIN_DEPTH, ROTATION_SHIFT, ROTATION_TURN, SIDE_SHIFT, WEAPON_CENTRE, WEAPON_MID}
use Rattle.picture_rules.specs.declared.wall.TheConstants.{EDGE_BITS, HEIGHT_SHIFT, MAX_EDGE_FRACTION, MOST_OPENINGS, SIL_BOTTOM, SIL_TOP}

-- src/list.rt
most_told_row : MOST_TOLD ≡ 18446744073709551615
most_told_row = refl

-- src/plane.rt
most_visplanes_row : MOST_VISPLANES ≡ 1024
most_visplanes_row = refl

sky_shift_row : SKY_SHIFT ≡ 22
sky_shift_row = refl

sky_mid_row : SKY_MID ≡ pos 6553600
sky_mid_row = refl

sky_map_row : SKY_MAP ≡ 0
sky_map_row = refl

-- src/sprite.rt
max_vissprites_row : MAX_VISSPRITES ≡ 128
max_vissprites_row = refl

min_depth_row : MIN_DEPTH ≡ pos 262144
min_depth_row = refl

side_shift_row : SIDE_SHIFT ≡ 2
side_shift_row = refl

rotation_shift_row : ROTATION_SHIFT ≡ 29
rotation_shift_row = refl

rotation_turn_row : ROTATION_TURN ≡ 2415919104
rotation_turn_row = refl

weapon_centre_row : WEAPON_CENTRE ≡ pos 10485760
weapon_centre_row = refl

weapon_mid_row : WEAPON_MID ≡ pos 6553600
weapon_mid_row = refl

-- src/wall.rt
height_shift_row : HEIGHT_SHIFT ≡ 4
height_shift_row = refl

edge_bits_row : EDGE_BITS ≡ 12
edge_bits_row = refl

sil_bottom_row : SIL_BOTTOM ≡ 1
sil_bottom_row = refl

sil_top_row : SIL_TOP ≡ 2
sil_top_row = refl

max_edge_fraction_row : MAX_EDGE_FRACTION ≡ pos 4095
max_edge_fraction_row = refl

most_openings_row : MOST_OPENINGS ≡ 245760
most_openings_row = refl
