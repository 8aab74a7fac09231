-- The value of each constant that a clause or a definition cites, by evaluation.
use Rattle.std.specs.Prelude.{refl, ◌≡◌}
use Rattle.refusals.specs.declared.codes.TheConstants.{CODE_ANGLE, CODE_BAD_PATCH, CODE_COLORMAP, CODE_EMPTY_LEAF, CODE_ENTRY, CODE_FIELD_OF_VIEW, CODE_FLAT_NAME, CODE_INDEX, CODE_MAP_SIZE, CODE_MARK_NAME, CODE_MIDDLE, CODE_MISSING_PATCH, CODE_MISSING_ROTATION, CODE_NODE_TWICE, CODE_NOT_WAD, CODE_NO_FRAME, CODE_NO_LEAF, CODE_NO_MAP, CODE_PLAYPAL, CODE_PNAMES, CODE_SECTOR_FLAT, CODE_SHADOW, CODE_SHORT, CODE_SIDE_TEXTURE, CODE_SINE, CODE_SKY_TEXTURE, CODE_TABLES_LENGTH, CODE_TANGENT, CODE_TEXTURE_ENTRY, CODE_TEXTURE_LUMP, CODE_TOO_BIG, CODE_TOO_DEEP, CODE_TOO_MANY, CODE_TRIM_TOO_LARGE, CODE_TRIM_TOO_MANY, CODE_WEAPON_NO_FRAME, CODE_WEAPON_PATCH, CODE_WEAPON_ROTATION, GROUP_PATH, GROUP_THINGS, GROUP_WEAPONS}
use Rattle.refusals.specs.declared.line.TheConstants.{DIGITS, LINE_ROOM, NUMBERS_ROOM, REFUSAL_NUMBERS}

-- src/codes.rt
code_tables_length_row : CODE_TABLES_LENGTH ≡ 101
code_tables_length_row = refl

code_sine_row : CODE_SINE ≡ 102
code_sine_row = refl

code_tangent_row : CODE_TANGENT ≡ 103
code_tangent_row = refl

code_angle_row : CODE_ANGLE ≡ 104
code_angle_row = refl

code_field_of_view_row : CODE_FIELD_OF_VIEW ≡ 105
code_field_of_view_row = refl

group_things_row : GROUP_THINGS ≡ 200
group_things_row = refl

group_path_row : GROUP_PATH ≡ 300
group_path_row = refl

group_weapons_row : GROUP_WEAPONS ≡ 1000
group_weapons_row = refl

code_not_wad_row : CODE_NOT_WAD ≡ 401
code_not_wad_row = refl

code_short_row : CODE_SHORT ≡ 402
code_short_row = refl

code_entry_row : CODE_ENTRY ≡ 403
code_entry_row = refl

code_too_many_row : CODE_TOO_MANY ≡ 404
code_too_many_row = refl

code_colormap_row : CODE_COLORMAP ≡ 501
code_colormap_row = refl

code_playpal_row : CODE_PLAYPAL ≡ 502
code_playpal_row = refl

code_no_map_row : CODE_NO_MAP ≡ 601
code_no_map_row = refl

code_map_size_row : CODE_MAP_SIZE ≡ 602
code_map_size_row = refl

code_no_leaf_row : CODE_NO_LEAF ≡ 603
code_no_leaf_row = refl

code_index_row : CODE_INDEX ≡ 604
code_index_row = refl

code_empty_leaf_row : CODE_EMPTY_LEAF ≡ 605
code_empty_leaf_row = refl

code_node_twice_row : CODE_NODE_TWICE ≡ 606
code_node_twice_row = refl

code_too_deep_row : CODE_TOO_DEEP ≡ 607
code_too_deep_row = refl

code_pnames_row : CODE_PNAMES ≡ 701
code_pnames_row = refl

code_texture_lump_row : CODE_TEXTURE_LUMP ≡ 702
code_texture_lump_row = refl

code_texture_entry_row : CODE_TEXTURE_ENTRY ≡ 703
code_texture_entry_row = refl

code_missing_patch_row : CODE_MISSING_PATCH ≡ 704
code_missing_patch_row = refl

code_too_big_row : CODE_TOO_BIG ≡ 705
code_too_big_row = refl

code_no_frame_row : CODE_NO_FRAME ≡ 801
code_no_frame_row = refl

code_missing_rotation_row : CODE_MISSING_ROTATION ≡ 802
code_missing_rotation_row = refl

code_bad_patch_row : CODE_BAD_PATCH ≡ 803
code_bad_patch_row = refl

code_side_texture_row : CODE_SIDE_TEXTURE ≡ 901
code_side_texture_row = refl

code_sky_texture_row : CODE_SKY_TEXTURE ≡ 902
code_sky_texture_row = refl

code_sector_flat_row : CODE_SECTOR_FLAT ≡ 903
code_sector_flat_row = refl

code_shadow_row : CODE_SHADOW ≡ 904
code_shadow_row = refl

code_middle_row : CODE_MIDDLE ≡ 905
code_middle_row = refl

code_flat_name_row : CODE_FLAT_NAME ≡ 906
code_flat_name_row = refl

code_mark_name_row : CODE_MARK_NAME ≡ 907
code_mark_name_row = refl

code_trim_too_many_row : CODE_TRIM_TOO_MANY ≡ 908
code_trim_too_many_row = refl

code_trim_too_large_row : CODE_TRIM_TOO_LARGE ≡ 909
code_trim_too_large_row = refl

code_weapon_no_frame_row : CODE_WEAPON_NO_FRAME ≡ 1011
code_weapon_no_frame_row = refl

code_weapon_rotation_row : CODE_WEAPON_ROTATION ≡ 1012
code_weapon_rotation_row = refl

code_weapon_patch_row : CODE_WEAPON_PATCH ≡ 1013
code_weapon_patch_row = refl

-- src/line.rt
line_room_row : LINE_ROOM ≡ 200
line_room_row = refl

digits_row : DIGITS ≡ 20
digits_row = refl

refusal_numbers_row : REFUSAL_NUMBERS ≡ 4
refusal_numbers_row = refl

numbers_room_row : NUMBERS_ROOM ≡ 84
numbers_room_row = refl
