-- The value of each constant that a clause or a definition cites, by evaluation.
use Rattle.std.specs.Prelude.{neg_ℤ, pos, refl, ◌≡◌}
use Rattle.csv_tables.specs.declared.columns.TheConstants.{FIRST_FRAME, FIRST_VISIBLE, GREATEST_PLACE, LAST_FRAME, LAST_VISIBLE, LEAST_PLACE, SPRITE_LENGTH}
use Rattle.csv_tables.specs.declared.path.TheConstants.{LIT_WIDTH, MAX_ANGLE, MAX_COLORMAP, MAX_EXTRALIGHT, MAX_VIEWS, PLAIN_WIDTH}
use Rattle.csv_tables.specs.declared.records.TheConstants.{MAX_TABLE_BYTES}
use Rattle.csv_tables.specs.declared.things.TheConstants.{MAX_HANG, MAX_THINGS, MAX_TYPE, THING_WIDTH, TYPES}
use Rattle.csv_tables.specs.declared.weapons.TheConstants.{MAX_VIEW, MAX_WEAPONS, WEAPON_WIDTH}

-- src/columns.rt
least_place_row : LEAST_PLACE ≡ neg_ℤ (pos 2147483648)
least_place_row = refl

greatest_place_row : GREATEST_PLACE ≡ pos 2147483647
greatest_place_row = refl

sprite_length_row : SPRITE_LENGTH ≡ 4
sprite_length_row = refl

first_visible_row : FIRST_VISIBLE ≡ 33
first_visible_row = refl

last_visible_row : LAST_VISIBLE ≡ 126
last_visible_row = refl

first_frame_row : FIRST_FRAME ≡ 65
first_frame_row = refl

last_frame_row : LAST_FRAME ≡ 93
last_frame_row = refl

-- src/path.rt
max_views_row : MAX_VIEWS ≡ 10000
max_views_row = refl

plain_width_row : PLAIN_WIDTH ≡ 4
plain_width_row = refl

lit_width_row : LIT_WIDTH ≡ 6
lit_width_row = refl

max_angle_row : MAX_ANGLE ≡ 4294967295
max_angle_row = refl

max_extralight_row : MAX_EXTRALIGHT ≡ 15
max_extralight_row = refl

max_colormap_row : MAX_COLORMAP ≡ 32
max_colormap_row = refl

-- src/records.rt
max_table_bytes_row : MAX_TABLE_BYTES ≡ 1048576
max_table_bytes_row = refl

-- src/things.rt
max_things_row : MAX_THINGS ≡ 4096
max_things_row = refl

thing_width_row : THING_WIDTH ≡ 6
thing_width_row = refl

max_type_row : MAX_TYPE ≡ 65535
max_type_row = refl

types_row : TYPES ≡ 65536
types_row = refl

max_hang_row : MAX_HANG ≡ 32767
max_hang_row = refl

-- src/weapons.rt
max_weapons_row : MAX_WEAPONS ≡ 20000
max_weapons_row = refl

weapon_width_row : WEAPON_WIDTH ≡ 6
weapon_width_row = refl

max_view_row : MAX_VIEW ≡ 9999
max_view_row = refl
