-- The value of each constant that a clause or a definition cites, by evaluation.
use Rattle.std.specs.Prelude.{[], codes, refl, ◌++◌, ◌∷◌, ◌≡◌}
use Rattle.art_rules.specs.declared.layout.TheConstants.{COLUMN_PLACES_AT, COLUMN_PLACE_SIZE, COUNT_SIZE, ENTRY_NUMBER_AT, ENTRY_SIZE, ENTRY_Y_AT, LEFT_AT, NAME_SIZE, PATCH_COUNT_AT, PATCH_HEADER_SIZE, PLACE_SIZE, POSTS_END, POST_BYTES_AT, POST_LENGTH_AT, TEXTURE_HEAD_SIZE, TEXTURE_HEIGHT_AT, TEXTURE_WIDTH_AT, TOP_AT}
use Rattle.art_rules.specs.declared.TheConstants.{COLOUR_SIZE, FIRST_FRAME, FIRST_LIST, FIRST_ROTATION, LAST_FRAME, LAST_ROTATION, MAX_COMPOSITE, MAX_TEXTURES, NO_TEXTURE, PNAMES, ROTATIONS, SECOND_LIST, SECOND_PAIR_AT, SPRITE_LETTERS, TEXTURE1, TEXTURE2}

-- src/layout.rt
name_size_row : NAME_SIZE ≡ 8
name_size_row = refl

count_size_row : COUNT_SIZE ≡ 4
count_size_row = refl

place_size_row : PLACE_SIZE ≡ 4
place_size_row = refl

patch_header_size_row : PATCH_HEADER_SIZE ≡ 8
patch_header_size_row = refl

left_at_row : LEFT_AT ≡ 4
left_at_row = refl

top_at_row : TOP_AT ≡ 6
top_at_row = refl

column_places_at_row : COLUMN_PLACES_AT ≡ 8
column_places_at_row = refl

column_place_size_row : COLUMN_PLACE_SIZE ≡ 4
column_place_size_row = refl

post_length_at_row : POST_LENGTH_AT ≡ 1
post_length_at_row = refl

post_bytes_at_row : POST_BYTES_AT ≡ 3
post_bytes_at_row = refl

posts_end_row : POSTS_END ≡ 255
posts_end_row = refl

texture_width_at_row : TEXTURE_WIDTH_AT ≡ 12
texture_width_at_row = refl

texture_height_at_row : TEXTURE_HEIGHT_AT ≡ 14
texture_height_at_row = refl

patch_count_at_row : PATCH_COUNT_AT ≡ 20
patch_count_at_row = refl

texture_head_size_row : TEXTURE_HEAD_SIZE ≡ 22
texture_head_size_row = refl

entry_size_row : ENTRY_SIZE ≡ 10
entry_size_row = refl

entry_y_at_row : ENTRY_Y_AT ≡ 2
entry_y_at_row = refl

entry_number_at_row : ENTRY_NUMBER_AT ≡ 4
entry_number_at_row = refl

-- src/lib.rt
max_textures_row : MAX_TEXTURES ≡ 32767
max_textures_row = refl

max_composite_row : MAX_COMPOSITE ≡ 65536
max_composite_row = refl

colour_size_row : COLOUR_SIZE ≡ 3
colour_size_row = refl

no_texture_row : NO_TEXTURE ≡ 45
no_texture_row = refl

sprite_letters_row : SPRITE_LETTERS ≡ 4
sprite_letters_row = refl

second_pair_at_row : SECOND_PAIR_AT ≡ 6
second_pair_at_row = refl

first_frame_row : FIRST_FRAME ≡ 65
first_frame_row = refl

last_frame_row : LAST_FRAME ≡ 93
last_frame_row = refl

first_rotation_row : FIRST_ROTATION ≡ 48
first_rotation_row = refl

last_rotation_row : LAST_ROTATION ≡ 56
last_rotation_row = refl

rotations_row : ROTATIONS ≡ 8
rotations_row = refl

first_list_row : FIRST_LIST ≡ 1
first_list_row = refl

second_list_row : SECOND_LIST ≡ 2
second_list_row = refl

pnames_row : PNAMES ≡ codes "PNAMES" ++ 0 ∷ 0 ∷ []
pnames_row = refl

texture1_row : TEXTURE1 ≡ codes "TEXTURE1"
texture1_row = refl

texture2_row : TEXTURE2 ≡ codes "TEXTURE2"
texture2_row = refl
