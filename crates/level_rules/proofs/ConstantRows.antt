-- The value of each constant that a clause or a definition cites, by evaluation.
use Rattle.std.specs.Prelude.{refl, ◌≡◌}
use Rattle.level_rules.specs.declared.TheConstants.{BOTTOM_UNPEGGED, MAX_DEPTH, SKY_FLAT, TOP_UNPEGGED, TWO_SIDED}
use Rattle.level_rules.specs.declared.maps.layout.TheConstants.{BOX_BOTTOM, BOX_LEFT, BOX_RIGHT, BOX_TOP, LEAF_COUNT, LEAF_FIRST, LEAF_FIRST_FIELD, LEAF_SIZE, LINE_BACK, LINE_BACK_FIELD, LINE_FLAGS, LINE_FRONT, LINE_FRONT_FIELD, LINE_SIZE, NAME_SIZE, NODE_BOX_0, NODE_BOX_1, NODE_CHILD_0, NODE_CHILD_0_FIELD, NODE_CHILD_1, NODE_CHILD_1_FIELD, NODE_DX, NODE_DY, NODE_SIZE, NODE_X, NODE_Y, SECTOR_CEILING, SECTOR_CEILING_NAME, SECTOR_FLOOR, SECTOR_FLOOR_NAME, SECTOR_LIGHT, SECTOR_SIZE, SEG_ANGLE, SEG_END, SEG_END_FIELD, SEG_LINE, SEG_LINE_FIELD, SEG_OFFSET, SEG_SIDE, SEG_SIDE_FIELD, SEG_SIZE, SEG_START, SEG_START_FIELD, SIDE_BOTTOM, SIDE_MIDDLE, SIDE_SECTOR, SIDE_SECTOR_FIELD, SIDE_SIZE, SIDE_TOP, SIDE_X_OFFSET, SIDE_Y_OFFSET, THING_ANGLE, THING_KIND, THING_OPTIONS, THING_SIZE, THING_X, THING_Y, VERTEX_SIZE, VERTEX_X, VERTEX_Y}
use Rattle.level_rules.specs.declared.maps.lumps.TheConstants.{LEAF_BIT, MAX_RECORDS, NO_SIDE}
use Rattle.level_rules.specs.declared.walk.TheConstants.{MAX_DRAWSEGS}

-- src/lib.rt
max_depth_row : MAX_DEPTH ≡ 1024
max_depth_row = refl

two_sided_row : TWO_SIDED ≡ 4
two_sided_row = refl

top_unpegged_row : TOP_UNPEGGED ≡ 8
top_unpegged_row = refl

bottom_unpegged_row : BOTTOM_UNPEGGED ≡ 16
bottom_unpegged_row = refl

sky_flat_row : SKY_FLAT ≡ 65536
sky_flat_row = refl

-- src/maps/layout.rt
name_size_row : NAME_SIZE ≡ 8
name_size_row = refl

thing_size_row : THING_SIZE ≡ 10
thing_size_row = refl

thing_x_row : THING_X ≡ 0
thing_x_row = refl

thing_y_row : THING_Y ≡ 2
thing_y_row = refl

thing_angle_row : THING_ANGLE ≡ 4
thing_angle_row = refl

thing_kind_row : THING_KIND ≡ 6
thing_kind_row = refl

thing_options_row : THING_OPTIONS ≡ 8
thing_options_row = refl

line_size_row : LINE_SIZE ≡ 14
line_size_row = refl

line_flags_row : LINE_FLAGS ≡ 4
line_flags_row = refl

line_front_row : LINE_FRONT ≡ 10
line_front_row = refl

line_back_row : LINE_BACK ≡ 12
line_back_row = refl

side_size_row : SIDE_SIZE ≡ 30
side_size_row = refl

side_x_offset_row : SIDE_X_OFFSET ≡ 0
side_x_offset_row = refl

side_y_offset_row : SIDE_Y_OFFSET ≡ 2
side_y_offset_row = refl

side_top_row : SIDE_TOP ≡ 4
side_top_row = refl

side_bottom_row : SIDE_BOTTOM ≡ 12
side_bottom_row = refl

side_middle_row : SIDE_MIDDLE ≡ 20
side_middle_row = refl

side_sector_row : SIDE_SECTOR ≡ 28
side_sector_row = refl

vertex_size_row : VERTEX_SIZE ≡ 4
vertex_size_row = refl

vertex_x_row : VERTEX_X ≡ 0
vertex_x_row = refl

vertex_y_row : VERTEX_Y ≡ 2
vertex_y_row = refl

seg_size_row : SEG_SIZE ≡ 12
seg_size_row = refl

seg_start_row : SEG_START ≡ 0
seg_start_row = refl

seg_end_row : SEG_END ≡ 2
seg_end_row = refl

seg_angle_row : SEG_ANGLE ≡ 4
seg_angle_row = refl

seg_line_row : SEG_LINE ≡ 6
seg_line_row = refl

seg_side_row : SEG_SIDE ≡ 8
seg_side_row = refl

seg_offset_row : SEG_OFFSET ≡ 10
seg_offset_row = refl

leaf_size_row : LEAF_SIZE ≡ 4
leaf_size_row = refl

leaf_count_row : LEAF_COUNT ≡ 0
leaf_count_row = refl

leaf_first_row : LEAF_FIRST ≡ 2
leaf_first_row = refl

node_size_row : NODE_SIZE ≡ 28
node_size_row = refl

node_x_row : NODE_X ≡ 0
node_x_row = refl

node_y_row : NODE_Y ≡ 2
node_y_row = refl

node_dx_row : NODE_DX ≡ 4
node_dx_row = refl

node_dy_row : NODE_DY ≡ 6
node_dy_row = refl

node_box_0_row : NODE_BOX_0 ≡ 8
node_box_0_row = refl

node_box_1_row : NODE_BOX_1 ≡ 16
node_box_1_row = refl

node_child_0_row : NODE_CHILD_0 ≡ 24
node_child_0_row = refl

node_child_1_row : NODE_CHILD_1 ≡ 26
node_child_1_row = refl

box_top_row : BOX_TOP ≡ 0
box_top_row = refl

box_bottom_row : BOX_BOTTOM ≡ 2
box_bottom_row = refl

box_left_row : BOX_LEFT ≡ 4
box_left_row = refl

box_right_row : BOX_RIGHT ≡ 6
box_right_row = refl

sector_size_row : SECTOR_SIZE ≡ 26
sector_size_row = refl

sector_floor_row : SECTOR_FLOOR ≡ 0
sector_floor_row = refl

sector_ceiling_row : SECTOR_CEILING ≡ 2
sector_ceiling_row = refl

sector_floor_name_row : SECTOR_FLOOR_NAME ≡ 4
sector_floor_name_row = refl

sector_ceiling_name_row : SECTOR_CEILING_NAME ≡ 12
sector_ceiling_name_row = refl

sector_light_row : SECTOR_LIGHT ≡ 20
sector_light_row = refl

line_front_field_row : LINE_FRONT_FIELD ≡ 5
line_front_field_row = refl

line_back_field_row : LINE_BACK_FIELD ≡ 6
line_back_field_row = refl

side_sector_field_row : SIDE_SECTOR_FIELD ≡ 5
side_sector_field_row = refl

seg_start_field_row : SEG_START_FIELD ≡ 0
seg_start_field_row = refl

seg_end_field_row : SEG_END_FIELD ≡ 1
seg_end_field_row = refl

seg_line_field_row : SEG_LINE_FIELD ≡ 3
seg_line_field_row = refl

seg_side_field_row : SEG_SIDE_FIELD ≡ 4
seg_side_field_row = refl

leaf_first_field_row : LEAF_FIRST_FIELD ≡ 1
leaf_first_field_row = refl

node_child_0_field_row : NODE_CHILD_0_FIELD ≡ 12
node_child_0_field_row = refl

node_child_1_field_row : NODE_CHILD_1_FIELD ≡ 13
node_child_1_field_row = refl

-- src/maps/lumps.rt
max_records_row : MAX_RECORDS ≡ 65535
max_records_row = refl

no_side_row : NO_SIDE ≡ 65535
no_side_row = refl

leaf_bit_row : LEAF_BIT ≡ 32768
leaf_bit_row = refl

-- src/walk.rt
max_drawsegs_row : MAX_DRAWSEGS ≡ 256
max_drawsegs_row = refl
