-- The value of each constant that a clause or a definition cites, by evaluation.
use Rattle.std.specs.Prelude.{refl, ◌≡◌}
use Rattle.made_rules.specs.declared.TheConstants.{MAX_NUMBER}
use Rattle.made_rules.specs.declared.map.TheConstants.{CELLS_PER_NUMBER, CELL_SIZE, EDGES, LEAF_MARK, LEVEL_THING, NO_SIDE, ONE_SIDED, THING_OPTIONS, TWO_SIDED}
use Rattle.made_rules.specs.declared.path.TheConstants.{ANGLE_STEP, EAST_ROOMS, EAST_STEPS, FREE_STEPS, NORTH_ROOMS, NORTH_STEPS, ROOM_SIZE, VIEWS_PER_NUMBER, WALL_DISTANCE}
use Rattle.made_rules.specs.declared.pictures.TheConstants.{COLORMAPS, COLOURS, FLATS, FLAT_SIZE, GRATE, SKY, TREE, WALL, WALL_NARROW}
use Rattle.made_rules.specs.declared.tables.TheConstants.{SINES, SLOPES, SLOPE_STEP, TANGENTS}
use Rattle.made_rules.specs.declared.wad.TheConstants.{HEAD_SIZE, LUMPS}

-- src/lib.rt
max_number_row : MAX_NUMBER ≡ 32
max_number_row = refl

-- src/map.rt
cells_per_number_row : CELLS_PER_NUMBER ≡ 2
cells_per_number_row = refl

cell_size_row : CELL_SIZE ≡ 128
cell_size_row = refl

edges_row : EDGES ≡ 4
edges_row = refl

leaf_mark_row : LEAF_MARK ≡ 32768
leaf_mark_row = refl

no_side_row : NO_SIDE ≡ 65535
no_side_row = refl

one_sided_row : ONE_SIDED ≡ 1
one_sided_row = refl

two_sided_row : TWO_SIDED ≡ 4
two_sided_row = refl

level_thing_row : LEVEL_THING ≡ 2035
level_thing_row = refl

thing_options_row : THING_OPTIONS ≡ 7
thing_options_row = refl

-- src/path.rt
views_per_number_row : VIEWS_PER_NUMBER ≡ 3
views_per_number_row = refl

room_size_row : ROOM_SIZE ≡ 256
room_size_row = refl

wall_distance_row : WALL_DISTANCE ≡ 40
wall_distance_row = refl

free_steps_row : FREE_STEPS ≡ 176
free_steps_row = refl

east_rooms_row : EAST_ROOMS ≡ 1
east_rooms_row = refl

east_steps_row : EAST_STEPS ≡ 37
east_steps_row = refl

north_rooms_row : NORTH_ROOMS ≡ 7
north_rooms_row = refl

north_steps_row : NORTH_STEPS ≡ 53
north_steps_row = refl

angle_step_row : ANGLE_STEP ≡ 286331153
angle_step_row = refl

-- src/pictures.rt
wall_row : WALL ≡ record { width = 64; height = 128; left = 0; top = 0; seed = 16 }
wall_row = refl

wall_narrow_row : WALL_NARROW ≡ record { width = 32; height = 128; left = 0; top = 0; seed = 90 }
wall_narrow_row = refl

grate_row : GRATE ≡ record { width = 64; height = 128; left = 0; top = 0; seed = 40 }
grate_row = refl

sky_row : SKY ≡ record { width = 256; height = 128; left = 0; top = 0; seed = 7 }
sky_row = refl

tree_row : TREE ≡ record { width = 32; height = 64; left = 16; top = 64; seed = 120 }
tree_row = refl

colours_row : COLOURS ≡ 256
colours_row = refl

colormaps_row : COLORMAPS ≡ 32
colormaps_row = refl

flats_row : FLATS ≡ 4
flats_row = refl

flat_size_row : FLAT_SIZE ≡ 4096
flat_size_row = refl

-- src/tables.rt
sines_row : SINES ≡ 10240
sines_row = refl

tangents_row : TANGENTS ≡ 4096
tangents_row = refl

slope_step_row : SLOPE_STEP ≡ 32
slope_step_row = refl

slopes_row : SLOPES ≡ 2049
slopes_row = refl

-- src/wad.rt
head_size_row : HEAD_SIZE ≡ 12
head_size_row = refl

lumps_row : LUMPS ≡ 26
lumps_row = refl
