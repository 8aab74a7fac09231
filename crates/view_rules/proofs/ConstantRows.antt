-- The value of each constant that a clause or a definition cites, by evaluation.
use Rattle.std.specs.Prelude.{pos, refl, ◌≡◌}
use Rattle.view_rules.specs.declared.formula.TheConstants.{HALF_STEPS, HALF_TURN, ONE, QUARTER}
use Rattle.view_rules.specs.declared.TheConstants.{COLORMAPS, COLUMNS_PER_SIZE, COSINE_START, DISTANCE_SHIFT, DISTANCE_STEPS, EDGE_TANGENT, FINE_AHEAD, FRAME_HEIGHT, FRAME_WIDTH, HALF_UNIT, LIGHT_LEVELS, LIGHT_SHIFT, MAX_EDGE_TANGENT, MAX_FRACTION, MAX_SCALE, MAX_SINE, MAX_SIZE, MAX_SLOPE_ANGLE, MAX_TANGENT, MIN_EDGE_TANGENT, MIN_SCALE, MIN_SIZE, ROWS_ABOVE_BAR, ROWS_STEP, SCALE_SHIFT, SCALE_STEPS, SINES, SLOPE_ANGLES, SLOPE_BITS, TABLES_BYTES, TANGENTS, WIDEST_SIZE}

-- src/formula.rt
half_turn_row : HALF_TURN ≡ 4096
half_turn_row = refl

half_steps_row : HALF_STEPS ≡ 8192
half_steps_row = refl

quarter_row : QUARTER ≡ 2048
quarter_row = refl

one_row : ONE ≡ 65536
one_row = refl

-- src/lib.rt
min_size_row : MIN_SIZE ≡ 3
min_size_row = refl

max_size_row : MAX_SIZE ≡ 11
max_size_row = refl

widest_size_row : WIDEST_SIZE ≡ 10
widest_size_row = refl

columns_per_size_row : COLUMNS_PER_SIZE ≡ 32
columns_per_size_row = refl

frame_width_row : FRAME_WIDTH ≡ 320
frame_width_row = refl

frame_height_row : FRAME_HEIGHT ≡ 200
frame_height_row = refl

rows_above_bar_row : ROWS_ABOVE_BAR ≡ 168
rows_above_bar_row = refl

rows_step_row : ROWS_STEP ≡ 8
rows_step_row = refl

sines_row : SINES ≡ 10240
sines_row = refl

tangents_row : TANGENTS ≡ 4096
tangents_row = refl

slope_angles_row : SLOPE_ANGLES ≡ 2049
slope_angles_row = refl

tables_bytes_row : TABLES_BYTES ≡ 65540
tables_bytes_row = refl

cosine_start_row : COSINE_START ≡ 2048
cosine_start_row = refl

fine_ahead_row : FINE_AHEAD ≡ 2048
fine_ahead_row = refl

edge_tangent_row : EDGE_TANGENT ≡ 3072
edge_tangent_row = refl

min_edge_tangent_row : MIN_EDGE_TANGENT ≡ pos 32768
min_edge_tangent_row = refl

max_edge_tangent_row : MAX_EDGE_TANGENT ≡ pos 131072
max_edge_tangent_row = refl

max_tangent_row : MAX_TANGENT ≡ pos 131072
max_tangent_row = refl

max_sine_row : MAX_SINE ≡ pos 65536
max_sine_row = refl

max_slope_angle_row : MAX_SLOPE_ANGLE ≡ 536870912
max_slope_angle_row = refl

half_unit_row : HALF_UNIT ≡ pos 32768
half_unit_row = refl

max_fraction_row : MAX_FRACTION ≡ pos 65535
max_fraction_row = refl

slope_bits_row : SLOPE_BITS ≡ 5
slope_bits_row = refl

min_scale_row : MIN_SCALE ≡ pos 256
min_scale_row = refl

max_scale_row : MAX_SCALE ≡ pos 4194304
max_scale_row = refl

light_levels_row : LIGHT_LEVELS ≡ 16
light_levels_row = refl

light_shift_row : LIGHT_SHIFT ≡ 4
light_shift_row = refl

colormaps_row : COLORMAPS ≡ 32
colormaps_row = refl

scale_steps_row : SCALE_STEPS ≡ 48
scale_steps_row = refl

scale_shift_row : SCALE_SHIFT ≡ 12
scale_shift_row = refl

distance_steps_row : DISTANCE_STEPS ≡ 128
distance_steps_row = refl

distance_shift_row : DISTANCE_SHIFT ≡ 20
distance_shift_row = refl
