-- The words of the rules below that this crate cites, by the page that each comes from.
pub use Rattle.view_rules.specs.Angles.{Angles}
unfoldable pub use Rattle.view_rules.specs.Angles.{angle_at, cosine_at, sine_at, tangent_at}
pub use Rattle.view_rules.specs.Refusals.{is_wrong_left, refused_at}
unfoldable pub use Rattle.view_rules.specs.Refusals.{angles_in, angles_refusal, is_wrong_angle, is_wrong_edge, is_wrong_sine, is_wrong_tangent, is_wrong_view, signed_in, tables_refusal, view_refusal, word_in}
unfoldable pub use Rattle.view_rules.specs.Shape.{height_of_size, left_of_size, shape_of_size, top_of_size, width_of_size}
pub use Rattle.view_rules.specs.Sound.{IsSound, IsWithinFrame}
unfoldable pub use Rattle.view_rules.specs.Tables.{angle_dist_scale, angle_of_column, clip_angle, column_of_angle, dist_scale, distance_light, fine_of_column, first_seen_by, focal_length, is_seen_by, near_light, projection, raw_column, scale_light, seen_column, start_map, within_view, y_slope}
pub use Rattle.view_rules.specs.View.{TablesValue}
pub use Rattle.view_rules.specs.declared.{Spans.TheVariants.Full, TablesRefusal.TablesRefusal}
pub use Rattle.view_rules.specs.declared.TablesRefusal.TheVariants.{Angle, Sine, Tangent}
pub use Rattle.view_rules.specs.declared.TheConstants.{COLORMAPS, COSINE_START, DISTANCE_STEPS, FRAME_HEIGHT, FRAME_WIDTH, LIGHT_LEVELS, MAX_SIZE, MIN_SIZE, ROWS_ABOVE_BAR, SCALE_STEPS, SINES, SLOPE_ANGLES, TABLES_BYTES, TANGENTS}
pub use Rattle.view_rules.specs.declared.ViewShape.{ViewShape}
unfoldable pub use Rattle.word_rules.specs.Least.{least}
unfoldable pub use Rattle.word_rules.specs.Listed.{listed}
pub use Rattle.word_rules.specs.Words.{ang90, turn_back}
pub use Rattle.word_rules.specs.declared.TheConstants.{FINE_SHIFT, WORD_SIZE}
