-- The words of the rules below that this crate cites, by the page that each comes from.
pub use Rattle.picture_rules.specs.Words.{AreInColumn, AreInFrame, AreWide, Art, Dot, FRAME_HEIGHT, FRAME_WIDTH, PLANE, Painter, Plane, ViewShape, ViewValue, bits_of}
unfoldable pub use Rattle.picture_rules.specs.Words.{add, check, check_plane, column, distance_map, empty_plane, find, flat_colour, floor_colour, floor_dots, holds, holds_row, is_free, is_sky_key, joined_lists, last_dot, light_number, listed, lump_source, mark, number_of, painter_of, pixel_place, plane_dots, plane_dots_by, plane_gaps, row_distance, row_runs, run_dots, runs, same_flat, same_key, same_word, shade, span_colour, span_dots, span_start, with_run}
pub use Rattle.picture_rules.specs.declared.{plane.Flat4.Flat4, plane.Flat4.TheVariants.Lump, plane.Flat4.TheVariants.Sky, plane.PlaneKey.PlaneKey}
pub use Rattle.picture_rules.specs.declared.plane.TheConstants.{MOST_VISPLANES}
