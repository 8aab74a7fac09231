-- The words of the rules below that this crate cites, by the page that each comes from.
pub use Rattle.art_rules.specs.Words.{Fault, Lump, ShelfView, fault_above}
unfoldable pub use Rattle.art_rules.specs.Words.{lump_bytes}
pub use Rattle.picture_rules.specs.Words.{AreNoted, Art, Dot, Draws, FRAME_HEIGHT, FRAME_WIDTH, Finds, IsAmongPlanes, IsClip, IsClipAmong, IsListAt, IsSoundNow, IsWholeNote, LIGHT_LEVELS, ListsApart, MAX_DRAWSEGS, MAX_SCALE, MIN_SCALE, MarkAlike, Painter, Plane, PlaneChoice, PlaneWall, PlanesNow, Seg, Step, Surface, ViewShape, ViewValue, WALL, Wall, WallStrip, minus_one, no_part, no_planes}
unfoldable pub use Rattle.picture_rules.specs.Words.{above_clip, add, after_event, below_clip, bottom_clip, bottom_clips, bottom_first, bottom_part, bottom_rows, ceiling_after, ceiling_checked, ceiling_found, ceiling_marks, ceiling_past_none, ceiling_past_top, ceiling_rows, check, check_plane, check_some, checked_plane, clamp_word, clip_after, clip_before, clip_note, clip_past, column_dots, column_marked, columns_marked, edge_at, edges_at, empty_plane, find, floor_after, floor_checked, floor_found, floor_marks, floor_past_bottom, floor_past_none, floor_rows, fragment_numbers, greater_word, greatest_clip, has_column, has_texture, inverse_word, is_free, is_masked, joined_lists, least_clip, lesser_word, light_number, limit_of, listed, listed_from, marked_rows, middle_columns, middle_part, middle_rows, minus, narrowed_clip, natural, note_at, notes_from, number_of, numbers_by, open_clip, openings_count, openings_counts, openings_list, openings_of, painter_of, passes_limit, past_some, past_wall, place_if, plane_counts, plane_wall, planes_count, plus, room_if, row_fraction, row_from, row_to, rows_between, saved_by, saved_from, saved_if, saves_bottom, saves_top, scale_at, scale_by, scale_map, scale_of_column, scale_step, seg_light, set_run, shr_word, shut_clip, silhouette_of, step_at, strip_dots, strip_of, texel_row, texture_column, times, top_clip, top_clips, top_last, top_part, top_rows, view_notes, wall_colour, wall_column, wall_column_by, wall_dots, wall_edges, wall_first, wall_last, wall_marked, wall_of, wall_step, wall_strips, with_ceiling, with_floor}
pub use Rattle.picture_rules.specs.declared.{Limits.Limits, OverLimit.OverLimit}
pub use Rattle.picture_rules.specs.declared.{plane.PlaneKey.PlaneKey, wall.Clip.Clip}
pub use Rattle.picture_rules.specs.declared.wall.Clip.TheVariants.{Absent, Constant, Saved}
pub use Rattle.picture_rules.specs.declared.{wall.ColumnClip.ColumnClip, wall.Edges.Edges}
pub use Rattle.picture_rules.specs.declared.wall.FragmentNote.{FragmentNote}
pub use Rattle.picture_rules.specs.declared.{wall.FragmentNumbers.FragmentNumbers, wall.Part.Part}
pub use Rattle.picture_rules.specs.declared.wall.RowRange.{RowRange}
pub use Rattle.picture_rules.specs.declared.wall.TheConstants.{MAX_EDGE_FRACTION, MOST_OPENINGS, SIL_BOTTOM, SIL_TOP}
pub use Rattle.picture_rules.specs.declared.wall.WallFacts.{WallFacts}
