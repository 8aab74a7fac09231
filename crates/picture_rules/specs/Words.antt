-- The words of this crate and of those below it that others cite, by the page that each comes from.
pub use Rattle.picture_rules.specs.Rules.{AreInColumn, AreInFrame, Art, COMPOSITE, Child, Dot, Event, Eye, FINE_ANGLES, FLAT_SIDE, FRACTION_BITS, FRACTION_UNIT, FRAME_CELLS, FRAME_HEIGHT, FRAME_WIDTH, FragmentEvent, Full, IsSegIn, IsSound, IsWithinFrame, LIGHT_LEVELS, LUMP, Leaf, LeafEvent, LeafFragment, Length, LevelLists, LevelValue, MAX_DEPTH, MAX_DRAWSEGS, MAX_FRACTION, MAX_SCALE, MAX_SIZE, MIDDLE, MIN_SCALE, MIN_SIZE, MapBytes, MapLeaf, MapRefusal, MaskedColumn, Node, PLANE, Painter, PlacedThing, Post, SKY, SKY_FLAT, SPRITE, Sector, Seg, Side, SideTextures, Source, Spans, Surface, TABLES_BYTES, TANGENTS, TablesRefusal, TablesValue, ThingLine, ViewShape, ViewValue, WALL, WEAPON, WalkState, ang180, ang90, bits_of, fine_angle, is_sky, minus_one, no_leaf, no_seg, no_surface, or_else, sky_flat, turn_back, view_of}
unfoldable pub use Rattle.picture_rules.specs.Rules.{abs_word, angle_of_column, angles_in, angles_refusal, at_far, at_leaf, at_leaf_of, at_node, at_seg, at_seg_of, at_segs, back_of, box_passes, bright_map, cell_of, clamp_word, colour_of, column_dots, cosine_at, distance_map, div, drawsegs, enters, faces_differ, far_box, far_child, fixed, fixed_or, fragments, greater_word, greatest, heights_differ, inverse_word, is_at, is_closed, is_covered, is_pass, is_solid, joined_leaves, joined_level, joined_lists, last_dot, last_dot_from, last_leaf, leaf_at, leaf_fragments, least, leaves_entered, lesser_word, level_of, light_number, listed, listed_from, lump_source, map_refusal, mark_or, middle_of, minus, mul, natural, near_child, neg_word, no_leaf_refusal, node_at, painter_of, picture_top, plus, post_bottom, post_colour, post_dots, post_first, post_last, post_rows, post_texel, post_top, posts_dots, put_dots, records_of, records_refusal, row_fraction, rows_between, runs, same_word, scale_at, scale_by, scale_light, scale_map, seg_at, shade, shape_of_size, shr_word, side_by_product, side_by_slope, side_of, signed_of, sine_at, sizes_refusal, span_colour, span_dots, step_at, surface_at, tables_refusal, tangent_at, texel_row, times, unless, view_events, walk_child, walk_start, words_unfolded}
unfoldable pub use Rattle.picture_rules.specs.Counts.{counts_by, counts_from, limit_of, openings_after, openings_count, openings_counts, openings_past, passes_limit, planes_count, steps_over, view_counts, view_over, view_steps}
pub use Rattle.picture_rules.specs.Lists.{ViewListValue}
unfoldable pub use Rattle.picture_rules.specs.Lists.{count_shown, event_list, event_planes, is_seen, is_shown, listed_fragment, listed_plane, listed_sprite, maker_of, makes_entry, marked_columns, plane_makers, planes_made, shown_things, view_list}
unfoldable pub use Rattle.picture_rules.specs.Masked.{drawseg_of, drawsegs_from, own_front, own_mid, view_drawsegs}
pub use Rattle.picture_rules.specs.Noted.{AreNoted, IsClip, IsClipAmong, IsListAt, IsWholeNote, ListsApart}
unfoldable pub use Rattle.picture_rules.specs.Noted.{greatest_clip, least_clip}
unfoldable pub use Rattle.picture_rules.specs.Paints.{overlaid_paints, paints_by, paints_of, view_paints}
pub use Rattle.picture_rules.specs.Picture.{AreInView, FitsFrame}
unfoldable pub use Rattle.picture_rules.specs.Picture.{frame_dot, frame_dots, frame_of, is_in_window, overlaid_picture, overlaid_trace, picture}
pub use Rattle.picture_rules.specs.Planes.{Step}
unfoldable pub use Rattle.picture_rules.specs.Planes.{leaf_step, plane_wall, planes_dots, planes_from, steps_from, steps_of, view_planes, wall_step}
pub use Rattle.picture_rules.specs.Scene.{Scene, no_side, no_textures}
unfoldable pub use Rattle.picture_rules.specs.Scene.{facts_of, fragment_facts, leaf_sector, leaf_surface, side_at, textures_at, wall_texture}
unfoldable pub use Rattle.picture_rules.specs.Things.{first_mentions, is_entered, placed_of, sectors_entered, view_entries, with_sectors, with_seen, with_shape, with_thing, with_things}
unfoldable pub use Rattle.picture_rules.specs.Walls.{fragment_wall, walls_dots, walls_from, walls_of}
pub use Rattle.picture_rules.specs.plane.Built.{IsAmongPlanes, IsSoundNow, MarkAlike, PlaneEvent, PlaneWall, PlanesNow, no_planes}
unfoldable pub use Rattle.picture_rules.specs.plane.Built.{after_event, after_events, ceiling_checked, ceiling_found, checked_plane, column_marked, columns_marked, floor_checked, floor_found, plane_counts, planes_of, set_run, wall_marked, with_ceiling, with_floor}
pub use Rattle.picture_rules.specs.plane.Built.PlaneEvent.{Draws, Finds}
unfoldable pub use Rattle.picture_rules.specs.plane.Floors.{base_angle, base_x, base_y, flat_colour, floor_colour, floor_dots, pixel_place, row_distance, run_dots, span_angle, span_length, span_x, span_y}
unfoldable pub use Rattle.picture_rules.specs.plane.Keys.{ceiling_key, floor_key, is_sky_key, key_of, same_flat, same_key}
pub use Rattle.picture_rules.specs.plane.Planes.{AreWide, Plane, PlaneChoice}
unfoldable pub use Rattle.picture_rules.specs.plane.Planes.{add, check, check_plane, check_some, column, empty_plane, find, is_free, mark, mark_some, number_of, number_or_add, with_run}
unfoldable pub use Rattle.picture_rules.specs.plane.Skies.{plane_dots, plane_dots_by, sky_colour, sky_column, sky_dots}
unfoldable pub use Rattle.picture_rules.specs.plane.Spans.{holds, holds_row, plane_gaps, row_runs, span_start}
unfoldable pub use Rattle.picture_rules.specs.sprite.Clips.{clip_of_number, clip_of_some, gives_bottom, gives_top, greatest_that, passes_at, sprite_bottom, sprite_in_front, sprite_top, stands_in_front}
pub use Rattle.picture_rules.specs.sprite.Drawsegs.{DrawAlike, Drawseg}
unfoldable pub use Rattle.picture_rules.specs.sprite.Drawsegs.{drawseg_has, entry_has, is_behind, is_in_front, seg_line}
unfoldable pub use Rattle.picture_rules.specs.sprite.Entries.{add_entry, edge_column, entry_for, entry_of, entry_within, left_edge, misses_view, picture_first, picture_height, picture_last, right_edge, sprite_map, with_entry}
unfoldable pub use Rattle.picture_rules.specs.sprite.Middles.{columns_at, drawseg_scale, masked_dots, masked_mid, middle_by, middle_column, middle_hangs, middle_masked, middle_stands, middles_at, middles_of, same_number, sprite_step, sprites_from}
unfoldable pub use Rattle.picture_rules.specs.sprite.Order.{draw_order, insert_entry, insert_last, is_smaller}
unfoldable pub use Rattle.picture_rules.specs.sprite.Projection.{depth, project, rotation, seen_at, seen_within, side, sprite_scale, view_cosine, view_sine}
unfoldable pub use Rattle.picture_rules.specs.sprite.Sprites.{picture_column, sprite_column, sprite_dots, sprite_masked}
pub use Rattle.picture_rules.specs.sprite.Weapons.{WeaponLayer}
unfoldable pub use Rattle.picture_rules.specs.sprite.Weapons.{weapon_column, weapon_dots, weapon_first, weapon_iscale, weapon_last, weapon_left, weapon_map, weapon_masked, weapon_mid, weapon_right, weapon_scale, weapon_within}
unfoldable pub use Rattle.picture_rules.specs.wall.Clips.{above_clip, below_clip, bottom_first, bottom_rows, ceiling_after, ceiling_past_none, ceiling_past_top, ceiling_rows, clip_after, floor_after, floor_past_bottom, floor_past_none, floor_rows, middle_rows, narrowed_clip, open_clip, row_from, row_to, shut_clip, top_last, top_rows, wall_first, wall_last}
unfoldable pub use Rattle.picture_rules.specs.wall.Columns.{column_tangent, line_column, quarter_of, texture_column, texture_offset}
unfoldable pub use Rattle.picture_rules.specs.wall.Edges.{centre_edge, edge_at, edge_first, edge_step, edges_at, edges_first, edges_plus, edges_step}
unfoldable pub use Rattle.picture_rules.specs.wall.Heights.{both_sky, world_bottom, world_high, world_low, world_top}
unfoldable pub use Rattle.picture_rules.specs.wall.Marks.{ceiling_mark, ceiling_shows, ceilings_differ, floor_mark, floor_shows, floors_differ}
unfoldable pub use Rattle.picture_rules.specs.wall.Notes.{bottom_clips, clip_note, clip_row_at, middle_columns, note_at, notes_from, openings_list, place_if, room_if, saved_by, saved_from, saved_if, silhouette_of, top_clips, view_notes}
unfoldable pub use Rattle.picture_rules.specs.wall.Numbers.{fragment_numbers, numbers_by, seg_contrast, seg_light}
unfoldable pub use Rattle.picture_rules.specs.wall.Openings.{bottom_clip, openings_of, saves_bottom, saves_top, top_clip}
pub use Rattle.picture_rules.specs.wall.Parts.{no_part}
unfoldable pub use Rattle.picture_rules.specs.wall.Parts.{bottom_is_unpegged, bottom_mid, bottom_part, has_texture, is_masked, mid_from, middle_mid, middle_part, top_is_unpegged, top_mid, top_part}
unfoldable pub use Rattle.picture_rules.specs.wall.Scales.{normal_turn, scale_of_column, scale_step, seg_distance, seg_normal, vertex_angle, vertex_dist}
pub use Rattle.picture_rules.specs.wall.Silhouettes.{no_silhouette, silhouette_at}
unfoldable pub use Rattle.picture_rules.specs.wall.Silhouettes.{bottom_by_step, bottom_is_constant, bottom_silhouette, shuts_bottom, shuts_top, top_by_step, top_is_constant, top_silhouette, with_masked}
pub use Rattle.picture_rules.specs.wall.Strips.{WallStrip}
unfoldable pub use Rattle.picture_rules.specs.wall.Strips.{ceiling_marks, floor_marks, marked_rows, strip_dots, strip_of, wall_colour, wall_column, wall_column_by, wall_dots, wall_strips}
pub use Rattle.picture_rules.specs.wall.Walls.{Wall}
unfoldable pub use Rattle.picture_rules.specs.wall.Walls.{clip_before, clip_past, has_column, past_some, past_wall, wall_edges, wall_of}
