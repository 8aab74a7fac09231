-- The words of the rules below that this crate cites, by the page that each comes from.
pub use Rattle.picture_rules.specs.Node.{Node}
pub use Rattle.picture_rules.specs.Words.{Art, Child, Dot, Drawseg, Event, FRAME_CELLS, FRAME_WIDTH, FragmentEvent, LUMP, LeafEvent, LeafFragment, LevelLists, MAX_DEPTH, MIDDLE, PLANE, Painter, PlacedThing, Plane, PlaneChoice, PlaneEvent, PlaneWall, PlanesNow, Post, SKY, SPRITE, Scene, Source, Step, Surface, ViewShape, ViewValue, WALL, WEAPON, WalkState, Wall, WallStrip, WeaponLayer, is_sky, no_planes, no_surface, sky_flat}
unfoldable pub use Rattle.picture_rules.specs.Words.{add, add_entry, after_event, after_events, at_far, at_leaf, at_leaf_of, at_node, at_seg, at_seg_of, at_segs, back_of, both_sky, bottom_by_step, bottom_clip, bottom_is_constant, bottom_mid, bottom_part, bottom_silhouette, box_passes, ceiling_checked, ceiling_found, ceiling_key, ceiling_mark, ceiling_marks, ceiling_shows, ceilings_differ, check, check_plane, check_some, checked_plane, clip_before, clip_past, colour_of, column, column_marked, columns_at, columns_marked, counts_from, draw_order, drawseg_of, drawseg_scale, drawsegs, drawsegs_from, empty_plane, enters, entry_for, entry_has, entry_of, entry_within, faces_differ, facts_of, far_box, far_child, find, first_mentions, flat_colour, floor_checked, floor_colour, floor_dots, floor_found, floor_key, floor_mark, floor_marks, floor_shows, floors_differ, fragment_facts, fragment_numbers, fragment_wall, frame_dot, frame_dots, frame_of, gives_bottom, gives_top, greater_word, has_column, heights_differ, holds, insert_entry, is_behind, is_closed, is_free, is_in_window, is_masked, is_pass, is_solid, joined_lists, key_of, last_dot, leaf_at, leaf_sector, leaf_step, leaf_surface, leaves_entered, left_edge, lesser_word, listed, listed_from, lump_source, mark, mark_some, masked_dots, masked_mid, middle_by, middle_column, middle_hangs, middle_masked, middle_mid, middle_of, middle_part, middle_stands, middles_at, middles_of, minus, misses_view, near_child, node_at, number_of, number_or_add, numbers_by, openings_of, openings_past, overlaid_paints, overlaid_picture, overlaid_trace, own_front, own_mid, painter_of, paints_by, paints_of, past_some, past_wall, picture, picture_column, picture_first, picture_height, picture_last, placed_of, plane_counts, plane_dots, plane_dots_by, plane_wall, planes_dots, planes_from, planes_of, posts_dots, project, right_edge, rows_between, run_dots, same_flat, same_key, same_number, scale_map, sectors_entered, seg_at, set_run, shuts_bottom, shuts_top, side_at, sky_colour, sky_column, sky_dots, sprite_bottom, sprite_column, sprite_dots, sprite_in_front, sprite_masked, sprite_step, sprite_top, sprites_from, steps_from, steps_of, steps_over, strip_dots, surface_at, texture_column, texture_offset, textures_at, top_by_step, top_clip, top_is_constant, top_mid, top_part, top_silhouette, view_drawsegs, view_entries, view_events, view_over, view_paints, view_planes, view_steps, walk_child, walk_start, wall_colour, wall_column, wall_column_by, wall_dots, wall_edges, wall_marked, wall_of, wall_step, wall_strips, wall_texture, walls_dots, walls_from, walls_of, weapon_column, weapon_dots, weapon_first, weapon_iscale, weapon_last, weapon_left, weapon_map, weapon_masked, weapon_mid, weapon_right, weapon_within, with_ceiling, with_entry, with_floor, with_run, with_sectors, with_seen, with_shape, with_thing, with_things, world_bottom, world_high, world_low, world_top}
pub use Rattle.picture_rules.specs.declared.{Limits.Limits, plane.Flat4.Flat4}
pub use Rattle.picture_rules.specs.declared.plane.Flat4.TheVariants.{Lump, Sky}
pub use Rattle.picture_rules.specs.declared.{plane.PlaneKey.PlaneKey, sprite.Placed.Placed}
pub use Rattle.picture_rules.specs.declared.{sprite.Seen.Seen, sprite.Shape5.Shape5}
pub use Rattle.picture_rules.specs.declared.sprite.SpriteEntry.{SpriteEntry}
pub use Rattle.picture_rules.specs.declared.sprite.TheConstants.{MAX_VISSPRITES}
pub use Rattle.picture_rules.specs.declared.{wall.ColumnClip.ColumnClip, wall.Edges.Edges}
pub use Rattle.picture_rules.specs.declared.{wall.Part.Part, wall.WallFacts.WallFacts}
pub use Rattle.picture_rules.specs.plane.Built.{Draws, Finds}
