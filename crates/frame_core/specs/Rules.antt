-- The words of the rules below that this crate cites, by the page that each comes from.
pub use Rattle.art_rules.specs.Words.{Fault, Lump, PreparedTexture, ShelfView, Texture, TextureLists, and_then, fault_above, lump_at, texture_at}
unfoldable pub use Rattle.art_rules.specs.Words.{book_lumps, column_lookup, composed_columns, composed_count, composite_place, composite_size, half_at, is_composed, is_frame, is_patch_of, is_patch_of_any, is_wrong, list_count, lookup_of, lump_bytes, patches_in, picked, shape_lumps, signed_half_at, stands_in, texture_in, texture_number, texture_of, texture_place, wrong_record}
pub use Rattle.art_rules.specs.declared.{ColumnLookup.ColumnLookup, ColumnLookup.TheVariants.Empty}
pub use Rattle.art_rules.specs.declared.PlacedPatch.{PlacedPatch}
pub use Rattle.art_rules.specs.declared.layout.TheConstants.{TEXTURE_HEIGHT_AT}
pub use Rattle.art_rules.specs.declared.{shapes.Frame.Frame, shapes.Shape.Shape}
pub use Rattle.picture_rules.specs.Words.{AreInView, AreNoted, AreWide, Art, Dot, DrawAlike, Draws, Drawseg, Event, FRAME_CELLS, FRAME_HEIGHT, FRAME_WIDTH, Finds, FitsFrame, FragmentEvent, IsAmongPlanes, IsSound, IsWithinFrame, LIGHT_LEVELS, LeafEvent, LeafFragment, LevelLists, LevelValue, MAX_DRAWSEGS, MaskedColumn, Painter, PlacedThing, Plane, PlaneWall, PlanesNow, Post, SKY_FLAT, Scene, Sector, Seg, Side, SideTextures, Step, Surface, ThingLine, ViewListValue, ViewShape, ViewValue, Wall, WallStrip, is_sky, minus_one, no_planes, no_seg, no_surface, no_textures, view_of}
unfoldable pub use Rattle.picture_rules.specs.Words.{add, add_entry, after_event, after_events, back_of, bottom_clip, bottom_rows, ceiling_checked, ceiling_found, ceiling_key, ceiling_marks, ceiling_rows, check, check_plane, check_some, checked_plane, clip_before, clip_of_number, clip_of_some, clip_past, column, column_dots, column_marked, columns_at, columns_marked, count_shown, counts_by, counts_from, draw_order, drawseg_has, drawseg_of, drawseg_scale, drawsegs, drawsegs_from, empty_plane, entry_for, entry_of, entry_within, event_list, event_planes, facts_of, find, first_mentions, floor_checked, floor_dots, floor_found, floor_key, floor_marks, floor_rows, fragment_facts, fragment_numbers, fragment_wall, gives_bottom, gives_top, greater_word, greatest, greatest_clip, greatest_that, has_texture, holds, holds_row, is_behind, is_entered, is_free, is_masked, is_seen, is_shown, joined_lists, key_of, last_leaf, leaf_at, leaf_fragments, leaf_sector, leaf_step, leaf_surface, least_clip, leaves_entered, light_number, listed, listed_fragment, listed_from, listed_plane, listed_sprite, maker_of, makes_entry, mark, mark_some, marked_columns, marked_rows, masked_dots, masked_mid, middle_by, middle_column, middle_hangs, middle_masked, middle_rows, middle_stands, middles_at, middles_of, misses_view, natural, note_at, notes_from, number_of, number_or_add, numbers_by, openings_after, openings_count, openings_counts, openings_list, openings_of, openings_past, own_front, own_mid, paints_by, paints_of, passes_at, passes_limit, picture, picture_first, picture_last, picture_top, place_if, placed_of, plane_counts, plane_dots, plane_dots_by, plane_makers, plane_wall, planes_count, planes_dots, planes_from, planes_made, planes_of, post_bottom, post_colour, post_dots, post_first, post_last, post_rows, post_top, posts_dots, project, room_if, rows_between, run_dots, same_number, saved_by, saved_from, saves_bottom, saves_top, sectors_entered, seg_at, seg_light, set_run, shown_things, side_at, silhouette_of, sky_dots, sprite_bottom, sprite_column, sprite_dots, sprite_in_front, sprite_masked, sprite_step, sprite_top, sprites_from, steps_from, steps_of, steps_over, strip_dots, strip_of, surface_at, textures_at, top_clip, top_rows, view_counts, view_drawsegs, view_entries, view_events, view_list, view_notes, view_over, view_paints, view_planes, view_steps, wall_column, wall_column_by, wall_dots, wall_edges, wall_marked, wall_of, wall_step, wall_strips, wall_texture, walls_dots, walls_from, walls_of, with_ceiling, with_entry, with_floor, with_run, with_sectors, with_seen, with_shape, with_thing, with_things}
pub use Rattle.picture_rules.specs.declared.{Counts.Counts, LimitKind.LimitKind, Limits.Limits}
pub use Rattle.picture_rules.specs.declared.{OverLimit.OverLimit, list.ListedFragment.ListedFragment, list.ListedPlane.ListedPlane}
pub use Rattle.picture_rules.specs.declared.{list.ListedSprite.ListedSprite, list.PlaneMaker.PlaneMaker}
pub use Rattle.picture_rules.specs.declared.list.PlaneMaker.TheVariants.{Fragment, Leaf}
pub use Rattle.picture_rules.specs.declared.list.TheConstants.{MOST_TOLD}
pub use Rattle.picture_rules.specs.declared.{plane.Flat4.Flat4, plane.PlaneKey.PlaneKey}
pub use Rattle.picture_rules.specs.declared.plane.TheConstants.{MOST_VISPLANES}
pub use Rattle.picture_rules.specs.declared.{sprite.Placed.Placed, sprite.Seen.Seen}
pub use Rattle.picture_rules.specs.declared.{sprite.Shape5.Shape5, sprite.SpriteEntry.SpriteEntry}
pub use Rattle.picture_rules.specs.declared.sprite.TheConstants.{MAX_VISSPRITES}
pub use Rattle.picture_rules.specs.declared.{wall.ColumnClip.ColumnClip, wall.Edges.Edges}
pub use Rattle.picture_rules.specs.declared.wall.FragmentNote.{FragmentNote}
pub use Rattle.picture_rules.specs.declared.{wall.FragmentNumbers.FragmentNumbers, wall.Part.Part}
pub use Rattle.picture_rules.specs.declared.wall.RowRange.{RowRange}
pub use Rattle.picture_rules.specs.declared.wall.TheConstants.{MOST_OPENINGS, SIL_BOTTOM, SIL_TOP}
pub use Rattle.picture_rules.specs.declared.{wall.WallFacts.WallFacts, wall.WallTexture.WallTexture}
pub use Rattle.scene_rules.specs.Words.{Faces, Heap, Owner, SceneArt, SceneValue, block_size}
unfoldable pub use Rattle.scene_rules.specs.Words.{art_of, block_or_none, both_flats, composite_block, each_from, each_or, enough, faces_in, flat_named, flat_number, flats_of, found_sky, has_flat, has_sky, is_needed, is_sky_name, lump_block, lump_flat, sector_flats, shows_sky, side_textures, sky_name, sky_texture, surface_of, surfaces_of, things_of, three_textures}
pub use Rattle.scene_rules.specs.declared.{Flat.Flat, SectorFlats.SectorFlats}
