-- The words of the rules below that this crate cites, by the page that each comes from.
pub use Rattle.level_rules.specs.Levels.{LevelLists, is_sky, no_leaf, no_seg, no_surface, sky_flat}
unfoldable pub use Rattle.level_rules.specs.Levels.{leaf_at, node_at, seg_at, surface_at}
pub use Rattle.level_rules.specs.declared.{Child.Child, Child.TheVariants.Node, Leaf.Leaf}
pub use Rattle.level_rules.specs.declared.{PlacedThing.PlacedThing, Sector.Sector, Seg.Seg}
pub use Rattle.level_rules.specs.declared.{Side.Side, SideTextures.SideTextures, Surface.Surface}
pub use Rattle.level_rules.specs.declared.TheConstants.{BOTTOM_UNPEGGED, MAX_DEPTH, SKY_FLAT, TOP_UNPEGGED}
pub use Rattle.level_rules.specs.declared.{ThingLine.ThingLine, maps.records.MapLeaf.MapLeaf}
pub use Rattle.level_rules.specs.declared.maps.refusal.MapRefusal.{MapRefusal}
pub use Rattle.level_rules.specs.declared.walk.TheConstants.{MAX_DRAWSEGS}
pub use Rattle.level_rules.specs.maps.Levels.{LevelValue, MapBytes}
unfoldable pub use Rattle.level_rules.specs.maps.Levels.{joined_leaves, joined_level, level_of, map_refusal, no_leaf_refusal, records_of, records_refusal, sizes_refusal, unless}
pub use Rattle.level_rules.specs.maps.Sound.{IsSegIn, IsSound}
unfoldable pub use Rattle.level_rules.specs.walk.Boxes.{box_passes, far_box, far_child, near_child}
pub use Rattle.level_rules.specs.walk.Covered.{IsFragment}
unfoldable pub use Rattle.level_rules.specs.walk.Covered.{fragments, is_covered, runs}
pub use Rattle.level_rules.specs.walk.Drawsegs.{LeafFragment}
unfoldable pub use Rattle.level_rules.specs.walk.Drawsegs.{drawsegs, last_leaf, leaf_fragments, leaves_entered}
pub use Rattle.level_rules.specs.walk.Events.{Event, WalkState}
pub use Rattle.level_rules.specs.walk.Events.Event.{FragmentEvent, LeafEvent}
unfoldable pub use Rattle.level_rules.specs.walk.Segs.{back_of, faces_differ, heights_differ, is_closed, is_pass, is_solid, middle_of}
unfoldable pub use Rattle.level_rules.specs.walk.Walk.{at_far, at_leaf, at_leaf_of, at_node, at_seg, at_seg_of, at_segs, enters, view_events, walk_child, walk_start}
pub use Rattle.pixel_rules.specs.Art.{Art}
unfoldable pub use Rattle.pixel_rules.specs.Art.{lump_source, painter_of}
pub use Rattle.pixel_rules.specs.Dots.{AreInColumn, AreInFrame, Dot}
unfoldable pub use Rattle.pixel_rules.specs.Dots.{cell_of, colour_of, is_at, last_dot, last_dot_from, mark_or, put_dots}
unfoldable pub use Rattle.pixel_rules.specs.Posts.{picture_top, post_bottom, post_colour, post_dots, post_first, post_last, post_rows, post_texel, post_top, posts_dots}
unfoldable pub use Rattle.pixel_rules.specs.Strips.{column_dots, row_fraction, rows_between, shade, span_colour, span_dots, span_place, texel_row}
pub use Rattle.pixel_rules.specs.declared.{MaskedColumn.MaskedColumn, Painter.Painter, Post.Post}
pub use Rattle.pixel_rules.specs.declared.Source.{Source}
pub use Rattle.pixel_rules.specs.declared.TheConstants.{COMPOSITE, FLAT_SIDE, FRAME_CELLS, LUMP, MIDDLE, PLANE, SKY, SPRITE, WALL, WEAPON}
unfoldable pub use Rattle.view_rules.specs.Angles.{cosine_at, sine_at, tangent_at}
unfoldable pub use Rattle.view_rules.specs.Bearings.{point_angle, point_dist, scale_at, scale_by}
unfoldable pub use Rattle.view_rules.specs.Lights.{bright_map, distance_map, fixed_or, light_number, scale_map}
unfoldable pub use Rattle.view_rules.specs.Refusals.{angles_in, angles_refusal, tables_refusal}
unfoldable pub use Rattle.view_rules.specs.Shape.{shape_of_size}
unfoldable pub use Rattle.view_rules.specs.Sides.{side_by_product, side_by_slope, side_of}
pub use Rattle.view_rules.specs.Sound.{IsWithinFrame}
unfoldable pub use Rattle.view_rules.specs.Tables.{angle_of_column, dist_scale, projection, scale_light, y_slope}
pub use Rattle.view_rules.specs.View.{TablesValue, ViewValue, view_of}
pub use Rattle.view_rules.specs.declared.{Eye.Eye, Partition.Partition, Spans.Spans}
pub use Rattle.view_rules.specs.declared.{Spans.TheVariants.Full, TablesRefusal.TablesRefusal}
pub use Rattle.view_rules.specs.declared.TablesRefusal.TheVariants.{Length}
pub use Rattle.view_rules.specs.declared.TheConstants.{FRAME_HEIGHT, FRAME_WIDTH, HALF_UNIT, LIGHT_LEVELS, MAX_FRACTION, MAX_SCALE, MAX_SIZE, MIN_SCALE, MIN_SIZE, SCALE_STEPS, TABLES_BYTES, TANGENTS}
pub use Rattle.view_rules.specs.declared.ViewShape.{ViewShape}
pub use Rattle.word_rules.specs.Least.{or_else}
unfoldable pub use Rattle.word_rules.specs.Least.{greatest, least}
unfoldable pub use Rattle.word_rules.specs.Listed.{joined_lists, listed, listed_from}
unfoldable pub use Rattle.word_rules.specs.Steps.{step_at}
pub use Rattle.word_rules.specs.Words.{ang180, ang90, bits_of, fine_angle, greatest_word, least_word, minus_one, turn, turn_back}
unfoldable pub use Rattle.word_rules.specs.Words.{abs_word, clamp_word, div, fixed, greater_word, inverse_word, lesser_word, minus, mul, natural, neg_word, plus, same_word, shl_word, shr_word, signed_of, times, words_unfolded}
pub use Rattle.word_rules.specs.declared.TheConstants.{FINE_ANGLES, FRACTION_BITS, FRACTION_UNIT}
