-- The words of the rules below that this crate cites, by the page that each comes from.
pub use Rattle.level_rules.specs.Levels.{LevelLists}
unfoldable pub use Rattle.level_rules.specs.Levels.{child_on, leaf_at, node_at, seg_at, surface_at}
pub use Rattle.level_rules.specs.declared.{Box4.Box4, Child.Child, Leaf.Leaf, Node.Node, Seg.Seg}
pub use Rattle.level_rules.specs.declared.Surface.{Surface}
pub use Rattle.level_rules.specs.declared.TheConstants.{MAX_DEPTH}
pub use Rattle.level_rules.specs.declared.maps.lumps.TheConstants.{MAX_RECORDS}
pub use Rattle.level_rules.specs.maps.Levels.{LevelValue}
unfoldable pub use Rattle.level_rules.specs.maps.Ranges.{is_there}
pub use Rattle.level_rules.specs.maps.Sound.{IsLeafIn, IsNodeIn, IsSegIn, IsSound}
unfoldable pub use Rattle.level_rules.specs.maps.Trees.{is_within}
unfoldable pub use Rattle.level_rules.specs.walk.Boxes.{box_column, box_corners, box_on, box_passes, box_row, corners_range, eye_side, far_box, far_child, is_within_box, near_child, partition_of, range_is_open}
pub use Rattle.level_rules.specs.walk.Covered.{IsFragment}
unfoldable pub use Rattle.level_rules.specs.walk.Covered.{cover, fragments}
pub use Rattle.level_rules.specs.walk.Events.{Event, WalkState}
pub use Rattle.level_rules.specs.walk.Events.Event.{FragmentEvent, LeafEvent}
unfoldable pub use Rattle.level_rules.specs.walk.Segs.{back_of, faces_differ, heights_differ, is_closed, is_pass, is_solid, middle_of, seg_range}
unfoldable pub use Rattle.level_rules.specs.walk.Walk.{at_columns, at_far, at_leaf, at_leaf_of, at_node, at_range, at_seg, at_seg_of, at_segs, covers, enters, shows, walk_child, walk_start}
unfoldable pub use Rattle.view_rules.specs.Sides.{side_by_product, side_by_slope, side_of}
pub use Rattle.view_rules.specs.View.{ViewValue}
pub use Rattle.view_rules.specs.declared.ColumnRange.{ColumnRange}
pub use Rattle.view_rules.specs.declared.{ColumnRange.TheVariants.Behind, ColumnRange.TheVariants.Columns, ColumnRange.TheVariants.Outside, Partition.Partition}
pub use Rattle.word_rules.specs.Words.{differ, is_zero}
unfoldable pub use Rattle.word_rules.specs.Words.{minus, signs_differ}
