-- The words of the rules below that this crate cites, by the page that each comes from.
unfoldable pub use Rattle.level_rules.specs.Levels.{child_on}
pub use Rattle.level_rules.specs.declared.{Child.Child, Leaf.Leaf, Seg.Seg}
pub use Rattle.level_rules.specs.declared.maps.layout.TheConstants.{LEAF_SIZE, LINE_SIZE, NODE_SIZE, SECTOR_SIZE, SEG_SIZE, SIDE_SIZE, THING_SIZE, VERTEX_SIZE}
pub use Rattle.level_rules.specs.declared.maps.lumps.MapLump.{MapLump}
pub use Rattle.level_rules.specs.declared.maps.lumps.MapLump.TheVariants.{Linedefs, Nodes, Sectors, Segs, Sidedefs, Ssectors, Things, Vertexes}
pub use Rattle.level_rules.specs.declared.{maps.records.MapLine.MapLine, maps.refusal.MapRefusal.MapRefusal}
unfoldable pub use Rattle.word_rules.specs.Bytes.{half_at, signed_half_at}
unfoldable pub use Rattle.level_rules.specs.maps.Fields.{angle_field, fixed_at, name_field, record_at, records_in}
unfoldable pub use Rattle.level_rules.specs.maps.Firsts.{first_refusal}
pub use Rattle.level_rules.specs.maps.Levels.{LevelValue, MapBytes, MapRecords}
unfoldable pub use Rattle.level_rules.specs.maps.Levels.{back_sector, has_back, joined_leaves, joined_level, joined_segs, leaf_of, level_from, no_leaf_refusal, range_refusal, records_of, records_refusal, sector_of, seg_between, seg_of, vertex_by}
unfoldable pub use Rattle.level_rules.specs.maps.Lumps.{lump_no, size_refusal}
unfoldable pub use Rattle.level_rules.specs.maps.Ranges.{has_side, index_refusal, is_side, is_there, leaf_field, leaf_refusal, line_by, line_field, line_refusal, node_field, node_refusal, seg_field, seg_refusal, side_field, side_on, side_refusal}
unfoldable pub use Rattle.level_rules.specs.maps.Records.{box_at, child_at, child_of, leaf_in, leaves_in, line_at, line_in, lines_in, node_in, nodes_in, sector_in, sectors_in, seg_in, segs_in, side_in, sides_in, thing_in, things_in, vertex_in, vertexes_in}
pub use Rattle.level_rules.specs.maps.Sound.{HasFewRecords, IsSound}
unfoldable pub use Rattle.level_rules.specs.maps.Trees.{preorder, reached_after, root_of, tree_refusal, visit_refusal, visits_refusal}
unfoldable pub use Rattle.word_rules.specs.Listed.{listed}
unfoldable pub use Rattle.word_rules.specs.Words.{fixed}
