-- The words of this crate and of those below it that others cite, by the page that each comes from.
pub use Rattle.word_rules.specs.declared.TheConstants.{WORD_SIZE}
unfoldable pub use Rattle.level_rules.specs.Levels.{child_on}
pub use Rattle.level_rules.specs.declared.{Child.Child, Child.TheVariants.Leaf, Child.TheVariants.Node}
pub use Rattle.level_rules.specs.declared.{PlacedThing.PlacedThing, Sector.Sector, Seg.Seg}
pub use Rattle.level_rules.specs.declared.SideTextures.{SideTextures}
pub use Rattle.level_rules.specs.declared.TheConstants.{MAX_DEPTH, SKY_FLAT}
pub use Rattle.level_rules.specs.declared.{Thing.Thing, ThingLine.ThingLine}
pub use Rattle.level_rules.specs.declared.maps.lumps.MapLump.{MapLump}
pub use Rattle.level_rules.specs.declared.maps.lumps.MapLump.TheVariants.{Linedefs, Nodes, Sectors, Segs, Sidedefs, Ssectors, Things, Vertexes}
pub use Rattle.level_rules.specs.declared.{maps.refusal.MapRefusal.MapRefusal, maps.refusal.MapRefusal.TheVariants.NoMap}
pub use Rattle.level_rules.specs.maps.Levels.{LevelValue}
unfoldable pub use Rattle.level_rules.specs.maps.Levels.{level_from, level_of, map_refusal, records_of, sizes_refusal, unless}
unfoldable pub use Rattle.level_rules.specs.maps.Lumps.{lump_no, size_refusal}
unfoldable pub use Rattle.level_rules.specs.maps.Ranges.{is_there}
pub use Rattle.level_rules.specs.maps.Sound.{IsChildIn, IsNodeIn}
unfoldable pub use Rattle.level_rules.specs.maps.Trees.{is_within}
unfoldable pub use Rattle.level_rules.specs.walk.Boxes.{partition_of}
pub use Rattle.zone_rules.specs.Orders.{AreDistinct, AreRoomy, IsInOrder, Item, KeepsOrder, has_item, has_owner, items_size, live_sum, lump_size}
pub use Rattle.zone_rules.specs.Requests.{gaps}
pub use Rattle.zone_rules.specs.Zones.{Block, Heap, Holding, IsLive, IsZoneSize, Owner, block_size, bytes_of, holding_of, owned_block, same_owner}
pub use Rattle.zone_rules.specs.declared.Tag.TheVariants.{Static}
pub use Rattle.zone_rules.specs.declared.TheConstants.{MIN_FRAGMENT}
pub use Rattle.scene_rules.specs.Middles.{middle_of}
unfoldable pub use Rattle.scene_rules.specs.Middles.{bad_middle, is_all_single, is_bad_middle, is_bad_side, is_seen_through}
unfoldable pub use Rattle.scene_rules.specs.Numbered.{each_from, each_or}
unfoldable pub use Rattle.scene_rules.specs.Places.{first_shadow, is_in_sector, is_in_skill, is_shadow, leaf_below, leaf_from, need_of, placed_from, placed_if, placed_in, placed_row, placed_thing, placed_things, sector_at, skill_option, thing_angle, thing_height, things_of}
pub use Rattle.scene_rules.specs.Scenes.{Faces, LevelBase, SceneValue, art_with, if_long, long_lump, texture_by}
unfoldable pub use Rattle.scene_rules.specs.Scenes.{art_of, base_in, base_over, book_in, checked, colormap_of, faces_in, label_of, level_in, lists_in, map_bytes, playpal_of, scene_in, scene_on, scene_over, scene_with, sizes_of}
unfoldable pub use Rattle.scene_rules.specs.SectorFlats.{both_flats, flat_named, flat_number, flats_of, lump_flat, sector_flats, surface_of, surfaces_of}
unfoldable pub use Rattle.scene_rules.specs.Sides.{found_sky, is_sky_texture, is_wanted_texture, shows_texture, side_textures, sky_texture, textures_of, three_textures}
pub use Rattle.scene_rules.specs.Sizes.{SceneArt}
unfoldable pub use Rattle.scene_rules.specs.Sizes.{block_or_none, composite_block, enough, greatest_by, has_flat, is_last, is_list, is_map_lump, is_needed, lump_block, needed_lumps, roomy, zone_sizes}
unfoldable pub use Rattle.scene_rules.specs.Skies.{episode_sky, has_sky, is_digit, is_episode_map, is_numbered_map, is_sky_name, map_number, numbered_sky, shows_sky, sky_name}
