-- The words of the rules below that this crate cites, by the page that each comes from.
pub use Rattle.art_rules.specs.Words.{Fault, Lump, LumpNo, Refused, ResultIs, ShelfView, and_then, itself, map_of, or_else}
unfoldable pub use Rattle.art_rules.specs.Words.{lump_bytes, side_of}
pub use Rattle.scene_rules.specs.Node.{Node}
pub use Rattle.scene_rules.specs.Words.{Child, Heap, IsChildIn, IsNodeIn, LevelValue, Linedefs, MAX_DEPTH, MapLump, MapRefusal, NoMap, Nodes, PlacedThing, Sectors, Segs, SideTextures, Sidedefs, Ssectors, Thing, ThingLine, Things, Vertexes}
unfoldable pub use Rattle.scene_rules.specs.Words.{child_on, each_or, episode_sky, first_shadow, flat_named, flat_number, flats_of, has_sky, is_digit, is_episode_map, is_in_sector, is_in_skill, is_map_lump, is_numbered_map, is_shadow, is_sky_name, is_sky_texture, is_there, is_wanted_texture, is_within, label_of, leaf_below, leaf_from, level_from, level_in, level_of, lump_no, map_bytes, map_number, map_refusal, need_of, numbered_sky, partition_of, placed_from, placed_if, placed_in, placed_row, placed_thing, placed_things, records_of, sector_at, sector_flats, shows_sky, shows_texture, side_textures, size_refusal, sizes_refusal, skill_option, sky_name, sky_texture, surface_of, surfaces_of, textures_of, thing_angle, thing_height, things_of, unless}
pub use Rattle.scene_rules.specs.declared.{Flat.Flat, Flat.TheVariants.Sky, Placed.Placed}
pub use Rattle.scene_rules.specs.declared.{SectorFlats.SectorFlats, refusal.SceneRefusal.SceneRefusal}
pub use Rattle.scene_rules.specs.declared.refusal.SceneRefusal.TheVariants.{SectorFlat, SideTexture}
