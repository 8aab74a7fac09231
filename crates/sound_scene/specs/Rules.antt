-- The words of the rules below that this crate cites, by the page that each comes from.
pub use Rattle.art_rules.specs.Words.{Lump, LumpNo, MAP_LUMPS, MAX_LUMPS, PreparedTexture, and_then, from_below, has_name, last_of, lump_at, no_lump, texture_at}
unfoldable pub use Rattle.art_rules.specs.Words.{book_lumps, is_patch_of_any, mask_of, patch_lumps, picked, prepared_textures, single_place}
pub use Rattle.art_rules.specs.declared.PlacedPatch.{PlacedPatch}
pub use Rattle.art_rules.specs.declared.TheConstants.{MAX_TEXTURES, PNAMES, TEXTURE1, TEXTURE2}
pub use Rattle.art_rules.specs.declared.{shapes.Frame.Frame, shapes.Shape.Shape}
pub use Rattle.scene_rules.specs.Words.{Faces, LevelBase, MIN_FRAGMENT, SKY_FLAT, SceneArt, SceneValue, Sector, Seg, SideTextures, ThingLine, WORD_SIZE, block_size, if_long, long_lump, middle_of, texture_by}
unfoldable pub use Rattle.scene_rules.specs.Words.{art_of, bad_middle, base_in, base_over, block_or_none, book_in, checked, colormap_of, composite_block, enough, faces_in, flat_number, greatest_by, has_flat, is_last, is_list, is_map_lump, is_needed, is_wanted_texture, label_of, level_in, level_of, lists_in, lump_block, needed_lumps, placed_things, playpal_of, roomy, scene_in, scene_on, scene_over, scene_with, sector_at, sizes_of, surfaces_of, things_of, zone_sizes}
pub use Rattle.scene_rules.specs.declared.{Placed.Placed, SectorFlats.SectorFlats}
pub use Rattle.scene_rules.specs.declared.TheConstants.{COLORMAP, COLORMAP_SIZE, PALETTE_SIZE}
pub use Rattle.scene_rules.specs.declared.{ZoneSizes.ZoneSizes, refusal.ArtRefusal.ArtRefusal}
pub use Rattle.scene_rules.specs.declared.{refusal.ArtRefusal.TheVariants.Colormap, refusal.AuditRefusal.AuditRefusal}
pub use Rattle.scene_rules.specs.declared.refusal.AuditRefusal.TheVariants.{Art, Map, Scene, Sprite, Texture}
pub use Rattle.zone_rules.specs.declared.TheConstants.{HEADER_SIZE}
