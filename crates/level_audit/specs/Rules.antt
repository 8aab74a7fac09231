-- The words of the rules below that this crate cites, by the page that each comes from.
pub use Rattle.art_rules.specs.Words.{AllWithin, BEHAVIOR, BEHAVIOR_AFTER, Fault, FaultFits, FaultFitsOrAbsent, File, HasCauses, Holds, IsLaterShelf, Lump, MAP_LUMPS, MAX_SIZE, MIN_SIZE, NameFiles, OutOfMemory, PreparedTexture, ReadFault, Refused, ResultIs, ResultIsOrAbsent, ShelfView, Stop, TextureLists, ZoneFull, and_then, fault_above, from_below, has_name, if_label, is_named_in, itself, last_of, lump_at, map_of, no_file}
unfoldable pub use Rattle.art_rules.specs.Words.{are_named, book_lumps, composite_size, each_of, first_needs, frame_in, frame_of, frame_picture, is_label, is_of_frame, is_patch_of, is_patch_of_any, is_single, joined_lists, last_mention, last_that, least, lump_bytes, mask_of, mentions, patch_or_bad, picture_or_missing, pictures_of, place_lump, placed_patch, placed_patches, prepared, prepared_from, prepared_if, prepared_textures, same_frame, shape_in, shape_lumps, shape_of, single_place, texture_of, unless_missing, unless_too_big}
pub use Rattle.art_rules.specs.declared.{Mention.Mention, PlacedPatch.PlacedPatch}
pub use Rattle.art_rules.specs.declared.TextureEntry.{TextureEntry}
pub use Rattle.art_rules.specs.declared.TheConstants.{MAX_COMPOSITE, MAX_TEXTURES, PNAMES, ROTATIONS, TEXTURE1, TEXTURE2}
pub use Rattle.art_rules.specs.declared.{refusal.SpriteRefusal.SpriteRefusal, refusal.TexRefusal.TexRefusal}
pub use Rattle.art_rules.specs.declared.{refusal.TexRefusal.TheVariants.TooBig, shapes.Frame.Frame}
pub use Rattle.art_rules.specs.declared.{shapes.Need.Need, shapes.Shape.Shape}
pub use Rattle.job_rules.specs.LevelJobs.{LevelJobValue, level_job_value}
pub use Rattle.job_rules.specs.Ranges.{IsSkill}
pub use Rattle.scene_rules.specs.Words.{AreDistinct, AreRoomy, Block, Faces, Heap, Holding, IsInOrder, IsZoneSize, Item, KeepsOrder, LevelBase, LevelValue, MIN_FRAGMENT, Owner, SceneValue, Seg, SideTextures, Static, ThingLine, block_size, bytes_of, gaps, has_item, has_owner, holding_of, if_long, items_size, live_sum, long_lump, lump_size, middle_of, owned_block, same_owner, texture_by}
unfoldable pub use Rattle.scene_rules.specs.Words.{art_of, bad_middle, base_in, base_over, block_or_none, book_in, checked, colormap_of, composite_block, enough, faces_in, greatest_by, is_all_single, is_bad_middle, is_bad_side, is_last, is_list, is_map_lump, is_needed, is_seen_through, is_sky_texture, is_wanted_texture, label_of, level_in, lists_in, lump_block, need_of, needed_lumps, placed_things, playpal_of, roomy, scene_in, scene_on, scene_over, scene_with, shows_texture, sizes_of, three_textures, zone_sizes}
pub use Rattle.scene_rules.specs.declared.Placed.{Placed}
pub use Rattle.scene_rules.specs.declared.TheConstants.{PALETTE_SIZE, PLAYPAL}
pub use Rattle.scene_rules.specs.declared.{ZoneSizes.ZoneSizes, refusal.ArtRefusal.ArtRefusal}
pub use Rattle.scene_rules.specs.declared.{refusal.ArtRefusal.TheVariants.Playpal, refusal.AuditRefusal.AuditRefusal}
pub use Rattle.scene_rules.specs.declared.refusal.AuditRefusal.TheVariants.{Art, Map, Scene, Sprite, Texture, WeaponArt}
pub use Rattle.scene_rules.specs.declared.{refusal.SceneRefusal.SceneRefusal, refusal.WeaponRefusal.WeaponRefusal}
pub use Rattle.scene_rules.specs.declared.refusal.WeaponRefusal.TheVariants.{BadPatch, MissingRotation, NoFrame}
