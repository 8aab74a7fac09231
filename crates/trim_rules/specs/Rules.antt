-- The words of the rules below that this crate cites, by the page that each comes from.
pub use Rattle.art_rules.specs.Words.{BEHAVIOR, BEHAVIOR_AFTER, DirRefusal, ENTRY_SIZE, Entry, F_END, F_START, Flats, Group, HEADER_SIZE, LETTER_COUNT, LiesWithin, Lump, MAP_LUMPS, MAX_LUMPS, NotWad, PreparedTexture, S_END, S_START, Short, Sprites, Texture, TextureLists, TooMany, and_then, bytes_of, directory, directory_place, directory_size, entries_in, entry_at, entry_count, file_refusal, flat_of, from_below, has_name, header, header_refusal, if_label, is_end, is_lump, is_member, is_named_in, is_start, is_wad, last_of, lump_at, lump_in, map_of, mark_before, name_of, named_bytes, no_lump, or_else, passes_end, starts_in, unless_refused}
unfoldable pub use Rattle.art_rules.specs.Words.{are_named, book_lumps, both_lists, column_lookup, column_lookups, column_posts, composed_byte, composed_column, composed_columns, composed_count, composite, composite_place, composite_size, each_of, entry_refusal, file_lumps, filled, first_list, first_needs, frame_in, frame_of, frame_picture, greatest, is_composed, is_frame, is_label, is_of_frame, is_of_rotation, is_of_sprite, is_pair, is_patch_of, is_patch_of_any, is_single, joined_lists, last_mention, last_that, least, listed, lookup_of, lump_bytes, lump_mentions, lumps_from, lumps_in, mask_of, members, mention_at, mentions, name_mentions, own_column, patch_lumps, patch_names, patch_of, patch_or_bad, patch_texel, patches_in, picked, picture_by, picture_if, picture_or_missing, pictures_of, place_lump, place_patch, placed_patch, placed_patches, placed_posts, prepared, prepared_from, prepared_if, prepared_textures, refusal_from, shape_in, shape_lumps, shape_of, stands_in, texel, texel_of, texture_lists, texture_of, unless_missing, unless_too_big, whole_header_refusal}
pub use Rattle.art_rules.specs.declared.ColumnLookup.{ColumnLookup}
pub use Rattle.art_rules.specs.declared.ColumnLookup.TheVariants.{Composed, Empty, Single}
pub use Rattle.art_rules.specs.declared.{Mention.Mention, PlacedPatch.PlacedPatch}
pub use Rattle.art_rules.specs.declared.TextureEntry.{TextureEntry}
pub use Rattle.art_rules.specs.declared.TheConstants.{FIRST_FRAME, FIRST_ROTATION, LAST_FRAME, LAST_ROTATION, MAX_COMPOSITE, PNAMES, ROTATIONS, SECOND_PAIR_AT, SPRITE_LETTERS, TEXTURE1, TEXTURE2}
pub use Rattle.art_rules.specs.declared.{patch.Patch.Patch, refusal.SpriteRefusal.SpriteRefusal}
pub use Rattle.art_rules.specs.declared.refusal.SpriteRefusal.TheVariants.{BadPatch, MissingRotation, NoFrame}
pub use Rattle.art_rules.specs.declared.refusal.TexRefusal.{TexRefusal}
pub use Rattle.art_rules.specs.declared.{refusal.TexRefusal.TheVariants.TooBig, shapes.Frame.Frame}
pub use Rattle.art_rules.specs.declared.{shapes.Need.Need, shapes.Shape.Shape}
pub use Rattle.job_rules.specs.declared.trim.TheConstants.{MAX_FILE_BYTES}
pub use Rattle.job_rules.specs.declared.trim.TrimRefusal.{TrimRefusal}
pub use Rattle.job_rules.specs.declared.trim.TrimRefusal.TheVariants.{MarkName, TrimTooLarge, TrimTooMany}
unfoldable pub use Rattle.made_rules.specs.Bytes.{word_bytes}
pub use Rattle.made_rules.specs.Wads.{lump_of}
unfoldable pub use Rattle.made_rules.specs.Wads.{contents, entries, file_of, wad_file}
pub use Rattle.made_rules.specs.declared.wad.TheConstants.{HEAD_SIZE}
pub use Rattle.scene_rules.specs.Words.{Faces, LevelBase, LevelValue, MapRefusal, NoMap, SKY_FLAT, SceneArt, SceneValue, Sector, Seg, SideTextures, ThingLine, art_with, if_long, long_lump, middle_of, texture_by}
unfoldable pub use Rattle.scene_rules.specs.Words.{bad_middle, base_in, base_over, book_in, both_flats, checked, colormap_of, each_from, each_or, faces_in, flat_named, flat_number, flats_of, has_flat, is_all_single, is_bad_middle, is_bad_side, is_seen_through, is_sky_name, is_wanted_texture, label_of, level_in, level_of, lists_in, lump_flat, map_bytes, need_of, placed_things, playpal_of, scene_in, scene_on, scene_over, scene_with, sector_flats, side_textures, sky_texture}
pub use Rattle.scene_rules.specs.declared.{Flat.Flat, Flat.TheVariants.Sky, SectorFlats.SectorFlats}
pub use Rattle.scene_rules.specs.declared.TheConstants.{COLORMAP, COLORMAP_SIZE, PALETTE_SIZE, PLAYPAL}
pub use Rattle.scene_rules.specs.declared.{refusal.ArtRefusal.ArtRefusal, refusal.ArtRefusal.TheVariants.Colormap, refusal.ArtRefusal.TheVariants.Playpal}
pub use Rattle.scene_rules.specs.declared.refusal.AuditRefusal.TheVariants.{Art, Map, Scene, Sprite}
pub use Rattle.scene_rules.specs.declared.{refusal.SceneRefusal.SceneRefusal, refusal.SceneRefusal.TheVariants.SectorFlat}
