-- The words of the rules below that this crate cites, by the page that each comes from.
pub use Rattle.art_rules.specs.Words.{AllWithin, ENTRY_SIZE, F_END, F_START, Failed, FaultsRose, Flats, Grew, GrewByPrefix, HEADER_SIZE, Lump, LumpNo, MAP_LUMPS, MAX_LUMPS, PreparedTexture, S_END, S_START, ShelfView, Sprites, Writes, has_name, is_end, is_start, last_of, lump_at, map_of, name_of, no_lump, or_else}
unfoldable pub use Rattle.art_rules.specs.Words.{book_lumps, filled, is_patch_of_any, least, lump_bytes, patch_lumps}
pub use Rattle.art_rules.specs.declared.TheConstants.{PNAMES, TEXTURE1, TEXTURE2}
pub use Rattle.art_rules.specs.declared.shapes.Frame.{Frame}
pub use Rattle.job_rules.specs.declared.trim.TheConstants.{MAX_FILE_BYTES}
pub use Rattle.job_rules.specs.declared.trim.TrimRefusal.{TrimRefusal}
unfoldable pub use Rattle.made_rules.specs.Bytes.{word_bytes}
unfoldable pub use Rattle.made_rules.specs.Wads.{contents, entries, file_of, wad_file}
pub use Rattle.made_rules.specs.declared.wad.TheConstants.{HEAD_SIZE}
pub use Rattle.scene_rules.specs.Words.{Heap, IsInOrder, IsLive, Item, KeepsOrder, LevelBase, NoMap, SceneArt, SceneValue, ThingLine, bytes_of, if_long}
unfoldable pub use Rattle.scene_rules.specs.Words.{colormap_of, has_flat, is_last, is_list, is_map_lump, is_needed, is_wanted_texture, label_of, playpal_of}
pub use Rattle.scene_rules.specs.declared.SectorFlats.{SectorFlats}
pub use Rattle.scene_rules.specs.declared.TheConstants.{COLORMAP, COLORMAP_SIZE, PALETTE_SIZE, PLAYPAL}
unfoldable pub use Rattle.trim_rules.specs.Files.{part_bytes, part_lump, trimmed_file}
pub use Rattle.trim_rules.specs.Parts.{copy_part, last_list, unless_trim_refused}
unfoldable pub use Rattle.trim_rules.specs.Parts.{called_lumps, file_size, fixed_lumps, flat_lumps, group_parts, is_lump_part, is_mark, label_or_copy, listed_last, map_parts, marked_lump, part_name, part_size, parts_size, picture_lumps, trim_parts, trim_plan, trim_refusal}
pub use Rattle.trim_rules.specs.declared.part.TrimPart.{TrimPart}
pub use Rattle.trim_rules.specs.declared.part.TrimPart.TheVariants.{Copy, Label, Mark}
