-- The words of the rules below that this crate cites, by the page that each comes from.
pub use Rattle.art_rules.specs.Words.{Failed, Fault, FaultFitsOrAbsent, FaultsRose, File, Grew, GrewByPrefix, HasCauseAt, Holds, IsTallyOf, Lump, MAX_LUMPS, OutOfMemory, PreparedTexture, ReadFault, Refused, ShelfInMemory, ShelfView, Stop, Tally, TextureLists, Writes, ZoneFull, absent, and_then, directory, else_absent, fault_above, file_named, from_below, last_of, lump_at, memory_view, name_of, no_file, stopped, texture_at}
unfoldable pub use Rattle.art_rules.specs.Words.{book_lumps, each_of, filled, first_needs, frame_of, is_frame, lump_bytes, picked, shape_lumps, texel}
pub use Rattle.art_rules.specs.declared.ColumnLookup.{ColumnLookup}
pub use Rattle.art_rules.specs.declared.ColumnLookup.TheVariants.{Composed, Empty, Single}
pub use Rattle.art_rules.specs.declared.PlacedPatch.{PlacedPatch}
pub use Rattle.art_rules.specs.declared.TheConstants.{PNAMES, TEXTURE1, TEXTURE2}
pub use Rattle.art_rules.specs.declared.{shapes.Frame.Frame, shapes.Shape.Shape}
pub use Rattle.command_line.specs.Commands.{command_of}
pub use Rattle.job_files.specs.Statuses.{code_of}
pub use Rattle.job_rules.specs.Commands.{CommandValue, IsCount, IsCountedMake, IsExercise, exercise, flat, level_job, make}
pub use Rattle.job_rules.specs.LevelJobs.{FileNames, LevelJobValue, level_job_value}
pub use Rattle.job_rules.specs.Ranges.{AreSettings}
pub use Rattle.job_rules.specs.declared.{command.Format.Format, command.Format.TheVariants.Index, command.Format.TheVariants.Ppm}
pub use Rattle.job_rules.specs.declared.{command.LevelJob.LevelJob, command.LevelTask.LevelTask}
pub use Rattle.job_rules.specs.declared.command.LevelTask.TheVariants.{Audit, Render, Trim}
pub use Rattle.job_rules.specs.declared.command.MakeJob.TheVariants.{Path, Tables, Things, Wad}
pub use Rattle.job_rules.specs.declared.{command.Settings.Settings, trim.TrimRefusal.TrimRefusal}
pub use Rattle.picture_rules.specs.Words.{AreInView, Art, COMPOSITE, Dot, Eye, FRAME_CELLS, Full, IsWithinFrame, LUMP, LevelValue, MapBytes, MapLeaf, MapRefusal, Painter, SKY_FLAT, Scene, Sector, Spans, Surface, ThingLine, ViewListValue, ViewValue, WeaponLayer, no_surface, sky_flat, view_of}
unfoldable pub use Rattle.picture_rules.specs.Words.{frame_dots, joined_leaves, joined_level, joined_lists, least, level_of, listed, map_refusal, no_leaf_refusal, overlaid_paints, overlaid_picture, overlaid_trace, records_of, records_refusal, shade, sizes_refusal, surface_at, unless, view_counts, view_list, view_over, view_paints, weapon_dots}
pub use Rattle.picture_rules.specs.declared.{Counts.Counts, LimitKind.LimitKind, Limits.Limits}
pub use Rattle.picture_rules.specs.declared.{OverLimit.OverLimit, list.ListedFragment.ListedFragment, list.ListedPlane.ListedPlane}
pub use Rattle.picture_rules.specs.declared.{list.ListedSprite.ListedSprite, list.PlaneMaker.PlaneMaker}
pub use Rattle.picture_rules.specs.declared.{list.PlaneMaker.TheVariants.Fragment, list.PlaneMaker.TheVariants.Leaf, plane.Flat4.Flat4}
pub use Rattle.scene_rules.specs.Words.{Faces, Heap, IsInOrder, IsZoneSize, Item, KeepsOrder, LevelBase, MIN_FRAGMENT, Owner, SceneArt, SceneValue, block_size, has_item, live_sum, lump_size}
unfoldable pub use Rattle.scene_rules.specs.Words.{book_in, composite_block, faces_in, flat_number, greatest_by, is_last, is_list, is_map_lump, is_needed, lump_block, map_bytes, need_of, scene_in, sector_at, sector_flats, side_textures, sky_texture, surface_of, surfaces_of, things_of, zone_sizes}
pub use Rattle.scene_rules.specs.declared.{Flat.Flat, SectorFlats.SectorFlats, ZoneSizes.ZoneSizes}
pub use Rattle.scene_rules.specs.declared.refusal.AuditRefusal.TheVariants.{WeaponArt}
unfoldable pub use Rattle.trim_rules.specs.Files.{trimmed_file, trimmed_lumps}
pub use Rattle.trim_rules.specs.Parts.{copy_part}
unfoldable pub use Rattle.trim_rules.specs.Parts.{flat_lumps, trim_parts, trim_plan}
pub use Rattle.trim_rules.specs.declared.part.TrimPart.{TrimPart}
