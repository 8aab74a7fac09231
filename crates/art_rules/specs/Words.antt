-- The words of this crate and of those below it that others cite, by the page that each comes from.
pub use Rattle.outside.specs.Causes.{FaultsRose}
pub use Rattle.outside.specs.Faults.{FaultFits, HasCauseAt, HasCauses, IsAboveBy, ResultIs, and_then, fault_above, from_below, itself}
pub use Rattle.outside.specs.MemoryShelf.{ShelfInMemory, memory_view}
pub use Rattle.outside.specs.Shelf.{File, Holds, IsLaterShelf, IsPieceAt, NameFiles, ShelfView, Stands, StandsForNamed, file_named}
pub use Rattle.outside.specs.Sink.{Grew, GrewByPrefix, Writes}
pub use Rattle.outside.specs.Stops.{FaultFitsOrAbsent, ResultIsOrAbsent, Stop, absent, else_absent, no_file, stopped}
pub use Rattle.outside.specs.TallySink.{IsTallyOf, Tally}
pub use Rattle.outside.specs.declared.fault.Fault.{Fault}
pub use Rattle.outside.specs.declared.fault.Fault.TheVariants.{OutOfMemory, ReadFault, Refused, ZoneFull}
pub use Rattle.outside.specs.declared.{shelf.Failed.Failed, shelf.FileNo.FileNo}
unfoldable pub use Rattle.word_rules.specs.Bytes.{byte_at, half_at, signed_half_at, word_at}
pub use Rattle.word_rules.specs.Least.{or_else}
unfoldable pub use Rattle.word_rules.specs.Least.{greatest, least}
unfoldable pub use Rattle.word_rules.specs.Listed.{joined_lists, listed}
pub use Rattle.word_rules.specs.Words.{bits_of}
unfoldable pub use Rattle.word_rules.specs.Words.{natural}
pub use Rattle.lump_rules.specs.Contents.{AllWithin, LiesWithin, bytes_of, file_bytes, named_bytes}
unfoldable pub use Rattle.lump_rules.specs.Contents.{lump_bytes}
pub use Rattle.lump_rules.specs.Lookups.{flat_of, has_name, if_label, is_end, is_lump, is_member, is_named_in, is_start, last_of, lump_at, map_of, mark_before, no_lump, starts_in}
unfoldable pub use Rattle.lump_rules.specs.Lookups.{are_named, is_label, members}
pub use Rattle.lump_rules.specs.Names.{name_of}
unfoldable pub use Rattle.lump_rules.specs.Names.{filled}
pub use Rattle.lump_rules.specs.Wads.{directory, directory_place, directory_size, entries_in, entry_at, entry_count, file_refusal, header, header_refusal, is_wad, lump_in, passes_end, unless_refused}
unfoldable pub use Rattle.lump_rules.specs.Wads.{entry_refusal, file_lumps, listing_sizes, lumps_from, lumps_in, refusal_from, whole_header_refusal}
pub use Rattle.lump_rules.specs.declared.{names.Group.Group, names.Group.TheVariants.Flats, names.Group.TheVariants.Sprites}
pub use Rattle.lump_rules.specs.declared.names.TheConstants.{BEHAVIOR, BEHAVIOR_AFTER, F_END, F_START, LETTER_COUNT, MAP_LUMPS, S_END, S_START}
pub use Rattle.lump_rules.specs.declared.wad.DirRefusal.{DirRefusal}
pub use Rattle.lump_rules.specs.declared.wad.DirRefusal.TheVariants.{Entry, NotWad, Short, TooMany}
pub use Rattle.lump_rules.specs.declared.{wad.Lump.Lump, wad.LumpNo.LumpNo}
pub use Rattle.lump_rules.specs.declared.wad.TheConstants.{ENTRY_SIZE, HEADER_SIZE, MAX_LUMPS}
unfoldable pub use Rattle.view_rules.specs.Sides.{side_of}
pub use Rattle.view_rules.specs.declared.TablesRefusal.{TablesRefusal}
pub use Rattle.view_rules.specs.declared.TheConstants.{MAX_SIZE, MIN_SIZE}
pub use Rattle.pixel_rules.specs.Art.{Art}
unfoldable pub use Rattle.pixel_rules.specs.Art.{painter_of}
pub use Rattle.pixel_rules.specs.Dots.{Dot}
unfoldable pub use Rattle.pixel_rules.specs.Strips.{column_dots, shade}
pub use Rattle.pixel_rules.specs.declared.{Painter.Painter, Post.Post, Source.Source}
pub use Rattle.pixel_rules.specs.declared.TheConstants.{COMPOSITE, LUMP, NO_SOURCE}
pub use Rattle.art_rules.specs.Books.{Outline}
unfoldable pub use Rattle.art_rules.specs.Books.{book_lumps, book_of, each_of, first_needs, frame_in, frame_of, is_frame, last_mention, mention_outline, outline, outline_in, outline_of, outlines_of, patch_or_bad, picked, picture_or_missing, pictures_of, same_frame, shape_in, shape_lumps, shape_of, shape_outline}
pub use Rattle.art_rules.specs.Columns.{PlacedPost}
unfoldable pub use Rattle.art_rules.specs.Columns.{column_posts, composed_byte, composed_column, composed_columns, composed_count, composite, composite_place, composite_size, first_row, is_composed, is_put_at, is_single, last_put, own_column, patch_texel, patches_in, placed_posts, put_byte, put_count, rows_above, stands_in, texel, texel_of}
unfoldable pub use Rattle.art_rules.specs.Flats.{flat_byte, palette_colour}
unfoldable pub use Rattle.art_rules.specs.Frames.{frame_picture, is_of_frame, is_of_rotation, is_of_sprite, is_pair, last_that, lump_mentions, mention_at, mentions, name_mentions, picture_by, picture_if}
pub use Rattle.art_rules.specs.Lookups.{AreColumnsOf}
unfoldable pub use Rattle.art_rules.specs.Lookups.{column_lookup, column_lookups, composite_of_first, is_composed_lookup, is_single_lookup, lookup_of, masked_column, single_place, texel_by}
unfoldable pub use Rattle.art_rules.specs.Patches.{column_place, is_post, next_place, patch_of, post_at, post_in, posts}
pub use Rattle.art_rules.specs.Textures.{Texture, TextureLists, is_named, texture_at, unlisted}
unfoldable pub use Rattle.art_rules.specs.Textures.{both_lists, first_list, first_wrong, is_bad_list, is_no_texture, is_short, is_wrong, joined_textures, later_textures, later_wrong, least_named, list_count, mask_from, mask_of, name_at, names_in, patch_count, patch_names, second_list, texture_in, texture_lists, texture_number, texture_place, textures_in, unless_wrong, wrong_record}
pub use Rattle.art_rules.specs.Wanted.{PreparedTexture}
unfoldable pub use Rattle.art_rules.specs.Wanted.{is_patch_of, is_patch_of_any, patch_lumps, place_lump, place_patch, placed_patch, placed_patches, prepared, prepared_from, prepared_if, prepared_textures, texture_of, unless_missing, unless_too_big}
