-- The words of the rules below that this crate cites, by the page that each comes from.
pub use Rattle.art_rules.specs.Words.{AllWithin, AreColumnsOf, Art, COMPOSITE, Fault, FaultFits, FaultsRose, HasCauses, IsLaterShelf, LUMP, Lump, LumpNo, NO_SOURCE, NameFiles, OutOfMemory, Post, PreparedTexture, ReadFault, Refused, ResultIs, ShelfView, Source, Texture, TextureLists, ZoneFull, and_then, bits_of, itself, last_of, lump_at, named_bytes, or_else, texture_at, unlisted}
unfoldable pub use Rattle.art_rules.specs.Words.{both_lists, byte_at, column_lookup, column_lookups, column_place, composite_of_first, composite_place, composite_size, first_list, first_wrong, half_at, is_single, is_single_lookup, joined_textures, later_textures, later_wrong, list_count, lookup_of, lump_bytes, mask_from, mask_of, masked_column, natural, painter_of, patch_names, patch_of, patches_in, place_lump, place_patch, placed_patch, placed_patches, posts, prepared, prepared_from, prepared_if, prepared_textures, second_list, shade, single_place, stands_in, texel, texel_by, texture_in, texture_lists, texture_of, texture_place, textures_in, unless_missing, unless_too_big, unless_wrong, wrong_record}
pub use Rattle.art_rules.specs.declared.ColumnLookup.{ColumnLookup}
pub use Rattle.art_rules.specs.declared.ColumnLookup.TheVariants.{Composed, Empty, Single}
pub use Rattle.art_rules.specs.declared.{PlacedPatch.PlacedPatch, TextureEntry.TextureEntry}
pub use Rattle.art_rules.specs.declared.TheConstants.{MAX_COMPOSITE, PNAMES, TEXTURE1, TEXTURE2}
pub use Rattle.art_rules.specs.declared.layout.TheConstants.{POST_BYTES_AT}
pub use Rattle.art_rules.specs.declared.{patch.Patch.Patch, refusal.TexRefusal.TexRefusal}
pub use Rattle.art_rules.specs.declared.refusal.TexRefusal.TheVariants.{MissingPatch, TooBig}
pub use Rattle.pixel_strips.specs.Rules.{Dot, FRAME_HEIGHT, FRAME_WIDTH, Painter}
unfoldable pub use Rattle.pixel_strips.specs.Rules.{column_dots, listed_from, row_fraction, texel_row}
