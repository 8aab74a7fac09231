-- The words of the rules below that this crate cites, by the page that each comes from.
unfoldable pub use Rattle.art_rules.specs.Textures.{entry_at}
pub use Rattle.art_rules.specs.Words.{Fault, Lump, LumpNo, OutOfMemory, ReadFault, Refused, ResultIs, ShelfView, Texture, TextureLists, ZoneFull, and_then, itself, last_of, name_of, named_bytes, or_else}
unfoldable pub use Rattle.art_rules.specs.Words.{both_lists, filled, first_list, first_wrong, half_at, is_wrong, joined_textures, later_textures, later_wrong, least_named, list_count, listed, lump_bytes, mask_of, name_at, patch_count, patch_names, second_list, signed_half_at, texture_in, texture_lists, texture_place, textures_in, unless_wrong, wrong_record}
pub use Rattle.art_rules.specs.declared.TheConstants.{MAX_TEXTURES, PNAMES, TEXTURE1, TEXTURE2}
pub use Rattle.art_rules.specs.declared.layout.TheConstants.{COUNT_SIZE, ENTRY_SIZE, NAME_SIZE, TEXTURE_HEAD_SIZE, TEXTURE_WIDTH_AT}
pub use Rattle.art_rules.specs.declared.refusal.TexRefusal.{TexRefusal}
