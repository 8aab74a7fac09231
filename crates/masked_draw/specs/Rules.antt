-- The words of the rules below that this crate cites, by the page that each comes from.
pub use Rattle.art_rules.specs.Words.{Lump, ShelfView, texture_at}
unfoldable pub use Rattle.art_rules.specs.Words.{lump_bytes}
pub use Rattle.picture_rules.specs.Words.{AreNoted, Art, Dot, Drawseg, Eye, IsWholeNote, FRAME_WIDTH, LIGHT_LEVELS, ListsApart, MaskedColumn, Painter, SPRITE, Sector, Seg, Side, Surface, ViewShape, ViewValue, minus_one, no_seg, no_side, or_else}
unfoldable pub use Rattle.picture_rules.specs.Words.{clip_of_number, clip_of_some, clip_row_at, columns_at, draw_order, drawseg_has, drawseg_scale, entry_has, gives_bottom, gives_top, greater_word, greatest, greatest_clip, greatest_that, is_behind, is_in_front, joined_lists, least, least_clip, lesser_word, light_number, listed, listed_from, lump_source, masked_dots, masked_mid, middle_column, middle_masked, middles_at, middles_of, natural, painter_of, passes_at, picture_column, posts_dots, rows_between, same_number, scale_map, seg_light, seg_line, side_of, sprite_bottom, sprite_column, sprite_dots, sprite_in_front, sprite_masked, sprite_step, sprite_top, sprites_from, stands_in_front}
pub use Rattle.picture_rules.specs.declared.{sprite.SpriteEntry.SpriteEntry, wall.Clip.Clip}
pub use Rattle.picture_rules.specs.declared.wall.Clip.TheVariants.{Absent, Constant, Saved}
pub use Rattle.picture_rules.specs.declared.wall.FragmentNote.{FragmentNote}
pub use Rattle.picture_rules.specs.declared.wall.TheConstants.{SIL_BOTTOM, SIL_TOP}
