-- The words of the rules below that this crate cites, by the page that each comes from.
pub use Rattle.art_rules.specs.Words.{Lump, ShelfView}
unfoldable pub use Rattle.art_rules.specs.Words.{byte_at, column_place, half_at, is_post, lump_bytes, next_place, post_at, post_in, posts}
pub use Rattle.picture_rules.specs.Words.{Art, Dot, FRACTION_BITS, FRAME_HEIGHT, FRAME_WIDTH, LUMP, MAX_FRACTION, MaskedColumn, Painter, Post, ViewShape, minus_one}
unfoldable pub use Rattle.picture_rules.specs.Words.{column_dots, fixed, greater_word, greatest_clip, joined_lists, least_clip, lesser_word, listed_from, lump_source, minus, natural, painter_of, picture_column, picture_top, plus, post_bottom, post_colour, post_dots, post_first, post_last, post_rows, post_texel, post_top, posts_dots, row_fraction, rows_between, shade, shr_word, texel_row, times}
