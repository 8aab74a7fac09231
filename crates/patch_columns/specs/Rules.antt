-- The words of the rules below that this crate cites, by the page that each comes from.
pub use Rattle.art_rules.specs.Words.{AreColumnsOf, PlacedPost, Post}
unfoldable pub use Rattle.art_rules.specs.Words.{byte_at, column_lookup, column_lookups, column_place, column_posts, composed_byte, composed_column, composed_columns, composed_count, composite_of_first, composite_place, composite_size, first_row, is_composed, is_composed_lookup, is_put_at, joined_lists, last_put, listed, lookup_of, natural, next_place, own_column, patches_in, placed_posts, post_at, posts, put_byte, put_count, rows_above, stands_in, word_at}
pub use Rattle.art_rules.specs.declared.ColumnLookup.{ColumnLookup}
pub use Rattle.art_rules.specs.declared.ColumnLookup.TheVariants.{Composed, Empty, Single}
pub use Rattle.art_rules.specs.declared.PlacedPatch.{PlacedPatch}
