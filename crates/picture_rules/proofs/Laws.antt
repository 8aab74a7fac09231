-- The laws of the crates below this one that others cite, each with the page that proves it.
pub use Rattle.word_rules.proofs.LeastLemmas.{greatest-is, greatest-more, least-is, least-more, least-none, least-some, none-below}
pub use Rattle.word_rules.proofs.ListedLemmas.{get_or-listed, get_or-listed_from, joined_lists-append, joined_lists-cons, joined_lists-next, joined_lists-one, length-listed, length-listed_from, listed-all, listed-more, listed_from-length, listed_from-none}
pub use Rattle.word_rules.proofs.WordLemmas.{clamp_word-high, clamp_word-low, greater_word-first, lesser_word-first}
pub use Rattle.view_rules.proofs.ColumnLemmas.{projection_is}
pub use Rattle.level_rules.proofs.maps.LevelLemmas.{level_of-sound}
pub use Rattle.level_rules.proofs.walk.CoverLemmas.{runs-open}
pub use Rattle.level_rules.proofs.walk.DrawsegLemmas.{drawsegs-within, last_leaf-append, leaves_entered-append}
pub use Rattle.pixel_rules.proofs.ColumnLemmas.{last_dot-beside_span, last_dot-no_column, last_dot-other_row, last_dot-span_dots}
pub use Rattle.pixel_rules.proofs.DotLemmas.{in_frame-append, last_dot-append, last_dot-none, put_dots-append, put_dots-same}
pub use Rattle.pixel_rules.proofs.StripLemmas.{column_dots-none, in_frame-column_dots, in_frame-span_dots, in_row-span_dots, rows_between-none}
