-- The words of the rules below that this crate cites, by the page that each comes from.
pub use Rattle.pixel_rules.specs.Dots.{Dot}
unfoldable pub use Rattle.pixel_rules.specs.Dots.{cell_of, put_dots}
unfoldable pub use Rattle.pixel_rules.specs.Strips.{column_colour, column_dots, flat_place, pack, packed_at, packed_half, packed_place, row_fraction, rows_between, shade, span_colour, span_dots, span_place, texel_row}
pub use Rattle.pixel_rules.specs.declared.Painter.{Painter}
pub use Rattle.pixel_rules.specs.declared.TheConstants.{FLAT_SIDE, FRAME_CELLS, MAP_COLOURS, TEXEL_ROWS}
pub use Rattle.view_rules.specs.declared.{Spans.Spans, Spans.TheVariants.Full, Spans.TheVariants.Packed}
pub use Rattle.view_rules.specs.declared.TheConstants.{FRAME_HEIGHT, FRAME_WIDTH}
pub use Rattle.view_rules.specs.declared.ViewShape.{ViewShape}
unfoldable pub use Rattle.word_rules.specs.Listed.{listed_from}
unfoldable pub use Rattle.word_rules.specs.Steps.{step_at}
pub use Rattle.word_rules.specs.Words.{bits_of}
unfoldable pub use Rattle.word_rules.specs.Words.{natural, plus, shr_word, times}
pub use Rattle.word_rules.specs.declared.TheConstants.{FRACTION_BITS}
