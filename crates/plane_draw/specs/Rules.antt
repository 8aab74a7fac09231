-- The words of the rules below that this crate cites, by the page that each comes from.
unfoldable pub use Rattle.art_rules.specs.Words.{lump_bytes}
pub use Rattle.picture_rules.specs.Words.{Art, Dot, FRAME_WIDTH, Painter, Plane, SKY, Scene, ViewShape, ViewValue}
unfoldable pub use Rattle.picture_rules.specs.Words.{column, column_dots, floor_colour, floor_dots, holds, holds_row, joined_lists, listed, painter_of, plane_dots, plane_dots_by, planes_dots, planes_from, run_dots, sky_colour, sky_column, sky_dots}
pub use Rattle.picture_rules.specs.declared.{plane.Flat4.Flat4, plane.Flat4.TheVariants.Sky}
pub use Rattle.picture_rules.specs.declared.plane.TheConstants.{SKY_MAP, SKY_MID}
