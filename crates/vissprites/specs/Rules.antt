-- The words of the rules below that this crate cites, by the page that each comes from.
pub use Rattle.picture_rules.specs.Words.{FRACTION_UNIT, IsWithinFrame, LIGHT_LEVELS, ViewValue}
unfoldable pub use Rattle.picture_rules.specs.Words.{add_entry, depth, div, draw_order, entry_for, entry_of, entry_within, greater_word, insert_last, is_smaller, lesser_word, minus, picture_height, project, seen_at, seen_within, side, sprite_map, sprite_scale, with_entry}
pub use Rattle.picture_rules.specs.declared.{sprite.Placed.Placed, sprite.Seen.Seen}
pub use Rattle.picture_rules.specs.declared.{sprite.Shape5.Shape5, sprite.SpriteEntry.SpriteEntry}
pub use Rattle.picture_rules.specs.declared.sprite.TheConstants.{MAX_VISSPRITES, MIN_DEPTH}
