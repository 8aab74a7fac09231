-- The words of the rules below that this crate cites, by the page that each comes from.
pub use Rattle.art_rules.specs.Words.{AllWithin, Fault, FaultFits, HasCauseAt, HasCauses, IsLaterShelf, Lump, LumpNo, NameFiles, OutOfMemory, Outline, Refused, ResultIs, ShelfView, Sprites, and_then, is_member, itself, lump_at, or_else}
unfoldable pub use Rattle.art_rules.specs.Words.{book_lumps, book_of, each_of, first_needs, frame_in, frame_of, frame_picture, is_frame, is_of_frame, is_of_rotation, is_of_sprite, is_pair, joined_lists, last_mention, last_that, lump_bytes, lump_mentions, members, mention_at, mention_outline, mentions, name_mentions, outline, outline_in, outline_of, outlines_of, patch_of, patch_or_bad, picked, picture_by, picture_if, picture_or_missing, pictures_of, same_frame, shape_in, shape_lumps, shape_of, shape_outline}
pub use Rattle.art_rules.specs.declared.Mention.{Mention}
pub use Rattle.art_rules.specs.declared.TheConstants.{ROTATIONS, SECOND_PAIR_AT, SPRITE_LETTERS}
pub use Rattle.art_rules.specs.declared.{patch.Patch.Patch, refusal.SpriteRefusal.SpriteRefusal}
pub use Rattle.art_rules.specs.declared.refusal.SpriteRefusal.TheVariants.{BadPatch, MissingRotation, NoFrame}
pub use Rattle.art_rules.specs.declared.{shapes.Frame.Frame, shapes.Need.Need, shapes.Shape.Shape}
pub use Rattle.zone_rules.specs.declared.TheConstants.{MIN_FRAGMENT}
