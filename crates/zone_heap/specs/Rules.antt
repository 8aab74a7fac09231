-- The words of the rules below that this crate cites, by the page that each comes from.
unfoldable pub use Rattle.word_rules.specs.Bytes.{word_at}
pub use Rattle.word_rules.specs.declared.TheConstants.{WORD_SIZE}
pub use Rattle.zone_rules.specs.Frees.{free_owner, retag_block, set_tag, with_bytes, with_tag, without_block, write_block, write_holding}
pub use Rattle.zone_rules.specs.Requests.{TakesBlock, after_search, block_left, blocks_from, cap_count, count_among, cut_block, ends_free_at, first_place, first_room, gaps, holds, in_front, join_free, join_on, join_pair, least_front, opens, passed_blocks, place_after, place_around, place_or, purge_among, purge_block, purge_count, start_in, stretches, take_at, total, widest, with_block, without_room}
pub use Rattle.zone_rules.specs.Rooms.{RoomAt}
pub use Rattle.zone_rules.specs.Zones.{AllFit, Apart, Block, FitsHolding, Heap, Holding, IsLive, IsSound, IsZoneSize, Lacks, Owner, Tiles, Unique, block_size, bytes_of, free_block, free_size, fresh_heap, has_place, holding_of, holds_for, is_free, is_held_by, is_pinned, is_purgeable, is_purgeable_tag, owned_block, owner_at, pins, purgeable_size, same_owner, slot_count, used_size}
pub use Rattle.zone_rules.specs.declared.{Tag.Tag, Tag.TheVariants.Cache, Tag.TheVariants.Level, Tag.TheVariants.Static}
pub use Rattle.zone_rules.specs.declared.TheConstants.{HEADER_SIZE, MAX_ZONE_SIZE, MIN_FRAGMENT, SLOT_LIMIT}
