-- The words of the rules below that this crate cites, by the page that each comes from.
pub use Rattle.lump_rules.specs.Contents.{AllWithin, LiesWithin, file_bytes, named_bytes}
unfoldable pub use Rattle.lump_rules.specs.Contents.{lump_bytes}
pub use Rattle.lump_rules.specs.Lookups.{last_of, lump_at, no_lump}
pub use Rattle.lump_rules.specs.declared.{wad.Lump.Lump, wad.LumpNo.LumpNo}
pub use Rattle.outside.specs.Causes.{FaultsRose}
pub use Rattle.outside.specs.Faults.{FaultFits, HasCauseAt, HasCauses, ResultIs, fault_above, from_below, itself}
pub use Rattle.outside.specs.Shelf.{IsLaterShelf, IsPieceAt, NameFiles, ShelfView, counted}
pub use Rattle.outside.specs.declared.fault.Fault.{Fault}
pub use Rattle.outside.specs.declared.fault.Fault.TheVariants.{OutOfMemory, ReadFault, Refused, ZoneFull}
pub use Rattle.outside.specs.declared.shelf.FileNo.{FileNo}
pub use Rattle.zone_rules.specs.Frees.{retag_block, set_tag, with_bytes, with_tag, without_block, write_block, write_holding}
pub use Rattle.zone_rules.specs.Orders.{AreRoomy, IsInOrder, Item, KeepsOrder, has_item, is_live, lump_size}
pub use Rattle.zone_rules.specs.Requests.{TakesBlock, block_left, gaps, in_front, is_among, opens, passed_blocks, stretches, total, widest, without_room}
pub use Rattle.zone_rules.specs.Zones.{AllFit, Block, FitsHolding, Heap, Holding, IsLive, IsSound, IsZoneSize, Lacks, Owner, OwnsOnce, Tiles, Unique, block_size, bytes_of, free_block, fresh_heap, holding_of, holds_for, is_held_by, is_pinned, is_purgeable, is_purgeable_tag, may_purge, owned_block, owner_at, pins, same_owner, slot_count}
pub use Rattle.zone_rules.specs.declared.{Tag.Tag, Tag.TheVariants.Cache, Tag.TheVariants.Level, Tag.TheVariants.Static}
pub use Rattle.zone_rules.specs.declared.TheConstants.{MIN_FRAGMENT}
