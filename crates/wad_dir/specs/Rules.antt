-- The words of the rules below that this crate cites, by the page that each comes from.
pub use Rattle.lump_rules.specs.Contents.{AllWithin}
pub use Rattle.lump_rules.specs.Lookups.{flat_of, has_name, is_end, is_lump, is_member, is_named_in, is_start, last_of, lump_at, map_of, mark_before, starts_in}
unfoldable pub use Rattle.lump_rules.specs.Lookups.{are_named, members}
pub use Rattle.lump_rules.specs.Wads.{directory, entry_at, entry_count, file_refusal, header, header_in, header_refusal, is_wad, listing_size, lump_in, passes_end, unless_refused}
unfoldable pub use Rattle.lump_rules.specs.Wads.{entry_refusal, file_lumps, listing_sizes, lumps_from, lumps_in, refusal_from, whole_header_refusal}
pub use Rattle.lump_rules.specs.declared.{names.Group.Group, names.Group.TheVariants.Flats, names.Group.TheVariants.Sprites}
pub use Rattle.lump_rules.specs.declared.{wad.DirRefusal.DirRefusal, wad.Header.Header}
pub use Rattle.lump_rules.specs.declared.{wad.Lump.Lump, wad.LumpNo.LumpNo}
pub use Rattle.lump_rules.specs.declared.wad.TheConstants.{ENTRY_SIZE, HEADER_SIZE, MAX_LUMPS}
pub use Rattle.outside.specs.Faults.{FaultFits, HasCauses, ResultIs}
pub use Rattle.outside.specs.Shelf.{IsLaterShelf, IsPieceAt, NameFiles, ShelfView, Stands}
pub use Rattle.outside.specs.declared.fault.Fault.{Fault}
pub use Rattle.outside.specs.declared.fault.Fault.TheVariants.{OutOfMemory, ReadFault, Refused, ZoneFull}
pub use Rattle.outside.specs.declared.shelf.FileNo.{FileNo}
pub use Rattle.word_rules.specs.Least.{or_else}
unfoldable pub use Rattle.word_rules.specs.Least.{greatest}
unfoldable pub use Rattle.word_rules.specs.Listed.{listed}
