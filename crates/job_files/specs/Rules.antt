-- The words of the rules below that this crate cites, by the page that each comes from.
pub use Rattle.art_rules.specs.Words.{AllWithin, DirRefusal, Fault, FaultsRose, File, HasCauses, Holds, IsLaterShelf, Lump, LumpNo, NameFiles, ResultIs, ResultIsOrAbsent, Stop, absent, and_then, directory, else_absent, file_named, flat_of, from_below, itself, lump_at, name_of, no_file}
unfoldable pub use Rattle.art_rules.specs.Words.{filled, flat_byte, listing_sizes, lump_bytes}
pub use Rattle.job_rules.specs.Commands.{IsCountedMake}
pub use Rattle.job_rules.specs.LevelJobs.{FileNames, file_names}
pub use Rattle.job_rules.specs.declared.command.MakeJob.{MakeJob}
pub use Rattle.job_rules.specs.declared.command.MakeJob.TheVariants.{Path, Tables, Things, Wad}
pub use Rattle.job_rules.specs.declared.command.Settings.{Settings}
unfoldable pub use Rattle.made_rules.specs.Tables.{made_tables}
unfoldable pub use Rattle.made_rules.specs.Texts.{made_path, made_things}
unfoldable pub use Rattle.made_rules.specs.Wads.{made_wad}
pub use Rattle.picture_rules.specs.Words.{Eye, FLAT_SIDE, FRAME_WIDTH, Length, MAX_SIZE, MIN_SIZE, TABLES_BYTES, TablesRefusal, TablesValue, ThingLine}
unfoldable pub use Rattle.picture_rules.specs.Words.{angles_in, angles_refusal, listed, shape_of_size, tables_refusal}
pub use Rattle.picture_rules.specs.declared.{LimitKind.LimitKind, LimitKind.TheVariants.Openings, LimitKind.TheVariants.Planes}
pub use Rattle.scene_rules.specs.Words.{long_lump}
unfoldable pub use Rattle.scene_rules.specs.Words.{colormap_of, playpal_of}
pub use Rattle.scene_rules.specs.declared.TheConstants.{COLORMAP, COLORMAP_SIZE, PALETTE_SIZE, PLAYPAL}
pub use Rattle.scene_rules.specs.declared.{refusal.ArtRefusal.ArtRefusal, refusal.ArtRefusal.TheVariants.Colormap, refusal.ArtRefusal.TheVariants.Playpal}
pub use Rattle.scene_rules.specs.declared.refusal.SceneRefusal.TheVariants.{FlatName}
