-- The words of the rules below that this crate cites, by the page that each comes from.
pub use Rattle.job_rules.specs.Commands.{CommandValue, IsCounted, command_value, exercise, flat, level_job, make}
pub use Rattle.job_rules.specs.LevelJobs.{FileNames, LevelJobValue, file_names, level_job_value}
unfoldable pub use Rattle.job_rules.specs.Options.{takes}
pub use Rattle.job_rules.specs.Ranges.{AreSettings, IsWithin, IsZone}
pub use Rattle.job_rules.specs.declared.{command.Command.Command, command.Format.Format}
pub use Rattle.job_rules.specs.declared.{command.Format.TheVariants.Index, command.Format.TheVariants.Ppm, command.LevelTask.LevelTask}
pub use Rattle.job_rules.specs.declared.command.LevelTask.TheVariants.{Audit, Limits, Render, Trace, Trim}
pub use Rattle.job_rules.specs.declared.command.MakeJob.{MakeJob}
pub use Rattle.job_rules.specs.declared.command.MakeJob.TheVariants.{Path, Tables, Things, Wad}
pub use Rattle.job_rules.specs.declared.command.Settings.{Settings}
pub use Rattle.job_rules.specs.declared.options.TheConstants.{OPTIONS}
pub use Rattle.job_rules.specs.declared.ranges.TheConstants.{MAX_COUNT, MAX_PLANES, MAX_SIZE, MAX_SKILL, MAX_WADS, MAX_ZONE, MIN_COUNT, MIN_OPENINGS, MIN_PLANES, MIN_SIZE, MIN_SKILL, MIN_ZONE, MOST_OPENINGS, ZONE_STEP}
pub use Rattle.lump_rules.specs.Names.{name_of_text}
unfoldable pub use Rattle.lump_rules.specs.Names.{filled}
pub use Rattle.view_rules.specs.declared.{Spans.Spans, Spans.TheVariants.Full, Spans.TheVariants.Packed}
