-- The first step that stops a run.
use Rattle.std.specs.Prelude.{Option, Some, None, Result, Ok, Err}
use Rattle.refusals.specs.declared.refusal.Refusal.{Refusal}
use Rattle.art_rules.specs.Stops as files
use Rattle.doom_run.specs.Rules.{Stop}

-- the words are no command, or a step stops that reads files or bytes
pub data RunStop : Type 0 where
  usage : RunStop
  at_step : Stop Refusal → RunStop

-- a file that the next step needs is not held
abbrev pub absent : RunStop
absent = at_step files.absent

-- bytes are refused
abbrev pub refused : Refusal → RunStop
refused refusal = at_step (files.stopped refusal)

-- the value, or else the words are no command
abbrev pub else_usage : {A : Type 0} → Option A → Result A RunStop
else_usage None = Err usage
else_usage (Some value) = Ok value
