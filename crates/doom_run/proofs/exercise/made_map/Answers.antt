use Rattle.std.proofs.Common.{◌∙◌}
use Rattle.doom_run.proofs.MadeLemmas.{map_named}
use Rattle.doom_run.proofs.exercise.made_map.Goals as goal

pub returns : goal.returns
returns c = c.from_bytes.ensures ∙ map_named
