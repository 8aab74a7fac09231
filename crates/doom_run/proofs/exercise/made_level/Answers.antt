use Rattle.std.proofs.Common.{List, ℕ, ap}
use Rattle.doom_run.specs.Exercises.{made_level}
use Rattle.doom_run.proofs.exercise.made_level.Goals as goal

pub returns : goal.returns
returns c = ap (λ (name : List ℕ). record { map_name = name; files = (made_level c.args.zone).files; settings = (made_level c.args.zone).settings }) c.made_map.ensures
