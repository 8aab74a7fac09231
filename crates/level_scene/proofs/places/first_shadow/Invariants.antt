use Rattle.std.proofs.Common.{◌≡◌, drop}
use Rattle.scene_rules.specs.Words.{first_shadow}
use Rattle.level_scene.proofs.places.first_shadow.Given as goal

-- what is first of the rest is first of all
abbrev pub invariant-loop-placed : goal.invariant-loop-placed
invariant-loop-placed l = first_shadow l.all ≡ first_shadow (drop l.placed-index l.all)
