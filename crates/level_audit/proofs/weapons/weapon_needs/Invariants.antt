use Rattle.std.proofs.Common.{◌≡◌, take}
use Rattle.level_audit.specs.Weapons.{weapon_needs}
use Rattle.level_audit.proofs.weapons.weapon_needs.Given as goal

-- what the rows so far need
abbrev pub invariant-loop-i : goal.invariant-loop-i
invariant-loop-i l = l.needs.items ≡ weapon_needs (take l.i l.rows)
