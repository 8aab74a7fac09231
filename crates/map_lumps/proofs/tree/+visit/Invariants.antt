use Rattle.std.proofs.Common.{◌+◌, ◌-◌}
use Rattle.level_rules.specs.declared.TheConstants.{MAX_DEPTH}
use Rattle.map_lumps.proofs.tree.+visit.Given as goal

-- the levels that are left
abbrev pub decreases-visit : goal.decreases-visit
decreases-visit l = MAX_DEPTH + 2 - l.depth
