use Rattle.std.proofs.Common.{◌≡◌, ◌≤◌}
use Rattle.art_rules.specs.Words.{mask_from, mask_of}
use Rattle.texture_lists.proofs.records.mask_of.Given as goal

-- the mask is that of the bits that are left
abbrev pub invariant-loop-bits : goal.invariant-loop-bits
invariant-loop-bits l = record { few : l.bits ≤ 16; rest : mask_of l.width ≡ mask_from l.bits l.width }

abbrev pub decreases-loop-bits : goal.decreases-loop-bits
decreases-loop-bits l = l.bits
