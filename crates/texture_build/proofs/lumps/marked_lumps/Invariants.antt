use Rattle.art_rules.proofs.Common.{false, filter, get_or, map, range_with_len, ◌≡◌}
use Rattle.art_rules.specs.Words.{LumpNo}
use Rattle.texture_build.proofs.lumps.marked_lumps.Given as goal

abbrev pub invariant-loop-number : goal.invariant-loop-number
invariant-loop-number l = map (λ (lump : LumpNo). lump.0) l.lumps.items ≡ filter (λ k. get_or l.marks k false) (range_with_len 0 l.number)
