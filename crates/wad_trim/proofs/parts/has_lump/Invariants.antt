use Rattle.art_rules.proofs.Common.{false, list_any, take, ◌==◌, ◌≡◌}
use Rattle.art_rules.specs.Words.{LumpNo}
use Rattle.wad_trim.proofs.parts.has_lump.Given as goal

-- none so far is the lump
abbrev pub invariant-loop-other : goal.invariant-loop-other
invariant-loop-other l = list_any (λ (other : LumpNo). other.0 == l.lump.0) (take l.other-index l.lumps) ≡ false
