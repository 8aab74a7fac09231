use Rattle.art_rules.proofs.Common.{false, list_any, take, ◌≡◌}
use Rattle.art_rules.specs.Words.{has_name, LumpNo}
use Rattle.wad_trim.proofs.parts.has_named.Given as goal

-- none so far has the name
abbrev pub invariant-loop-lump : goal.invariant-loop-lump
invariant-loop-lump l = list_any (λ (lump : LumpNo). has_name l.dir.lumps l.name lump.0) (take l.lump-index l.lumps) ≡ false
