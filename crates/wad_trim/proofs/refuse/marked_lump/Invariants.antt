use Rattle.art_rules.proofs.Common.{option_map, take, ◌≡◌}
use Rattle.wad_trim.specs.Rules.{LumpNo, marked_lump}
use Rattle.wad_trim.proofs.refuse.marked_lump.Given as goal

-- the least of the parts so far
abbrev pub invariant-loop-part : goal.invariant-loop-part
invariant-loop-part l = option_map (λ (lump : LumpNo). lump.0) l.least ≡ marked_lump l.dir.lumps (take l.part-index l.parts)
