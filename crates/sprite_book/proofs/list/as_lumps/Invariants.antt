use Rattle.std.proofs.Common.{◌≡◌, map, take}
use Rattle.art_rules.specs.Words.{LumpNo}
use Rattle.sprite_book.proofs.list.as_lumps.Given as goal

abbrev pub invariant-loop-number : goal.invariant-loop-number
invariant-loop-number l = map (λ (lump : LumpNo). lump.0) l.found.items ≡ take l.number-index l.numbers
