use Rattle.std.proofs.Common.{◌≡◌, take}
use Rattle.art_rules.specs.Words.{book_lumps}
use Rattle.sprite_book.proofs.list.shape_numbers.Given as goal

abbrev pub invariant-loop-frame : goal.invariant-loop-frame
invariant-loop-frame l = l.numbers.items ≡ book_lumps (take l.frame-index l.frames)
