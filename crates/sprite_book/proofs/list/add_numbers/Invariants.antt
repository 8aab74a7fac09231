use Rattle.std.proofs.Common.{◌≡◌, ◌++◌, map, take}
use Rattle.art_rules.specs.declared.shapes.Shape.{Shape}
use Rattle.sprite_book.proofs.list.add_numbers.Given as goal

abbrev pub invariant-loop-shape : goal.invariant-loop-shape
invariant-loop-shape l = l.numbers.items ≡ l.initial.numbers.items ++ map (λ (shape : Shape). shape.lump.0) (take l.shape-index l.shapes)
