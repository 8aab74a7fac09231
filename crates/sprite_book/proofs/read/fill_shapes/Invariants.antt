use Rattle.std.proofs.Common.{◌≡◌, take, map, Ok}
use Rattle.art_rules.specs.Words.{each_of, mention_outline, shape_of, shape_outline}
use Rattle.sprite_book.specs.Calls.{Reads, IsLumpOf}
use Rattle.sprite_book.proofs.read.fill_shapes.Given as goal

abbrev pub invariant-loop-k : goal.invariant-loop-k
invariant-loop-k g l = record {
  tells : Reads (g.S.Shelf.view l.initial.shelf) (g.S.Shelf.view l.shelf) l.dir l.initial.cache l.cache l.initial.patches l.patches (IsLumpOf l.pictures) (λ (_ : Unit {0}). take l.k l.shapes) (λ bytes. each_of (shape_of bytes) (take l.k l.pictures)) (Ok tt);
  outlines : map shape_outline (take l.k l.shapes) ≡ map mention_outline (take l.k l.pictures);
}
