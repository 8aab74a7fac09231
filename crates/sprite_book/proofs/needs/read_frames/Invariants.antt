use Rattle.std.proofs.Common.{◌≡◌, take, map, Ok}
use Rattle.art_rules.specs.Words.{each_of, first_needs, frame_of, outline, outline_of}
use Rattle.sprite_book.specs.{Calls.Reads, Calls.IsWanted, Indexes.IsPlaceOf}
use Rattle.sprite_book.proofs.needs.read_frames.Given as goal

abbrev pub invariant-loop-need : goal.invariant-loop-need
invariant-loop-need g l = record {
  tells : Reads (g.S.Shelf.view l.initial.shelf) (g.S.Shelf.view l.shelf) l.dir l.initial.cache l.cache l.initial.patches l.patches (IsWanted l.dir.lumps l.needed) (λ (_ : Unit {0}). l.list.frames.items) (λ bytes. each_of (frame_of bytes l.dir.lumps) (first_needs (take l.need-index l.needed))) (Ok tt);
  outlines : each_of (outline_of l.dir.lumps) (first_needs (take l.need-index l.needed)) ≡ Ok (map outline l.list.frames.items);
  placed : IsPlaceOf l.list.index l.list.frames.items;
}
